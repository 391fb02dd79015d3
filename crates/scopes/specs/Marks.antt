-- The mark of a word after the words before it, for each kind of scope.
use Rattle.std.specs.Prelude.{ℕ, Bool, true, false, if◌then◌else◌, not, ◌&&◌, ◌||◌, List, [], ◌∷◌}
use Rattle.std.specs.List.{list_any}
use Rattle.rules.specs.declared.mark.Mark.{Mark}
use Rattle.rules.specs.declared.mark.Mark.TheVariants.{Out, In}
use Rattle.rules.specs.Words.{has}

-- some word of the list has c
abbrev pub some_has : ℕ → List ℕ → Bool
some_has c = list_any (has c)

-- before r: out if w or a word before it has r, and else in
abbrev pub before_mark : ℕ → List ℕ → ℕ → Mark
before_mark r l w = if some_has r l || has r w then Out else In

-- after q: in if w or a word before it has q, and else out
abbrev pub after_mark : ℕ → List ℕ → ℕ → Mark
after_mark q l w = if some_has q l || has q w then In else Out

-- after c, or else before it
abbrev pub side_mark : Bool → ℕ → List ℕ → ℕ → Mark
side_mark true = after_mark
side_mark false = before_mark

-- the same, where some word before the list has c, or none has
abbrev pub side_mark_from : Bool → Bool → ℕ → List ℕ → ℕ → Mark
side_mark_from true after c l w = if after then In else Out
side_mark_from false after c l w = side_mark after c l w

-- the list leads inside: some word has q and not r, and no word after it has r
abbrev pub inside : ℕ → ℕ → List ℕ → Bool
inside q r [] = false
inside q r (w ∷ l) = (has q w && not (has r w) && not (some_has r l)) || inside q r l

-- between q and r: in if w has not r, and has q or comes inside; else out
abbrev pub between_mark : ℕ → ℕ → List ℕ → ℕ → Mark
between_mark q r l w = if not (has r w) && (inside q r l || has q w) then In else Out

-- the same, where the words before the list lead inside or not
abbrev pub between_mark_from : Bool → ℕ → ℕ → List ℕ → ℕ → Mark
between_mark_from b q r l w =
    if not (has r w) && ((b && not (some_has r l)) || inside q r l || has q w) then In else Out
