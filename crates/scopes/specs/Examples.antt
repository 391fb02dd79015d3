-- The marks of some lists, computed.
use Rattle.std.specs.Prelude.{◌≡◌, ℕ, List, [], ◌∷◌}
use Rattle.rules.specs.declared.mark.Mark.{Mark}
use Rattle.rules.specs.declared.mark.Mark.TheVariants.{Out, In}
use Rattle.scopes.specs.Marks.{before_mark, after_mark, between_mark}

-- the marks of the words of a list, f giving the mark of a word after the words before it
abbrev pub marks_of : (List ℕ → ℕ → Mark) → List ℕ → List Mark
marks_of f [] = []
marks_of f (w ∷ l) = f [] w ∷ marks_of (λ k v. f (w ∷ k) v) l

-- a stretch that closes, and then a word that opens another
abbrev pub Closes : Type 0
Closes =
    (marks_of (between_mark 1 2) (0 ∷ 2 ∷ 0 ∷ 4 ∷ []) ≡ Out ∷ In ∷ In ∷ Out ∷ [])
    × (marks_of (between_mark 1 2) (2 ∷ 4 ∷ 0 ∷ 2 ∷ 2 ∷ []) ≡ In ∷ Out ∷ Out ∷ In ∷ In ∷ [])

-- a word with both conditions opens nothing, neither outside nor where it closes
abbrev pub Both : Type 0
Both =
    (marks_of (between_mark 1 2) (6 ∷ 1 ∷ 4 ∷ []) ≡ Out ∷ Out ∷ Out ∷ [])
    × (marks_of (between_mark 1 2) (2 ∷ 6 ∷ 1 ∷ []) ≡ In ∷ Out ∷ Out ∷ [])

-- before and after turn once, at the first word with the condition
abbrev pub Once : Type 0
Once =
    (marks_of (before_mark 1) (0 ∷ 1 ∷ 2 ∷ 0 ∷ 3 ∷ []) ≡ In ∷ In ∷ Out ∷ Out ∷ Out ∷ [])
    × (marks_of (after_mark 1) (0 ∷ 1 ∷ 2 ∷ 0 ∷ 3 ∷ []) ≡ Out ∷ Out ∷ In ∷ In ∷ In ∷ [])
