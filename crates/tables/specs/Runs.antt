-- What a table says of lists of words. Reading begins in state 0, and each word leads on by its letter, the word's remainder by the length of a row.
use Rattle.std.specs.Prelude.{ℕ, ◌/◌, ◌%◌, Bool, cond, List, [], ◌∷◌, ◌==◌}
use Rattle.rules.specs.declared.mark.Mark.{Mark}
use Rattle.rules.specs.declared.mark.Mark.TheVariants.{Out, In, Last, Anew}
use Rattle.table_format.specs.declared.kind.Kind.{Kind}
use Rattle.table_format.specs.declared.kind.Kind.TheVariants.{Pattern, Scope}
use Rattle.table_format.specs.Layout.{target, size_of, flag_of, entry_of}

abbrev pub letter_of : List ℕ → ℕ → ℕ
letter_of t w = w % size_of t

-- the state that a word leads to from state s
abbrev pub state_next : Kind → List ℕ → ℕ → ℕ → ℕ
state_next kind t s w = target kind (entry_of t s (letter_of t w))

-- the state after a list of words, from state s
abbrev pub state_after : Kind → List ℕ → ℕ → List ℕ → ℕ
state_after kind t s [] = s
state_after kind t s (w ∷ l) = state_after kind t (state_next kind t s w) l

-- a scope's entry has the mark's number above its six low bits
abbrev pub mark_of : ℕ → Mark
mark_of e = cond (e / 64 == 0) Out (cond (e / 64 == 1) In (cond (e / 64 == 2) Last Anew))

-- the same from state s, for what is still to come
abbrev pub accepts_from : List ℕ → ℕ → List ℕ → Bool
accepts_from t s l = flag_of t (state_after Pattern t s l)

abbrev pub marks_from : List ℕ → ℕ → List ℕ → ℕ → Mark
marks_from t s l w = mark_of (entry_of t (state_after Scope t s l) (letter_of t w))

abbrev pub says_from : List ℕ → ℕ → List ℕ → Bool
says_from t s l = flag_of t (state_after Scope t s l)

-- a pattern table accepts a list when the state after it has flag 1
abbrev pub accepts : List ℕ → List ℕ → Bool
accepts t l = accepts_from t 0 l

-- the mark that a scope table gives a word after the words l
abbrev pub marks : List ℕ → List ℕ → ℕ → Mark
marks t l w = marks_from t 0 l w

-- a scope table says yes after a list when the state after it has flag 1
abbrev pub says : List ℕ → List ℕ → Bool
says t l = says_from t 0 l
