-- Where a table has what. Its bytes are, in order, the number n of states, n flags, the width k, and n rows of 2^k entries.
use Rattle.std.specs.Prelude.{ℕ, ◌+◌, ◌*◌, ◌%◌, ◌^◌, Bool, true, false, cond, ◌&&◌, List, [], ◌∷◌, Some, None, Option, ◌==◌, nat_lt, slice_index}
use Rattle.table_format.specs.declared.kind.Kind.{Kind}
use Rattle.table_format.specs.declared.kind.Kind.TheVariants.{Pattern, Scope}

-- the largest number of states
abbrev pub most : Kind → ℕ
most Pattern = 250
most Scope = 8

abbrev pub is_pattern : Kind → Bool
is_pattern Pattern = true
is_pattern Scope = false

-- the state that an entry leads to: a scope's entry is the state and 64 times the mark
abbrev pub target : Kind → ℕ → ℕ
target Pattern e = e
target Scope e = e % 64

abbrev pub states_of : List ℕ → ℕ
states_of t = slice_index t 0

abbrev pub width_of : List ℕ → ℕ
width_of t = slice_index t (1 + states_of t)

-- the number of letters, which is the length of a row
abbrev pub size_of : List ℕ → ℕ
size_of t = 2 ^ width_of t

abbrev pub flag_of : List ℕ → ℕ → Bool
flag_of t s = slice_index t (1 + s) == 1

-- the first byte of the row of state s
abbrev pub row_start : List ℕ → ℕ → ℕ
row_start t s = 2 + states_of t + s * size_of t

abbrev pub entry_of : List ℕ → ℕ → ℕ → ℕ
entry_of t s a = slice_index t (row_start t s + a)

-- the two at any numbers: none where there is no such state or letter
abbrev pub flag_at : List ℕ → ℕ → Option Bool
flag_at t s = cond (nat_lt s (states_of t)) (Some (flag_of t s)) None

abbrev pub entry_at : List ℕ → ℕ → ℕ → Option ℕ
entry_at t s a = cond (nat_lt s (states_of t) && nat_lt a (size_of t)) (Some (entry_of t s a)) None

-- the table of width 0 that is held until another is: one state that accepts; for a scope it marks every word in, and says yes
abbrev pub built_in : Kind → List ℕ
built_in Pattern = 1 ∷ 1 ∷ 0 ∷ 0 ∷ []
built_in Scope = 1 ∷ 1 ∷ 0 ∷ 64 ∷ []
