-- The table that a scope table s and a pattern table p compose to, state by state and entry by entry.
use Rattle.std.specs.Prelude.{ℕ, ◌+◌, ◌-◌, ◌*◌, ◌/◌, ◌%◌, ◌<◌, Bool, true, false, cond, List, ◌∷◌, ◌++◌, map, ◌==◌}
use Rattle.std.specs.List.{range_with_len, flat_map}
use Rattle.rules.specs.declared.mark.Mark.{Mark}
use Rattle.rules.specs.declared.mark.Mark.TheVariants.{Out, In, Last, Anew}
use Rattle.table_format.specs.declared.kind.Kind.TheVariants.{Scope}
use Rattle.table_format.specs.Layout.{target, states_of, width_of, size_of, flag_of, entry_of}
use Rattle.tables.specs.Runs.{mark_of}
use Rattle.composing.specs.declared.place.Place.{Place}
use Rattle.composing.specs.declared.place.Place.TheVariants.{Failed, Outside, Inside}

-- each scope state has a block of numbers: one for no open stretch, then one for each pattern state
abbrev pub block_of : List ℕ → ℕ
block_of p = states_of p + 1

-- one block for each scope state, and failed
abbrev pub total_of : List ℕ → List ℕ → ℕ
total_of p s = states_of s * block_of p + 1

-- the number of a place, where a block has b numbers and there are m blocks
abbrev pub place_number : ℕ → ℕ → Place → ℕ
place_number b m Failed = m * b
place_number b m (Outside i) = i * b
place_number b m (Inside i q) = i * b + 1 + q

-- the place that a number stands for
abbrev pub place_at : ℕ → ℕ → ℕ → Place
place_at b m k = cond (k == m * b) Failed (cond (k % b == 0) (Outside (k / b)) (Inside (k / b) (k % b - 1)))

-- the places of n pattern states and m scope states
abbrev pub Within : ℕ → ℕ → Place → Type 0
Within n m Failed = Unit {0}
Within n m (Outside i) = i < m
Within n m (Inside i q) = (i < m) × (q < n)

-- an open stretch counts only where the scope says yes
abbrev pub place_flag : List ℕ → List ℕ → Place → Bool
place_flag p s Failed = false
place_flag p s (Outside i) = true
place_flag p s (Inside i q) = cond (flag_of s i) (flag_of p q) true

-- where a word with mark m leads, when the scope goes to state i: fine says that the open stretch, if any, may
-- end before the word, on is the state of the stretch with the word, and fresh that of a stretch of the word alone
abbrev pub lands : List ℕ → Mark → ℕ → Bool → ℕ → ℕ → Place
lands p Out i fine on fresh = cond fine (Outside i) Failed
lands p In i fine on fresh = Inside i on
lands p Last i fine on fresh = cond (flag_of p on) (Outside i) Failed
lands p Anew i fine on fresh = Inside i fresh

-- where a letter leads from a place
abbrev pub leads : List ℕ → List ℕ → ℕ → Place → Place
leads p s a Failed = Failed
leads p s a (Outside i) = lands p (mark_of (entry_of s i a)) (target Scope (entry_of s i a)) true (entry_of p 0 a) (entry_of p 0 a)
leads p s a (Inside i q) = lands p (mark_of (entry_of s i a)) (target Scope (entry_of s i a)) (flag_of p q) (entry_of p q a) (entry_of p 0 a)

abbrev pub bit_of : Bool → ℕ
bit_of true = 1
bit_of false = 0

-- the flag and the entry of the state with number k
abbrev pub flag_byte : List ℕ → List ℕ → ℕ → ℕ
flag_byte p s k = bit_of (place_flag p s (place_at (block_of p) (states_of s) k))

abbrev pub entry_from : List ℕ → List ℕ → Place → ℕ → ℕ
entry_from p s x a = place_number (block_of p) (states_of s) (leads p s a x)

abbrev pub entry_byte : List ℕ → List ℕ → ℕ → ℕ → ℕ
entry_byte p s k = entry_from p s (place_at (block_of p) (states_of s) k)

abbrev pub row_of : List ℕ → List ℕ → ℕ → List ℕ
row_of p s k = map (entry_byte p s k) (range_with_len 0 (size_of p))

-- the rows of the first n states
abbrev pub rows_of : List ℕ → List ℕ → ℕ → List ℕ
rows_of p s n = flat_map (row_of p s) (range_with_len 0 n)

abbrev pub composed : List ℕ → List ℕ → List ℕ
composed p s =
    total_of p s ∷ (map (flag_byte p s) (range_with_len 0 (total_of p s)) ++ (width_of p ∷ rows_of p s (total_of p s)))

abbrev pub composed_length : List ℕ → List ℕ → ℕ
composed_length p s = 2 + total_of p s + total_of p s * size_of p
