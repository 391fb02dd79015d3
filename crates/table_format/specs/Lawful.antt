-- What a lawful table is, and what each fault says of the bytes.
use Rattle.std.specs.Prelude.{◌≡◌, ℕ, ◌+◌, ◌*◌, ◌<◌, ◌≤◌, List, length, slice_index}
use Rattle.table_format.specs.declared.kind.Kind.{Kind}
use Rattle.table_format.specs.declared.fault.TableFault.{TableFault}
use Rattle.table_format.specs.declared.fault.TableFault.TheVariants.{Length, States, Flag, Width, Entry}
use Rattle.table_format.specs.Layout.{most, target, states_of, width_of, size_of, entry_of}

pub record Lawful (kind : Kind) (t : List ℕ) : Type 0 where
  -- a table has at least one state and at most as many as its kind may have
  pub some_states : 1 ≤ states_of t
  pub few_states : states_of t ≤ most kind
  -- each state's flag is 0 or 1
  pub flags : (s : ℕ) → s < states_of t → slice_index t (1 + s) ≤ 1
  pub narrow : width_of t ≤ 6
  -- the bytes end with the last row
  pub exact : length t ≡ 2 + states_of t + states_of t * size_of t
  -- each entry leads to a state
  pub entries : (s a : ℕ) → s < states_of t → a < size_of t → target kind (entry_of t s a) < states_of t

-- what is wrong with the bytes
abbrev pub Blames : Kind → List ℕ → TableFault → Type 0
Blames kind t Length = length t ≡ 2 + states_of t + states_of t * size_of t → ⊥
Blames kind t States = (1 ≤ states_of t) × (states_of t ≤ most kind) → ⊥
Blames kind t (Flag p) = (1 ≤ p) × (p ≤ states_of t) × (1 < slice_index t p) × ((k : ℕ) → 1 ≤ k → k < p → slice_index t k ≤ 1)
Blames kind t (Width p) = (p ≡ 1 + states_of t) × (6 < slice_index t p)
Blames kind t (Entry p) =
    (2 + states_of t ≤ p) × (p < length t) × (states_of t ≤ target kind (slice_index t p))
    × ((k : ℕ) → 2 + states_of t ≤ k → k < p → target kind (slice_index t k) < states_of t)
