-- The judged stretches once more, as facts of the places.
use Rattle.std.specs.Prelude.{◌≡◌, ℕ, zero, suc, ◌<◌, ◌≤◌, Bool, true, ◌⊎◌, List, length, slice_index_or}
use Rattle.rules.specs.declared.mark.Mark.{Mark}
use Rattle.rules.specs.declared.mark.Mark.TheVariants.{Out, In, Last, Anew}
use Rattle.layer.specs.Blocks.{part, marks_of}

-- place k is there, and has mark m
abbrev pub Place : List Mark → ℕ → Mark → Type 0
Place ms k m = (k < length ms) × (slice_index_or ms k Out ≡ m)

-- nothing is open at place i: it is the first place, or the mark before it is out or last
abbrev pub Border : List Mark → ℕ → Type 0
Border ms zero = Unit {0}
Border ms (suc h) = Place ms h Out ⊎ Place ms h Last

pub record Block (ms : List Mark) (i j : ℕ) : Type 0 where
  pub ordered : i ≤ j
  pub within : j < length ms
  pub begun : Place ms i Anew ⊎ ((Place ms i In ⊎ Place ms i Last) × Border ms i)
  pub no_out : (k : ℕ) → i ≤ k → k ≤ j → Place ms k Out → ⊥
  pub no_last : (k : ℕ) → i ≤ k → k < j → Place ms k Last → ⊥
  pub no_anew : (k : ℕ) → i < k → k ≤ j → Place ms k Anew → ⊥

abbrev pub Closed : List Mark → ℕ → Type 0
Closed ms j = Place ms j Last ⊎ Place ms (suc j) Out

abbrev pub Unclosed : List Mark → ℕ → Type 0
Unclosed ms j = (suc j ≡ length ms) × (Place ms j Last → ⊥)

-- every closed block is judged, and an unclosed one if the scope's answer is yes
abbrev pub Judged : List Mark → Bool → ℕ → ℕ → Type 0
Judged ms says i j = Block ms i j × (Closed ms j ⊎ (Unclosed ms j × (says ≡ true)))

-- p accepts each judged stretch on its own
abbrev pub AcceptsEach : (List ℕ → ℕ → Mark) → (List ℕ → Bool) → (List ℕ → Bool) → List ℕ → Type 0
AcceptsEach f a p ws = (i j : ℕ) → Judged (marks_of f ws) (a ws) i j → p (part i j ws) ≡ true
