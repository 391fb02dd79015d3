-- Formulas of linear time, and what they say of a finite list of words at one of its places, which count from 0.
use Rattle.std.specs.Prelude.{◌≡◌, ℕ, suc, ◌<◌, ◌≤◌, true, ◌⊎◌, List, length, slice_index}
use Rattle.rules.specs.Words.{has}

infixr 80 ~◌ ○◌ □◌ ◇◌
infixr 60 ◌&◌
infixr 40 ◌⇒◌
infixr 50 ◌U◌ ◌W◌
pub data Formula : Type 0 where
  -- a condition, by its number
  is : ℕ → Formula
  -- not, and, implies
  ~◌ : Formula → Formula
  ◌&◌ : Formula → Formula → Formula
  ◌⇒◌ : Formula → Formula → Formula
  -- next
  ○◌ : Formula → Formula
  -- always
  □◌ : Formula → Formula
  -- eventually
  ◇◌ : Formula → Formula
  -- until
  ◌U◌ : Formula → Formula → Formula
  -- weak until
  ◌W◌ : Formula → Formula → Formula

-- P holds at every place from i on
abbrev pub From : List ℕ → (ℕ → Type 0) → ℕ → Type 0
From l P i = (k : ℕ) → i ≤ k → k < length l → P k

-- Q holds at some place from i on, and P at every place from i to before that one
abbrev pub Until : List ℕ → (ℕ → Type 0) → (ℕ → Type 0) → ℕ → Type 0
Until l P Q i = (k : ℕ) × (i ≤ k) × (k < length l) × Q k × ((j : ℕ) → i ≤ j → j < k → P j)

-- the formula holds of the list l at i. A condition needs place i, and next needs the place after it; always,
-- eventually and the untils speak of the places from i on that there are.
abbrev pub Holds : Formula → List ℕ → ℕ → Type 0
Holds (is c) l i = (i < length l) × (has c (slice_index l i) ≡ true)
Holds (~ f) l i = Holds f l i → ⊥
Holds (f & g) l i = Holds f l i × Holds g l i
Holds (f ⇒ g) l i = Holds f l i → Holds g l i
Holds (○ f) l i = (suc i < length l) × Holds f l (suc i)
Holds (□ f) l i = From l (Holds f l) i
Holds (◇ f) l i = (k : ℕ) × (i ≤ k) × (k < length l) × Holds f l k
Holds (f U g) l i = Until l (Holds f l) (Holds g l) i
Holds (f W g) l i = Until l (Holds f l) (Holds g l) i ⊎ From l (Holds f l) i

-- a list satisfies a formula that holds of it at its first place
abbrev pub Satisfies : Formula → List ℕ → Type 0
Satisfies f l = Holds f l 0
