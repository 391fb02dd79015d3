-- Chains of conditions in a list of words, by the places of the words.
use Rattle.std.specs.Prelude.{◌≡◌, ℕ, ◌<◌, ◌≤◌, true, List, [], ◌∷◌, length, slice_index}
use Rattle.rules.specs.Words.{has}

-- i is a place of the list l, and the word there has the condition p
abbrev pub At : ℕ → List ℕ → ℕ → Type 0
At p l i = (i < length l) × (has p (slice_index l i) ≡ true)

-- the conditions of the chain hold in turn at places of l in strictly rising order, of which i is the first and e
-- the final one
abbrev pub Span : List ℕ → List ℕ → ℕ → ℕ → Type 0
Span [] l i e = ⊥
Span (p ∷ []) l i e = At p l i × (i ≡ e)
Span (p ∷ q ∷ chain) l i e = At p l i × ((k : ℕ) × (i < k) × Span (q ∷ chain) l k e)

abbrev pub Occurs : List ℕ → List ℕ → Type 0
Occurs chain l = (i : ℕ) × (e : ℕ) × Span chain l i e

-- e is the earliest of the places that are so
abbrev pub Earliest : (ℕ → Type 0) → ℕ → Type 0
Earliest so e = so e × ((k : ℕ) → so k → e ≤ k)

-- where the second chain occurs, its first condition has an earliest place f, and the first chain is complete by f
abbrev pub Precedes : List ℕ → List ℕ → List ℕ → Type 0
Precedes first second l = Occurs second l → (f : ℕ) × Earliest (At (slice_index second 0) l) f × ((i : ℕ) × (e : ℕ) × Span first l i e × (e ≤ f))

-- a stimulus that can be run through from place i is complete at an earliest place e, and the response can be run
-- through from e on
abbrev pub Responds : List ℕ → List ℕ → List ℕ → Type 0
Responds stimulus response l = (i : ℕ) → ((d : ℕ) × Span stimulus l i d) → (e : ℕ) × Earliest (Span stimulus l i) e × ((j : ℕ) × (d : ℕ) × Span response l j d × (e ≤ j))
