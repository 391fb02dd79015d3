-- The scopes once more, by the places of a list.
use Rattle.std.specs.Prelude.{◌≡◌, ℕ, ◌<◌, true, false, if◌then◌else◌, not, ◌&&◌, ◌↔◌, List, [], ◌∷◌, ◌++◌, length, IsTrue, SomeIndex, slice_index}
use Rattle.rules.specs.declared.mark.Mark.TheVariants.{Out, In}
use Rattle.rules.specs.Words.{has}
use Rattle.scopes.specs.Marks.{some_has, inside, between_mark}

-- some place has c
abbrev pub SomePlace : ℕ → List ℕ → Type 0
SomePlace c l = SomeIndex l (λ k. IsTrue (has c (slice_index l k)))

-- some place has q and not r, and no place after it has r
pub record Open (q r : ℕ) (l : List ℕ) : Type 0 where
  pub place : ℕ
  pub there : place < length l
  pub opens : has q (slice_index l place) ≡ true
  pub closes_not : has r (slice_index l place) ≡ false
  pub open_since : (j : ℕ) → place < j → j < length l → has r (slice_index l j) ≡ false

-- what before and after look for in the words so far
abbrev pub SeenByPlaces : Type 0
SeenByPlaces = (c : ℕ) (l : List ℕ) → IsTrue (some_has c l) ↔ SomePlace c l

-- a list leads inside exactly when its last opening is not closed
abbrev pub InsideByPlaces : Type 0
InsideByPlaces = (q r : ℕ) (l : List ℕ) → IsTrue (inside q r l) ↔ Open q r l

-- outside, a word with q and not r leads inside; inside, a word with r leads outside
abbrev pub Turns : Type 0
Turns =
    (q r w : ℕ) (l : List ℕ)
    → inside q r (l ++ w ∷ []) ≡ (if inside q r l then not (has r w) else (has q w && not (has r w)))

-- a word is in exactly when the list that ends with it leads inside
abbrev pub InInside : Type 0
InInside = (q r w : ℕ) (l : List ℕ) → between_mark q r l w ≡ (if inside q r (l ++ w ∷ []) then In else Out)
