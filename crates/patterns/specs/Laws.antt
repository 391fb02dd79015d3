-- The plain patterns by places, and examples of all, computed.
use Rattle.std.specs.Prelude.{◌≡◌, ℕ, true, false, ◌↔◌, List, [], ◌∷◌, IsTrue, EachIndex, slice_index}
use Rattle.rules.specs.Words.{has}
use Rattle.patterns.specs.declared.form.Form.TheVariants.{Exactly, AtLeast, AtMost}
use Rattle.patterns.specs.Places.{always, never, eventually, precisely, counted}

-- always: exactly the lists of which every place has c
abbrev pub AlwaysByPlaces : Type 0
AlwaysByPlaces =
    (c : ℕ) (l : List ℕ) → IsTrue (always c l) ↔ EachIndex l (λ k. IsTrue (has c (slice_index l k)))

-- never: exactly the lists of which no place has c
abbrev pub NeverByPlaces : Type 0
NeverByPlaces =
    (c : ℕ) (l : List ℕ) → IsTrue (never c l) ↔ EachIndex l (λ k. ¬ IsTrue (has c (slice_index l k)))

-- the two kinds of counts are these
abbrev pub Kinds : Type 0
Kinds = (counted true ≡ eventually) × (counted false ≡ precisely)

-- condition 0 stands at three places of 1, 1, 0, 1, and comes up at two of them
abbrev pub Counted : Type 0
Counted =
    (eventually AtMost 0 2 (1 ∷ 1 ∷ 0 ∷ 1 ∷ []) ≡ true)
    × (eventually Exactly 0 2 (1 ∷ 1 ∷ 0 ∷ 1 ∷ []) ≡ true)
    × (eventually AtLeast 0 3 (1 ∷ 1 ∷ 0 ∷ 1 ∷ []) ≡ false)
    × (precisely AtMost 0 2 (1 ∷ 1 ∷ 0 ∷ 1 ∷ []) ≡ false)
    × (precisely Exactly 0 3 (1 ∷ 1 ∷ 0 ∷ 1 ∷ []) ≡ true)
    × (precisely AtLeast 0 3 (1 ∷ 1 ∷ 0 ∷ 1 ∷ []) ≡ true)

-- nothing comes up in the empty list, of which everything holds always and never
abbrev pub Empty : Type 0
Empty =
    (eventually AtLeast 0 1 [] ≡ false)
    × (eventually Exactly 0 0 [] ≡ true)
    × (always 0 [] ≡ true)
    × (never 0 [] ≡ true)

abbrev pub Plain : Type 0
Plain =
    (never 0 (0 ∷ 2 ∷ 0 ∷ []) ≡ true)
    × (never 0 (0 ∷ 3 ∷ 0 ∷ []) ≡ false)
    × (always 1 (2 ∷ 2 ∷ []) ≡ true)
    × (always 1 (2 ∷ 1 ∷ []) ≡ false)
