-- Counting word by word gives the number of places that count.
use Rattle.std.proofs.Common.{◌≡◌, ℕ, zero, suc, ◌+◌, Bool, true, false, cond, not, ◌&&◌, List, [], ◌∷◌, length, refl, ap, ◌∙◌, arith}
use Rattle.std.proofs.Math.Bool.{and-true}
use mathlib.Core.Path.{fun_ext}
use Rattle.rules.specs.Words.{has}
use Rattle.patterns.specs.Places.{how_many, stands, comes_up, counts_at}
use Rattle.patterns.specs.Steps.{counts}

-- the same after a word that has c or not
abbrev comes_up_after : Bool → ℕ → List ℕ → ℕ → Bool
comes_up_after before c l zero = stands c l 0 && not before
comes_up_after before c l (suc k) = stands c l (suc k) && not (stands c l k)

shifted : (before : Bool) (c w : ℕ) (l : List ℕ) (k : ℕ) → comes_up_after (has c w) c l k ≡ comes_up_after before c (w ∷ l) (suc k)
shifted before c w l zero = refl
shifted before c w l (suc k) = refl

rises_after : (before : Bool) (c : ℕ) (l : List ℕ) → counts true c before l ≡ how_many (comes_up_after before c l) (length l)
rises_after before c [] = refl
rises_after before c (w ∷ l) =
    ap (λ n. cond (has c w && not before) 1 0 + n)
    (rises_after (has c w) c l ∙ ap (λ t. how_many t (length l)) (fun_ext (shifted before c w l)))

first : (c : ℕ) (l : List ℕ) (k : ℕ) → comes_up_after false c l k ≡ comes_up c l k
first c l zero = and-true (stands c l 0)
first c l (suc k) = refl

rises_counted : (c : ℕ) (l : List ℕ) → counts true c false l ≡ how_many (comes_up c l) (length l)
rises_counted c l = rises_after false c l ∙ ap (λ t. how_many t (length l)) (fun_ext (first c l))

all_counted : (before : Bool) (c : ℕ) (l : List ℕ) → counts false c before l ≡ how_many (stands c l) (length l)
all_counted before c [] = refl
all_counted before c (w ∷ l) = grind (arith, and-true, all_counted (has c w) c l)

-- counting from the start gives the places that count
pub places_counted : (rises : Bool) (c : ℕ) (l : List ℕ) → counts rises c false l ≡ how_many (counts_at rises c l) (length l)
places_counted true = rises_counted
places_counted false = all_counted false
