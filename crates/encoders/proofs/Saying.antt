-- The word says of each condition whether one of its terms fits.
use Rattle.std.proofs.Common.{◌≡◌, ℕ, zero, suc, ◌+◌, ◌*◌, ◌/◌, ◌%◌, ◌^◌, ◌<◌, Bool, true, false, cond, eqb, List, [], ◌∷◌, map, length, get_or, ℤ, ◌≤ℤ◌, Decides, sym, refl, ap, ◌∙◌, subst, mul_comm, pow-suc, div-one, arith, rules}
use native.Mathlib.Nat.{zero-div, div-div-eq-div-mul, add-mul-div_left, add-mul-mod_self_left}
use lib.Signed.{le_z}
use Rattle.std.proofs.lemmas.Int.{ints}
use Rattle.std.proofs.Math.ListN.{get_or-map}
use Rattle.std.proofs.lemmas.List.{length-map}
use Rattle.std.proofs.lemmas.Bool.Decides.{Decides-at, Decides-by_or}
use Rattle.std.specs.List.{list_any}
use Rattle.rules.specs.Words.{has}
use Rattle.encoders.specs.Holding.{number, word}
use Rattle.encoders.specs.Laws.{Says}
use Rattle.encoders.proofs.Numbering.{number_below}

lowest : (b : Bool) → eqb (cond b 1 0 % 2) 1 ≡ b
lowest true = refl
lowest false = refl

no_half : (b : Bool) → cond b 1 0 / 2 ≡ 0
no_half true = refl
no_half false = refl

higher : (b : Bool) (n i : ℕ) → (cond b 1 0 + 2 * n) / 2 ^ suc i ≡ n / 2 ^ i
higher b n i =
    ap (λ m. (cond b 1 0 + 2 * n) / m) (pow-suc 2 i ∙ mul_comm (2 ^ i) 2)
    ∙ sym (div-div-eq-div-mul (cond b 1 0 + 2 * n) 2 (2 ^ i))
    ∙ ap (λ m. m / 2 ^ i) (add-mul-div_left (cond b 1 0) n (omega arith) ∙ omega (arith, no_half b))

-- bit i of the number is the one at place i
has_number : (i : ℕ) (bs : List Bool) → has i (number bs) ≡ get_or bs i false
has_number i [] = ap (λ m. eqb (m % 2) 1) (zero-div (2 ^ i))
has_number zero (b ∷ bs) =
    ap (λ m. eqb (m % 2) 1) (div-one (cond b 1 0 + 2 * number bs))
    ∙ ap (λ m. eqb m 1) (add-mul-mod_self_left (cond b 1 0) 2 (number bs))
    ∙ lowest b
has_number (suc i) (b ∷ bs) = ap (λ m. eqb (m % 2) 1) (higher b (number bs) i) ∙ has_number i bs

module _ {A : Type 0} (fits : A → Bool) where
  pub word_says : (Fits : A → Type 0) (each : (t : A) → Decides (fits t) (Fits t)) (lists : List (List A)) → length lists ≡ 16 → Says Fits lists (word fits lists)
  word_says Fits each lists n = (
    subst (λ m. number (map (list_any fits) lists) < 2 ^ m) (length-map lists (list_any fits) ∙ n) (number_below (map (list_any fits) lists)),
    λ i. Decides-at (has i (word fits lists)) (list_any fits (get_or lists i [])) (has_number i (map (list_any fits) lists) ∙ get_or-map (list_any fits) lists i []) (Decides-by_or fits Fits (list_any fits) each refl (λ _ _. refl) (get_or lists i [])),
  )

pub decides_le_z : (a b : ℤ) → Decides (le_z a b) (a ≤ℤ b)
decides_le_z a b = (λ e. search (rules, ints), λ h. search (rules, ints))
