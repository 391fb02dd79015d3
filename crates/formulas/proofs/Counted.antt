-- How often a condition comes up, against the formulas that count it.
use Rattle.std.proofs.Common.{◌≡◌, ℕ, zero, suc, ◌+◌, Bool, true, false, cond, not, ◌&&◌, ◌||◌, leb, List, [], ◌∷◌, length, sym, refl, ap, ◌∙◌, ap₂, zero-add, arith}
use Rattle.std.proofs.lemmas.Bool.{le-leb}
use Rattle.std.proofs.lemmas.Bool.Decides.{nat_tests}
use Rattle.rules.specs.Words.{has}
use Rattle.patterns.specs.declared.form.Form.TheVariants.{AtLeast, AtMost}
use Rattle.patterns.specs.Places.{eventually, how_many, comes_up}
use Rattle.formulas.specs.Formulas.{Formula}
use Rattle.formulas.specs.Formulas.Formula.{is, ~◌, □◌, ◇◌, ◌W◌}
use Rattle.formulas.specs.Tests.{test_of}

-- how often c comes up, where nothing or a word without c stands before the list, and where a word with c does
abbrev fresh : ℕ → List ℕ → ℕ
fresh c l = how_many (comes_up c l) (length l)

abbrev going : ℕ → List ℕ → ℕ
going c [] = 0
going c (w ∷ l) = how_many (λ k. comes_up c (w ∷ l) (suc k)) (length l)

goes_on : (c w : ℕ) (l : List ℕ) → going c (w ∷ l) ≡ cond (has c w) (going c l) (fresh c l)
goes_on c w [] = none (has c w)
  where
    none : (b : Bool) → ◌≡◌ {A = ℕ} 0 (cond b 0 0)
    none true = refl
    none false = refl
goes_on c w (v ∷ l) = one (has c w) (has c v) (going c (v ∷ l))
  where
    one : (b d : Bool) (n : ℕ) → cond (d && not b) 1 0 + n ≡ cond b n (cond d 1 0 + n)
    one true true n = zero-add n
    one true false n = zero-add n
    one false true n = refl
    one false false n = refl

module _ (c : ℕ) where
  somewhere_counted : (l : List ℕ) → test_of (◇ is c) l ≡ leb 1 (fresh c l)
  somewhere_counted [] = refl
  somewhere_counted (w ∷ l) =
      ap (λ b. has c w || b) (somewhere_counted l) ∙ step (has c w) (going c l) (fresh c l) ∙ ap (λ n. leb 1 (cond (has c w) 1 0 + n)) (sym (goes_on c w l))
    where
      step : (b : Bool) (g f : ℕ) → (b || leb 1 f) ≡ leb 1 (cond b 1 0 + cond b g f)
      step b g f = grind (arith, nat_tests)

  nowhere_counted : (l : List ℕ) → test_of (□ ~ is c) l ≡ leb (fresh c l) 0
  nowhere_counted [] = refl
  nowhere_counted (w ∷ l) =
      ap (λ b. not (has c w) && b) (nowhere_counted l) ∙ step (has c w) (going c l) (fresh c l) ∙ ap (λ n. leb (cond (has c w) 1 0 + n) 0) (sym (goes_on c w l))
    where
      step : (b : Bool) (g f : ℕ) → (not b && leb f 0) ≡ leb (cond b 1 0 + cond b g f) 0
      step b g f = grind (arith, nat_tests)

  -- c may go on, and come up again as often as the formula after it lets it
  going_counted : (f : Formula) (r : ℕ) → ((l : List ℕ) → test_of f l ≡ leb (fresh c l) r) → (l : List ℕ) → test_of (is c W f) l ≡ leb (going c l) r
  going_counted f r h [] = sym (le-leb 0 r (omega arith))
  going_counted f r h (w ∷ l) =
      ap₂ (λ a b. a || (has c w && b)) (h (w ∷ l) ∙ ap (λ n. leb (cond (has c w) 1 0 + n) r) (goes_on c w l)) (going_counted f r h l)
      ∙ step (has c w) (going c l) (fresh c l)
      ∙ ap (λ n. leb n r) (sym (goes_on c w l))
    where
      step : (b : Bool) (g n : ℕ) → (leb (cond b 1 0 + cond b g n) r || (b && leb g r)) ≡ leb (cond b g n) r
      step b g n = grind (arith, nat_tests)

  -- c may stay away, and come up once more than the formula after it lets it
  fresh_counted : (f : Formula) (r : ℕ) → ((l : List ℕ) → test_of f l ≡ leb (going c l) r) → (l : List ℕ) → test_of (~ is c W f) l ≡ leb (fresh c l) (suc r)
  fresh_counted f r h [] = sym (le-leb 0 (suc r) (omega arith))
  fresh_counted f r h (w ∷ l) =
      ap₂ (λ a b. a || (not (has c w) && b)) (h (w ∷ l) ∙ ap (λ n. leb n r) (goes_on c w l)) (fresh_counted f r h l)
      ∙ step (has c w) (going c l) (fresh c l)
      ∙ ap (λ n. leb (cond (has c w) 1 0 + n) (suc r)) (sym (goes_on c w l))
    where
      step : (b : Bool) (g n : ℕ) → (leb (cond b g n) r || (not b && leb n (suc r))) ≡ leb (cond b 1 0 + cond b g n) (suc r)
      step b g n = grind (arith, nat_tests)

-- c comes up at most so many times
abbrev at_most : ℕ → ℕ → Formula
at_most c zero = □ ~ is c
at_most c (suc t) = ~ is c W (is c W at_most c t)

at_most_counted : (c t : ℕ) (l : List ℕ) → test_of (at_most c t) l ≡ leb (fresh c l) t
at_most_counted c zero l = nowhere_counted c l
at_most_counted c (suc t) l = fresh_counted c (is c W at_most c t) t (going_counted c (at_most c t) t (at_most_counted c t)) l

pub at_least_once : (c : ℕ) (l : List ℕ) → eventually AtLeast c 1 l ≡ test_of (◇ is c) l
at_least_once c l = sym (somewhere_counted c l)

pub at_most_twice : (c : ℕ) (l : List ℕ) → eventually AtMost c 2 l ≡ test_of (~ is c W (is c W (~ is c W (is c W □ ~ is c)))) l
at_most_twice c l = sym (at_most_counted c 2 l)
