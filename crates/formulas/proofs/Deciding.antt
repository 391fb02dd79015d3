-- The test of a formula, on what is left of a list from a place on, decides whether the formula holds there.
use Rattle.std.proofs.Common.{◌≡◌, ℕ, zero, suc, ◌+◌, ◌<◌, ◌≤◌, Bool, true, false, not, ◌&&◌, ◌||◌, ◌⊎◌, List, [], ◌∷◌, length, get_or, drop, Decides, sym, refl, ap, ◌∙◌, subst, inl, inr, ⊎_elim, arith, length-drop, drop-cons}
use Rattle.std.proofs.Math.Bool.{or_assoc, and-or_distrib_left}
use Rattle.std.proofs.lemmas.List.{drop_all}
use Rattle.std.proofs.lemmas.Bool.{both_ways, cases_lt}
use Rattle.std.proofs.lemmas.Bool.Decides.{Decides-at, Decides-like, Decides-not, Decides-and, Decides-or}
use Rattle.rules.specs.Words.{has}
use Rattle.formulas.specs.Formulas.{From, Until, Holds}
use Rattle.formulas.specs.Formulas.Formula.{is, ~◌, ◌&◌, ◌⇒◌, ○◌, □◌, ◇◌, ◌U◌, ◌W◌}
use Rattle.formulas.specs.Tests.{Test, first_has, next, throughout, somewhere, until, unless, test_of}
use Rattle.formulas.specs.Laws.{TestsDecide}

decides_implies : {P Q : Type 0} (a b : Bool) → Decides a P → Decides b Q → Decides (not a || b) (P → Q)
decides_implies true b h k = (λ e p. k.0 e, λ f. k.1 (f (h.0 refl)))
decides_implies false b h k = (λ e p. absurd (both_ways false refl (h.1 p)), λ f. refl)

-- weak until is until, or always
pub unless_or : (s t : Test) (l : List ℕ) → unless s t l ≡ (until s t l || throughout s l)
unless_or s t [] = refl
unless_or s t (w ∷ l) = ap (λ b. t (w ∷ l) || (s (w ∷ l) && b)) (unless_or s t l) ∙ spread (t (w ∷ l)) (s (w ∷ l)) (until s t l) (throughout s l)
  where
    spread : (a b x y : Bool) → (a || (b && (x || y))) ≡ ((a || (b && x)) || (b && y))
    spread a b x y = ap (λ c. a || c) (and-or_distrib_left b x y) ∙ sym (or_assoc a (b && x) (b && y))

-- eventually is until, from anywhere
somewhere_until : (t : Test) (l : List ℕ) → somewhere t l ≡ until (λ _. true) t l
somewhere_until t [] = refl
somewhere_until t (w ∷ l) = ap (λ b. t (w ∷ l) || b) (somewhere_until t l)

-- what holds past the end, and at each place if after it, holds everywhere
down : (n : ℕ) (R : ℕ → Type 0) → ((i : ℕ) → n ≤ i → R i) → ((i : ℕ) → i < n → R (suc i) → R i) → (i : ℕ) → R i
down n R past step i = go n i (omega arith)
  where
    go : (d i : ℕ) → n ≤ d + i → R i
    go zero i h = past i (omega arith)
    go (suc d) i h = ⊎_elim (λ p. step i p (go d (suc i) (omega arith))) (past i) (cases_lt i n)

module _ (l : List ℕ) where
  word : (i : ℕ) → i < length l → drop i l ≡ get_or l i 0 ∷ drop (suc i) l
  word i h = drop-cons l i 0 h

  -- at the place i itself, or after it
  here_or_after : (P : ℕ → Type 0) (i k : ℕ) → i ≤ k → P i → (suc i ≤ k → P k) → P k
  here_or_after P i k h p f = ⊎_elim f (λ g. let e : i ≡ k = omega arith in subst P e p) (cases_lt i k)

  has_decides : (c i : ℕ) → Decides (first_has c (drop i l)) ((i < length l) × (has c (get_or l i 0) ≡ true))
  has_decides c i = ⊎_elim inside outside (cases_lt i (length l))
    where
      inside : i < length l → Decides (first_has c (drop i l)) ((i < length l) × (has c (get_or l i 0) ≡ true))
      inside h = rw (word i h) ((λ e. (h, e)), (λ p. p.1))

      outside : length l ≤ i → Decides (first_has c (drop i l)) ((i < length l) × (has c (get_or l i 0) ≡ true))
      outside h = rw (drop_all i l h) ((λ e. absurd (both_ways false refl e)), (λ p. absurd (omega (arith, p.0))))

  module _ (t : Test) (Q : ℕ → Type 0) (tells : (i : ℕ) → Decides (t (drop i l)) (Q i)) where
    next_decides : (i : ℕ) → Decides (next t (drop i l)) ((suc i < length l) × Q (suc i))
    next_decides i = ⊎_elim inside outside (cases_lt (suc i) (length l))
      where
        inside : suc i < length l → Decides (next t (drop i l)) ((suc i < length l) × Q (suc i))
        inside h =
            let e = word i (omega arith) in
            let f = word (suc i) h in
            Decides-at _ _ (ap (next t) (e ∙ ap (λ r. get_or l i 0 ∷ r) f) ∙ ap t (sym f))
            (Decides-like _ (λ q. (h, q)) (λ p. p.1) (tells (suc i)))

        alone : (r : List ℕ) → length r ≤ 1 → next t r ≡ false
        alone [] h = refl
        alone (w ∷ []) h = refl
        alone (w ∷ v ∷ r) h = absurd (omega arith)

        outside : length l ≤ suc i → Decides (next t (drop i l)) ((suc i < length l) × Q (suc i))
        outside h = Decides-at _ _ (alone (drop i l) (omega (arith, length-drop i l))) ((λ e. absurd (both_ways false refl e)), (λ p. absurd (omega (arith, p.0))))

    throughout_decides : (i : ℕ) → Decides (throughout t (drop i l)) (From l Q i)
    throughout_decides = down (length l) (λ i. Decides (throughout t (drop i l)) (From l Q i)) past step
      where
        past : (i : ℕ) → length l ≤ i → Decides (throughout t (drop i l)) (From l Q i)
        past i h = rw (drop_all i l h) ((λ e k a b. absurd (omega arith)), (λ f. refl))

        step : (i : ℕ) → i < length l → Decides (throughout t (drop (suc i) l)) (From l Q (suc i)) → Decides (throughout t (drop i l)) (From l Q i)
        step i h r =
            let e = word i h in
            Decides-at _ _ (ap (throughout t) e ∙ ap (λ x. t x && throughout t (drop (suc i) l)) (sym e))
            (Decides-like _ (λ p k a b. here_or_after Q i k a p.0 (λ g. p.1 k g b)) (λ f. (f i (omega arith) h, λ k a b. f k (omega arith) b)) (Decides-and _ _ (tells i) r))

    module _ (s : Test) (P : ℕ → Type 0) (says : (i : ℕ) → Decides (s (drop i l)) (P i)) where
      until_decides : (i : ℕ) → Decides (until s t (drop i l)) (Until l P Q i)
      until_decides = down (length l) (λ i. Decides (until s t (drop i l)) (Until l P Q i)) past step
        where
          past : (i : ℕ) → length l ≤ i → Decides (until s t (drop i l)) (Until l P Q i)
          past i h = rw (drop_all i l h) ((λ e. absurd (both_ways false refl e)), (λ u. absurd (omega (arith, u.1, u.2))))

          join : (i : ℕ) → i < length l → Q i ⊎ (P i × Until l P Q (suc i)) → Until l P Q i
          join i h (inl q) = (i, omega arith, h, q, λ j a b. absurd (omega arith))
          join i h (inr (p, (k, a, b, q, r))) = (k, omega arith, b, q, λ j c d. here_or_after P i j c p (λ g. r j g d))

          split : (i : ℕ) → Until l P Q i → Q i ⊎ (P i × Until l P Q (suc i))
          split i (k, a, b, q, r) =
              ⊎_elim
              (λ g. inr (r i (omega arith) g, (k, g, b, q, λ j c d. r j (omega arith) d)))
              (λ g. let e : k ≡ i = omega arith in inl (subst Q e q))
              (cases_lt i k)

          step : (i : ℕ) → i < length l → Decides (until s t (drop (suc i) l)) (Until l P Q (suc i)) → Decides (until s t (drop i l)) (Until l P Q i)
          step i h r =
              let e = word i h in
              Decides-at _ _ (ap (until s t) e ∙ ap (λ x. t x || (s x && until s t (drop (suc i) l))) (sym e))
              (Decides-like _ (join i h) (split i) (Decides-or _ _ (tells i) (Decides-and _ _ (says i) r)))

somewhere_decides : (l : List ℕ) (t : Test) (Q : ℕ → Type 0) → ((i : ℕ) → Decides (t (drop i l)) (Q i)) → (i : ℕ) → Decides (somewhere t (drop i l)) ((k : ℕ) × (i ≤ k) × (k < length l) × Q k)
somewhere_decides l t Q tells i =
    Decides-at _ _ (somewhere_until t (drop i l))
    (Decides-like _ (λ u. (u.0, u.1, u.2, u.3)) (λ u. (u.0, u.1, u.2, u.3, λ j a b. tt))
    (until_decides l t Q tells (λ _. true) (λ _. Unit {0}) (λ j. ((λ e. tt), (λ u. refl))) i))

pub tests_decide : TestsDecide
tests_decide (is c) l i = has_decides l c i
tests_decide (~ f) l i = Decides-not _ (tests_decide f l i)
tests_decide (f & g) l i = Decides-and _ _ (tests_decide f l i) (tests_decide g l i)
tests_decide (f ⇒ g) l i = decides_implies _ _ (tests_decide f l i) (tests_decide g l i)
tests_decide (○ f) l i = next_decides l (test_of f) (Holds f l) (tests_decide f l) i
tests_decide (□ f) l i = throughout_decides l (test_of f) (Holds f l) (tests_decide f l) i
tests_decide (◇ f) l i = somewhere_decides l (test_of f) (Holds f l) (tests_decide f l) i
tests_decide (f U g) l i = until_decides l (test_of g) (Holds g l) (tests_decide g l) (test_of f) (Holds f l) (tests_decide f l) i
tests_decide (f W g) l i =
    Decides-at _ _ (unless_or (test_of f) (test_of g) (drop i l))
    (Decides-or _ _
    (until_decides l (test_of g) (Holds g l) (tests_decide g l) (test_of f) (Holds f l) (tests_decide f l) i)
    (throughout_decides l (test_of f) (Holds f l) (tests_decide f l) i))
