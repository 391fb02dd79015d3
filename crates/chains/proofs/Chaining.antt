-- A word takes a chain one condition on, or leaves it where it is.
use Rattle.std.proofs.Common.{◌≡◌, ℕ, zero, suc, ◌+◌, ◌<◌, ◌≤◌, Bool, true, false, cond, not, ◌||◌, eqb, leb, ◌⊎◌, List, [], ◌∷◌, length, get_or, drop, sym, refl, ap₂, inl, inr, arith}
use Rattle.std.proofs.lemmas.List.{drop_more, drop_all}
use Rattle.std.proofs.lemmas.Bool.{cases_lt}
use Rattle.std.proofs.lemmas.Bool.Decides.{nat_tests}
use Rattle.rules.specs.Words.{has}
use Rattle.chains.specs.Chains.{occurs, up_to}
use Rattle.chains.specs.Progress.{next_met, front, precedes_on}

pub occurs_next : (c : List ℕ) (k w : ℕ) (l : List ℕ) → occurs (drop k c) (w ∷ l) ≡ occurs (drop (next_met c k w) c) l
occurs_next c k w l = go (cases_lt k (length c))
  where
    short : (b : Bool) → k < length c → has (get_or c k 0) w ≡ b → cond b (occurs (drop (k + 1) c) l) (occurs (get_or c k 0 ∷ drop (k + 1) c) l) ≡ occurs (drop (cond b (k + 1) k) c) l
    short true h e = refl
    short false h e = rw (drop_more c k 0)

    go : (k < length c) ⊎ (length c ≤ k) → occurs (drop k c) (w ∷ l) ≡ occurs (drop (next_met c k w) c) l
    go (inl h) = rw (drop_more c k 0) (short (has (get_or c k 0) w) h refl)
    go (inr h) = rw (drop_all k c h, drop_all k c h)

pub occurs_none : (c : List ℕ) (k : ℕ) → occurs (drop k c) [] ≡ leb (length c) k
occurs_none c k = go (cases_lt k (length c))
  where
    go : (k < length c) ⊎ (length c ≤ k) → occurs (drop k c) [] ≡ leb (length c) k
    go (inl h) = rw (drop_more c k 0) (grind (arith, nat_tests))
    go (inr h) = rw drop_all (grind (arith, nat_tests))

-- once a condition of the second chain is met, no word counts for the first
front_next : (b : List ℕ) (j w : ℕ) (l : List ℕ) → 0 < length b → front (eqb (next_met b j w) 0) (get_or b 0 0) l ≡ cond (eqb j 0) (cond (has (get_or b 0 0) w) [] (up_to (get_or b 0 0) l)) []
front_next [] j w l h = absurd (omega arith)
front_next (s ∷ b) zero w l h = go (has s w)
  where
    go : (t : Bool) → front (eqb (cond t (0 + 1) 0) 0) s l ≡ cond t [] (up_to s l)
    go true = refl
    go false = refl
front_next (s ∷ b) (suc j) w l h =
    let e : eqb (next_met (s ∷ b) (suc j) w) 0 ≡ false = grind (arith, nat_tests) in
    let z : eqb (suc j) 0 ≡ false = grind (arith, nat_tests) in
    rw (e, z)

first_next : (a b : List ℕ) (i j w : ℕ) (l : List ℕ) → 0 < length b → occurs (drop (cond (eqb j 0) (next_met a i w) i) a) (front (eqb (next_met b j w) 0) (get_or b 0 0) l) ≡ occurs (drop i a) (front (eqb j 0) (get_or b 0 0) (w ∷ l))
first_next a b i zero w l h = rw front_next (sym (occurs_next a i w _))
first_next a b i (suc j) w l h = let z : eqb (suc j) 0 ≡ false = grind (arith, nat_tests) in rw (front_next, z)

pub precedes_next : (a b : List ℕ) (i j w i' j' : ℕ) (l : List ℕ) → 0 < length b → i' ≡ cond (eqb j 0) (next_met a i w) i → j' ≡ next_met b j w → precedes_on a b i' j' l ≡ precedes_on a b i j (w ∷ l)
precedes_next a b i j w i' j' l h e f =
    rw (e, f) (ap₂ (λ x y. not x || y) (sym (occurs_next b j w l)) (first_next a b i j w l h))
