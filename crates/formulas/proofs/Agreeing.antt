-- The named patterns accept what the tests of their formulas pass.
use Rattle.std.proofs.Common.{◌≡◌, ℕ, Bool, true, false, cond, not, ◌&&◌, ◌||◌, List, [], ◌∷◌, sym, refl, ap, ◌∙◌, ap₂, ⊎_elim}
use Rattle.std.proofs.Math.Bool.{or_comm}
use Rattle.std.proofs.lemmas.Bool.{and_parts, or_cases}
use Rattle.std.proofs.lemmas.Bool.Decides.{Decides-at}
use Rattle.rules.specs.Words.{has}
use Rattle.patterns.specs.Places.{always, never}
use Rattle.chains.specs.Chains.{occurs, up_to, precedes, due, responds}
use Rattle.formulas.specs.declared.named.NamedPattern.{NamedPattern}
use Rattle.formulas.specs.declared.named.NamedPattern.TheVariants.{Always, Never, Eventually, AtMostTwice, Precedes, PairPrecedes, PrecedesPair, Responds, PairResponds, RespondsToPair}
use Rattle.formulas.specs.Formulas.{Formula}
use Rattle.formulas.specs.Formulas.Formula.{is, ~◌, ◌&◌, ◌⇒◌, ○◌, □◌, ◇◌, ◌U◌, ◌W◌}
use Rattle.formulas.specs.Tests.{Test, next, test_of}
use Rattle.formulas.specs.Named.{meaning_of, formula_of}
use Rattle.formulas.specs.Laws.{Agreement}
use Rattle.formulas.proofs.Deciding.{unless_or, tests_decide}
use Rattle.formulas.proofs.Counted.{at_least_once, at_most_twice}

always_is : (c : ℕ) (l : List ℕ) → always c l ≡ test_of (□ is c) l
always_is c [] = refl
always_is c (w ∷ l) = ap (λ b. has c w && b) (always_is c l)

never_is : (c : ℕ) (l : List ℕ) → never c l ≡ test_of (□ ~ is c) l
never_is c [] = refl
never_is c (w ∷ l) = ap (λ b. not (has c w) && b) (never_is c l)

-- next, of what fails on the empty list, is what comes after the first word
next_is : (t : Test) (w : ℕ) (l : List ℕ) → t [] ≡ false → next t (w ∷ l) ≡ t l
next_is t w [] e = sym e
next_is t w (v ∷ l) e = refl

or_cond : (a x : Bool) → (a || x) ≡ cond a true x
or_cond true x = refl
or_cond false x = refl

one_is : (p : ℕ) (l : List ℕ) → test_of (◇ is p) l ≡ occurs (p ∷ []) l
one_is p [] = refl
one_is p (w ∷ l) = ap (λ b. has p w || b) (one_is p l) ∙ or_cond (has p w) (occurs (p ∷ []) l)

-- where both conditions occur in turn, so does the second
second_occurs : (p q : ℕ) (l : List ℕ) → occurs (p ∷ q ∷ []) l ≡ true → occurs (q ∷ []) l ≡ true
second_occurs p q [] e = e
second_occurs p q (w ∷ l) e = go (has p w) (has q w) (occurs (q ∷ []) l) (occurs (p ∷ q ∷ []) l) (second_occurs p q l) e
  where
    go : (a b x y : Bool) → (y ≡ true → x ≡ true) → cond a x y ≡ true → cond b true x ≡ true
    go a true x y f e = refl
    go true false x y f e = e
    go false false x y f e = f e

-- the first chance to begin serves as well as a later one
first_serves : (a x y : Bool) → (y ≡ true → x ≡ true) → ((a && x) || y) ≡ cond a x y
first_serves true true y f = refl
first_serves true false true f = sym (f refl)
first_serves true false false f = refl
first_serves false x y f = refl

pair_is : (p q : ℕ) (l : List ℕ) → test_of (◇ (is p & ○ ◇ is q)) l ≡ occurs (p ∷ q ∷ []) l
pair_is p q [] = refl
pair_is p q (w ∷ l) =
    ap₂ (λ a b. (has p w && a) || b) (next_is (test_of (◇ is q)) w l refl ∙ one_is q l) (pair_is p q l)
    ∙ first_serves (has p w) (occurs (q ∷ []) l) (occurs (p ∷ q ∷ []) l) (second_occurs p q l)

-- among the words up to the first with s
within : (b : Bool) (p : ℕ) (chain l : List ℕ) → occurs (p ∷ chain) (cond b [] l) ≡ (not b && occurs (p ∷ chain) l)
within true p chain l = refl
within false p chain l = refl

one_until : (s p : ℕ) (l : List ℕ) → test_of (~ is s U is p) l ≡ occurs (p ∷ []) (up_to s l)
one_until s p [] = refl
one_until s p (w ∷ l) =
    ap (λ b. has p w || (not (has s w) && b)) (one_until s p l)
    ∙ or_cond (has p w) _
    ∙ ap (cond (has p w) true) (sym (within (has s w) p [] (up_to s l)))

pair_until : (s p q : ℕ) (l : List ℕ) → test_of (~ is s U (is p & ~ is s & ○ (~ is s U is q))) l ≡ occurs (p ∷ q ∷ []) (up_to s l)
pair_until s p q [] = refl
pair_until s p q (w ∷ l) =
    ap₂ (λ a b. (has p w && (not (has s w) && a)) || (not (has s w) && b)) (next_is (test_of (~ is s U is q)) w l refl ∙ one_until s q l) (pair_until s p q l)
    ∙ first_serves (has p w) _ _ (both (not (has s w)) _ _ (second_occurs p q (up_to s l)))
    ∙ sym (ap₂ (cond (has p w)) (within (has s w) q [] (up_to s l)) (within (has s w) p (q ∷ []) (up_to s l)))
  where
    both : (b x y : Bool) → (y ≡ true → x ≡ true) → (b && y) ≡ true → (b && x) ≡ true
    both true x y f e = f e
    both false x y f e = e

-- what is nowhere fails throughout
nowhere_is : (s : ℕ) (l : List ℕ) → test_of (□ ~ is s) l ≡ not (occurs (s ∷ []) l)
nowhere_is s [] = refl
nowhere_is s (w ∷ l) = ap (λ b. not (has s w) && b) (nowhere_is s l) ∙ neither (has s w) (occurs (s ∷ []) l)
  where
    neither : (a x : Bool) → (not a && not x) ≡ not (cond a true x)
    neither true x = refl
    neither false x = refl

precedes_is : (p s : ℕ) (l : List ℕ) → precedes (p ∷ []) (s ∷ []) l ≡ test_of (~ is s W is p) l
precedes_is p s l = sym (unless_or (test_of (~ is s)) (test_of (is p)) l ∙ ap₂ ◌||◌ (one_until s p l) (nowhere_is s l) ∙ or_comm (occurs (p ∷ []) (up_to s l)) (not (occurs (s ∷ []) l)))

pair_precedes_is : (p q s : ℕ) (l : List ℕ) → precedes (p ∷ q ∷ []) (s ∷ []) l ≡ test_of (formula_of (PairPrecedes p q s)) l
pair_precedes_is p q s l = sym (ap₂ (λ a b. not a || b) (one_is s l) (pair_until s p q l))

precedes_pair_is : (p s t : ℕ) (l : List ℕ) → precedes (p ∷ []) (s ∷ t ∷ []) l ≡ test_of (formula_of (PrecedesPair p s t)) l
precedes_pair_is p s t l = sym (ap₂ (λ a b. not a || b) (pair_is s t l) (one_until s p l))

-- what is due counts from the place itself
now_due : (a x y : Bool) → (not a || cond a x y) ≡ (not a || x)
now_due true x y = refl
now_due false x y = refl

-- a formula that says that the response occurs
responds_is : (p : ℕ) (response : List ℕ) (f : Formula) → ((l : List ℕ) → test_of f l ≡ occurs response l) → (l : List ℕ) → responds (p ∷ []) response l ≡ test_of (□ (is p ⇒ f)) l
responds_is p response f h [] = refl
responds_is p response f h (w ∷ l) =
    ap₂ ◌&&◌ (now_due (has p w) _ _ ∙ ap (λ b. not (has p w) || b) (sym (h (w ∷ l)))) (responds_is p response f h l)

later : (s w : ℕ) (l : List ℕ) → occurs (s ∷ []) l ≡ true → occurs (s ∷ []) (w ∷ l) ≡ true
later s w l e = go (has s w)
  where
    go : (b : Bool) → cond b true (occurs (s ∷ []) l) ≡ true
    go true = refl
    go false = e

answered : (q s : ℕ) (l : List ℕ) → test_of (◇ (is q & ◇ is s)) l ≡ true → occurs (s ∷ []) l ≡ true
answered q s [] e = e
answered q s (w ∷ l) e =
    ⊎_elim
    (λ a. sym (one_is s (w ∷ l)) ∙ (and_parts (has q w) (test_of (◇ is s) (w ∷ l)) a).1)
    (λ b. later s w l (answered q s l b))
    (or_cases (has q w && test_of (◇ is s) (w ∷ l)) (test_of (◇ (is q & ◇ is s)) l) e)

-- the response is due from the first place with q on
due_is : (q s : ℕ) (l : List ℕ) → due (q ∷ []) (s ∷ []) l ≡ (not (occurs (q ∷ []) l) || test_of (◇ (is q & ◇ is s)) l)
due_is q s [] = refl
due_is q s (w ∷ l) =
    ap (cond (has q w) (occurs (s ∷ []) (w ∷ l))) (due_is q s l)
    ∙ go (has q w) (occurs (s ∷ []) (w ∷ l)) (occurs (q ∷ []) l) (test_of (◇ (is q & ◇ is s)) l) (λ e. later s w l (answered q s l e))
    ∙ ap (λ x. not (occurs (q ∷ []) (w ∷ l)) || ((has q w && x) || test_of (◇ (is q & ◇ is s)) l)) (sym (one_is s (w ∷ l)))
  where
    go : (a x o d : Bool) → (d ≡ true → x ≡ true) → cond a x (not o || d) ≡ (not (cond a true o) || ((a && x) || d))
    go true true o d f = refl
    go true false o true f = f refl
    go true false o false f = refl
    go false x o d f = refl

responds_to_pair_is : (p q s : ℕ) (l : List ℕ) → responds (p ∷ q ∷ []) (s ∷ []) l ≡ test_of (formula_of (RespondsToPair p q s)) l
responds_to_pair_is p q s [] = refl
responds_to_pair_is p q s (w ∷ l) =
    ap₂ ◌&&◌
    (now_due (has p w) _ _
    ∙ ap (λ b. not (has p w) || b) (due_is q s l)
    ∙ regroup (has p w) (occurs (q ∷ []) l) _
    ∙ ap₂ (λ a b. not (has p w && a) || b)
    (sym (next_is (test_of (◇ is q)) w l refl ∙ one_is q l))
    (sym (next_is (test_of (◇ (is q & ◇ is s))) w l refl)))
    (responds_to_pair_is p q s l)
  where
    regroup : (a o d : Bool) → (not a || (not o || d)) ≡ (not (a && o) || d)
    regroup true o d = refl
    regroup false o d = refl

-- each pattern accepts what the test of its formula passes
same : (n : NamedPattern) (l : List ℕ) → meaning_of n l ≡ test_of (formula_of n) l
same (Always p) l = always_is p l
same (Never p) l = never_is p l
same (Eventually p) l = at_least_once p l
same (AtMostTwice p) l = at_most_twice p l
same (Precedes p s) l = precedes_is p s l
same (PairPrecedes p q s) l = pair_precedes_is p q s l
same (PrecedesPair p s t) l = precedes_pair_is p s t l
same (Responds p s) l = responds_is p (s ∷ []) (◇ is s) (one_is s) l
same (PairResponds p s t) l = responds_is p (s ∷ t ∷ []) (◇ (is s & ○ ◇ is t)) (pair_is s t) l
same (RespondsToPair p q s) l = responds_to_pair_is p q s l

pub agreement : Agreement
agreement n l = Decides-at (meaning_of n l) (test_of (formula_of n) l) (same n l) (tests_decide (formula_of n) l 0)
