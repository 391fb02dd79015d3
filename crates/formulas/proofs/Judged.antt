-- From what setting a pattern up and judging by it promise to the verdict of a named pattern.
use Rattle.std.proofs.Common.{◌≡◌, ℕ, Bool, true, false, ◌&&◌, ltb, ◌<◌, List, [], ◌∷◌, ◌++◌, IfOk, MatchResult, Ok, Err, Decides, Result, sym, refl, ap, ◌∙◌}
use Rattle.std.proofs.Math.Bool.{and-true, and_assoc}
use Rattle.std.proofs.lemmas.Bool.Decides.{Decides-at, Decides-ltb}
use Rattle.rules.specs.declared.refusal.SettingRefusal.{SettingRefusal}
use Rattle.chains.specs.Chains.{numbered}
use Rattle.rules.specs.Settings.{SetUp}
use Rattle.formulas.specs.declared.named.NamedPattern.{NamedPattern}
use Rattle.formulas.specs.Formulas.{Satisfies}
use Rattle.formulas.specs.Named.{meaning_of, formula_of, conditions_of, judged, judged_if}
use Rattle.formulas.proofs.Agreeing.{agreement}

pub alone : (c : ℕ) → Decides (numbered (c ∷ [])) (c < 16)
alone c = Decides-at _ (ltb c 16) (and-true (ltb c 16)) (Decides-ltb c 16)

-- the conditions of two chains are all numbers where those of each are
pub joined : (a b : List ℕ) → Decides (numbered (a ++ b)) (numbered a && numbered b ≡ true)
joined a b = (λ e. both a b ∙ e, λ e. sym (both a b) ∙ e)
  where
    both : (a b : List ℕ) → numbered a && numbered b ≡ numbered (a ++ b)
    both [] b = refl
    both (c ∷ a) b = and_assoc (ltb c 16) (numbered a) (numbered b) ∙ ap (λ x. ltb c 16 && x) (both a b)

-- what is judged by the meaning of the pattern m is judged by its formula too
pub settled :
    {n m : NamedPattern} {K in_range : Type 0} (reads left : K → List ℕ → Bool) (l : List ℕ) (s : Result K SettingRefusal) (r : Result Bool SettingRefusal)
    → n ≡ m
    → Decides (numbered (conditions_of m)) in_range
    → SetUp s in_range (λ x. (reads x ≡ meaning_of m) × (left x ≡ meaning_of m))
    → MatchResult s (λ p. r ≡ Ok (reads p l)) (λ e. r ≡ Err e)
    → (r ≡ judged n l) × IfOk r (λ b. Decides b (Satisfies (formula_of n) l))
settled {n} {m} {K} {in_range} reads left l s r e t u v = (value, by_formula)
  where
    taken : (b : Bool) → Decides b in_range → (s : Result K SettingRefusal) → SetUp s in_range (λ x. (reads x ≡ meaning_of m) × (left x ≡ meaning_of m)) → MatchResult s (λ p. r ≡ Ok (reads p l)) (λ e. r ≡ Err e) → r ≡ judged_if b (meaning_of m l)
    taken b t (Ok p) u v = rw (t.1 u.0) (v ∙ ap (λ f. Ok (f l)) u.1.0)
    taken true t (Err e) u v = absurd (u.0 (t.0 refl))
    taken false t (Err e) u v = v ∙ ap Err u.1

    value : r ≡ judged n l
    value = taken (numbered (conditions_of m)) t s u v ∙ sym (ap (λ x. judged x l) e)

    go : (b : Bool) → IfOk (judged_if b (meaning_of n l)) (λ b. Decides b (Satisfies (formula_of n) l))
    go true = agreement n l
    go false = tt

    by_formula : IfOk r (λ b. Decides b (Satisfies (formula_of n) l))
    by_formula = rw value (go (numbered (conditions_of n)))
