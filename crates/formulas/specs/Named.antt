-- The named patterns: what each accepts, by the definitions that the patterns' contracts cite, and its formula.
use Rattle.std.specs.Prelude.{ℕ, Bool, cond, List, [], ◌∷◌, Ok, Err, Result}
use Rattle.rules.specs.declared.refusal.SettingRefusal.{SettingRefusal}
use Rattle.rules.specs.declared.refusal.SettingRefusal.TheVariants.{Range}
use Rattle.patterns.specs.declared.form.Form.TheVariants.{AtLeast, AtMost}
use Rattle.patterns.specs.Places.{always, never, eventually}
use Rattle.chains.specs.Chains.{numbered, precedes, responds}
use Rattle.formulas.specs.declared.named.NamedPattern.{NamedPattern}
use Rattle.formulas.specs.declared.named.NamedPattern.TheVariants.{Always, Never, Eventually, AtMostTwice, Precedes, PairPrecedes, PrecedesPair, Responds, PairResponds, RespondsToPair}
use Rattle.formulas.specs.Formulas.{Formula}
use Rattle.formulas.specs.Formulas.Formula.{is, ~◌, ◌&◌, ◌⇒◌, ○◌, □◌, ◇◌, ◌U◌, ◌W◌}

abbrev pub meaning_of : NamedPattern → List ℕ → Bool
meaning_of (Always p) = always p
meaning_of (Never p) = never p
meaning_of (Eventually p) = eventually AtLeast p 1
meaning_of (AtMostTwice p) = eventually AtMost p 2
meaning_of (Precedes p s) = precedes (p ∷ []) (s ∷ [])
meaning_of (PairPrecedes p1 p2 s) = precedes (p1 ∷ p2 ∷ []) (s ∷ [])
meaning_of (PrecedesPair p s1 s2) = precedes (p ∷ []) (s1 ∷ s2 ∷ [])
meaning_of (Responds p s) = responds (p ∷ []) (s ∷ [])
meaning_of (PairResponds p s1 s2) = responds (p ∷ []) (s1 ∷ s2 ∷ [])
meaning_of (RespondsToPair p1 p2 s) = responds (p1 ∷ p2 ∷ []) (s ∷ [])

abbrev pub formula_of : NamedPattern → Formula
formula_of (Always p) = □ is p
formula_of (Never p) = □ ~ is p
formula_of (Eventually p) = ◇ is p
formula_of (AtMostTwice p) = ~ is p W (is p W (~ is p W (is p W □ ~ is p)))
formula_of (Precedes p s) = ~ is s W is p
formula_of (PairPrecedes p1 p2 s) = ◇ is s ⇒ (~ is s U (is p1 & ~ is s & ○ (~ is s U is p2)))
formula_of (PrecedesPair p s1 s2) = ◇ (is s1 & ○ ◇ is s2) ⇒ (~ is s1 U is p)
formula_of (Responds p s) = □ (is p ⇒ ◇ is s)
formula_of (PairResponds p s1 s2) = □ (is p ⇒ ◇ (is s1 & ○ ◇ is s2))
formula_of (RespondsToPair p1 p2 s) = □ ((is p1 & ○ ◇ is p2) ⇒ ○ ◇ (is p2 & ◇ is s))

abbrev pub conditions_of : NamedPattern → List ℕ
conditions_of (Always p) = p ∷ []
conditions_of (Never p) = p ∷ []
conditions_of (Eventually p) = p ∷ []
conditions_of (AtMostTwice p) = p ∷ []
conditions_of (Precedes p s) = p ∷ s ∷ []
conditions_of (PairPrecedes p1 p2 s) = p1 ∷ p2 ∷ s ∷ []
conditions_of (PrecedesPair p s1 s2) = p ∷ s1 ∷ s2 ∷ []
conditions_of (Responds p s) = p ∷ s ∷ []
conditions_of (PairResponds p s1 s2) = p ∷ s1 ∷ s2 ∷ []
conditions_of (RespondsToPair p1 p2 s) = p1 ∷ p2 ∷ s ∷ []

-- a verdict, if the conditions are taken
abbrev pub judged_if : Bool → Bool → Result Bool SettingRefusal
judged_if taken verdict = cond taken (Ok verdict) (Err Range)

-- what comes of judging a list: a number that no condition has is refused
abbrev pub judged : NamedPattern → List ℕ → Result Bool SettingRefusal
judged n l = judged_if (numbered (conditions_of n)) (meaning_of n l)
