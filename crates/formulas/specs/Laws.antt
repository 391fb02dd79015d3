-- The patterns agree with their formulas; what a formula says can be computed; and examples.
use Rattle.std.specs.Prelude.{◌≡◌, ℕ, Bool, true, false, List, [], ◌∷◌, map, drop, Decides}
use Rattle.formulas.specs.declared.named.NamedPattern.{NamedPattern}
use Rattle.formulas.specs.declared.named.NamedPattern.TheVariants.{AtMostTwice, PrecedesPair, Responds, RespondsToPair}
use Rattle.formulas.specs.Formulas.{Formula, Holds, Satisfies}
use Rattle.formulas.specs.Formulas.Formula.{is, ~◌, ◌&◌, ◌⇒◌, ○◌, □◌, ◇◌, ◌U◌, ◌W◌}
use Rattle.formulas.specs.Tests.{test_of}
use Rattle.formulas.specs.Named.{meaning_of, formula_of}

-- each named pattern accepts exactly the lists that satisfy its formula
abbrev pub Agreement : Type 0
Agreement = (n : NamedPattern) (l : List ℕ) → Decides (meaning_of n l) (Satisfies (formula_of n) l)

-- every formula holds at a place exactly where its test passes on what is left from there
abbrev pub TestsDecide : Type 0
TestsDecide = (f : Formula) (l : List ℕ) (i : ℕ) → Decides (test_of f (drop i l)) (Holds f l i)

-- a formula and a list, and whether the list satisfies it
pub record Case : Type 0 where
  pub formula : Formula
  pub words : List ℕ

abbrev pub satisfied : Case → Bool
satisfied c = test_of c.formula c.words

abbrev pub on : Formula → List ℕ → Case
on f l = record { formula = f; words = l }

-- a word with condition 0 counts 1, one with condition 1 counts 2 and one with condition 2 counts 4
abbrev pub cases : List Case
cases =
    -- the empty list has no place
    on (□ is 0) []
    ∷ on (is 0 W is 1) []
    ∷ on (◇ is 0) []
    ∷ on (is 0 U is 1) []
    ∷ on (is 0) []
    ∷ on (○ (□ is 0)) []
    -- next needs a next place
    ∷ on (○ (□ is 0)) (1 ∷ [])
    ∷ on (○ (□ is 0)) (0 ∷ 1 ∷ [])
    -- until needs its right side, and weak until does not
    ∷ on (is 0 U is 1) (1 ∷ 1 ∷ [])
    ∷ on (is 0 W is 1) (1 ∷ 1 ∷ [])
    ∷ on (is 0 U is 1) (1 ∷ 2 ∷ [])
    -- two rises, and three
    ∷ on (formula_of (AtMostTwice 0)) (1 ∷ 1 ∷ 0 ∷ 1 ∷ [])
    ∷ on (formula_of (AtMostTwice 0)) (1 ∷ 0 ∷ 1 ∷ 0 ∷ 1 ∷ [])
    -- what is owed at the end is not put off
    ∷ on (formula_of (Responds 0 2)) (1 ∷ 4 ∷ 1 ∷ [])
    ∷ on (formula_of (RespondsToPair 0 1 2)) (1 ∷ 6 ∷ 2 ∷ [])
    -- 1 and then 2, not at once: by next alone it would not occur
    ∷ on (formula_of (PrecedesPair 0 1 2)) (2 ∷ 0 ∷ 4 ∷ [])
    ∷ on (◇ (is 1 & ○ is 2) ⇒ (~ is 1 U is 0)) (2 ∷ 0 ∷ 4 ∷ [])
    ∷ []

abbrev pub Examples : Type 0
Examples =
    map satisfied cases
    ≡ true ∷ true ∷ false ∷ false ∷ false ∷ false
    ∷ false ∷ true
    ∷ false ∷ true ∷ true
    ∷ true ∷ false
    ∷ false ∷ true
    ∷ false ∷ true
    ∷ []
