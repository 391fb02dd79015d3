-- Worked examples. D is condition 0, B is condition 1 and T is condition 2, so a word with D counts 1, one with B
-- counts 2 and one with T counts 4.
use Rattle.std.specs.Prelude.{◌≡◌, Bool, true, false, List, [], ◌∷◌, map, ℕ}
use Rattle.rules.specs.declared.mark.Mark.TheVariants.{In}
use Rattle.scopes.specs.Marks.{before_mark, between_mark}
use Rattle.patterns.specs.declared.form.Form.TheVariants.{AtLeast}
use Rattle.patterns.specs.Places.{never, eventually}
use Rattle.chains.specs.Chains.{precedes, responds}
use Rattle.layer.specs.Blocks.{accepts_over}

abbrev pub Rule : Type 0
Rule = List ℕ → Bool

-- the scopes: each cuts stretches out of a record, and the rule is asked of every one that counts
abbrev pub globally : Rule → Rule
globally = accepts_over (λ l w. In) (λ l. true)

abbrev pub before : ℕ → Rule → Rule
before r = accepts_over (before_mark r) (λ l. false)

abbrev pub between : ℕ → ℕ → Rule → Rule
between q r = accepts_over (between_mark q r) (λ l. false)

abbrev pub after_unless : ℕ → ℕ → Rule → Rule
after_unless q r = accepts_over (between_mark q r) (λ l. true)

-- a rule on a record, and whether the record keeps it
pub record Case : Type 0 where
  pub rule : Rule
  pub words : List ℕ

abbrev pub kept : Case → Bool
kept c = c.rule c.words

abbrev pub on : Rule → List ℕ → Case
on r l = record { rule = r; words = l }

-- never D between B and T
abbrev pub never_between : Rule
never_between = between 1 2 (never 0)

abbrev pub cases : List Case
cases =
    on never_between (0 ∷ 2 ∷ 0 ∷ 4 ∷ [])
    ∷ on never_between (0 ∷ 2 ∷ 1 ∷ 4 ∷ [])
    ∷ on never_between (2 ∷ 1 ∷ [])
    ∷ on never_between (2 ∷ 5 ∷ [])
    ∷ on never_between (6 ∷ 1 ∷ 4 ∷ [])
    ∷ on never_between (3 ∷ 4 ∷ [])
    ∷ on never_between (2 ∷ 1 ∷ 2 ∷ 4 ∷ [])
    -- never D after B unless T
    ∷ on (after_unless 1 2 (never 0)) (2 ∷ 1 ∷ [])
    -- eventually D at least once, before T
    ∷ on (before 2 (eventually AtLeast 0 1)) (4 ∷ [])
    ∷ on (before 2 (eventually AtLeast 0 1)) (0 ∷ 4 ∷ [])
    -- eventually D at least once, globally: the empty record has no stretch
    ∷ on (globally (eventually AtLeast 0 1)) []
    -- T responds to D and then B, globally
    ∷ on (globally (responds (0 ∷ 1 ∷ []) (2 ∷ []))) (1 ∷ 6 ∷ 2 ∷ [])
    -- D precedes B and then T, globally
    ∷ on (globally (precedes (0 ∷ []) (1 ∷ 2 ∷ []))) (2 ∷ 1 ∷ 4 ∷ [])
    ∷ []

-- what each of the cases comes to, in their order
abbrev pub Worked : Type 0
Worked =
    map kept cases
    ≡ true ∷ false ∷ true ∷ true ∷ true ∷ false ∷ false
    ∷ false
    ∷ true ∷ false
    ∷ true
    ∷ true
    ∷ false
    ∷ []
