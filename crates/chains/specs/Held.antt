-- What the values of the code hold, as lists.
use Rattle.std.specs.Prelude.{ℕ, Bool, List, [], ◌∷◌, map}
use Rattle.rules.specs.declared.condition.Condition.{Condition}
use Rattle.rules.specs.Few.{items_of}
use Rattle.chains.specs.declared.chain.Chain.{Chain}
use Rattle.chains.specs.declared.openings.Openings.{Openings}

abbrev pub numbers_of : List Condition → List ℕ
numbers_of cs = map (λ c. c.number) cs

-- the conditions of a chain, by their numbers
abbrev pub chain_of : Chain → List ℕ
chain_of c = numbers_of (items_of c.conditions)

abbrev pub under_of : Openings → List Bool
under_of o = o.one ∷ o.two ∷ o.three ∷ []
