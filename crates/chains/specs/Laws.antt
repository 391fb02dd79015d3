-- What is shown of the meanings of the patterns.
use Rattle.std.specs.Prelude.{◌≡◌, ℕ, ◌<◌, true, false, List, [], ◌∷◌, map, length, Decides}
use Rattle.chains.specs.Chains.{occurs, precedes, responds}
use Rattle.chains.specs.Places.{Occurs, Precedes, Responds}

abbrev pub OccursLaw : Type 0
OccursLaw = (chain l : List ℕ) → 0 < length chain → Decides (occurs chain l) (Occurs chain l)

abbrev pub PrecedesLaw : Type 0
PrecedesLaw = (first second l : List ℕ) → 0 < length first → 0 < length second → Decides (precedes first second l) (Precedes first second l)

abbrev pub RespondsLaw : Type 0
RespondsLaw = (stimulus response l : List ℕ) → 0 < length stimulus → 0 < length response → Decides (responds stimulus response l) (Responds stimulus response l)

-- three conditions for the examples
abbrev d : ℕ
d = 0

abbrev b : ℕ
b = 1

abbrev t : ℕ
t = 2

-- no word serves two conditions of a chain
abbrev pub TwiceExamples : Type 0
TwiceExamples = map (occurs (d ∷ d ∷ [])) ((1 ∷ []) ∷ (1 ∷ 0 ∷ 1 ∷ []) ∷ []) ≡ false ∷ true ∷ []

-- d precedes (b, t): not where b comes first, but in the same word, and where (b, t) does not occur
abbrev pub PrecedesExamples : Type 0
PrecedesExamples = map (precedes (d ∷ []) (b ∷ t ∷ [])) ((2 ∷ 1 ∷ 4 ∷ []) ∷ (3 ∷ 4 ∷ []) ∷ (2 ∷ 0 ∷ []) ∷ []) ≡ false ∷ true ∷ true ∷ []

-- t responds to (d, b): in the word that completes (d, b) or later, but not before, and after each completion
abbrev pub RespondsExamples : Type 0
RespondsExamples = map (responds (d ∷ b ∷ []) (t ∷ [])) ((1 ∷ 6 ∷ 2 ∷ []) ∷ (1 ∷ 4 ∷ 2 ∷ []) ∷ (1 ∷ 2 ∷ 4 ∷ 1 ∷ 2 ∷ []) ∷ (1 ∷ 2 ∷ 1 ∷ 2 ∷ 4 ∷ []) ∷ []) ≡ true ∷ false ∷ false ∷ true ∷ []
