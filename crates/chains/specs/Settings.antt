-- What a pattern over chains is once it is set: what it accepts, with no word read.
use Rattle.std.specs.Prelude.{ℕ, List}
use Rattle.rules.specs.Settings.{IsFreshPattern}
use Rattle.chains.specs.declared.precedes.Precedes.{Precedes}
use Rattle.chains.specs.declared.responds.Responds.{Responds}
use Rattle.chains.specs.contracts.precedes.reading.PrecedesPattern.TheImpl.{ghosts as as_precedes}
use Rattle.chains.specs.contracts.responds.reading.RespondsPattern.TheImpl.{ghosts as as_responds}
use Rattle.chains.specs.Chains.{precedes, responds}

-- it has these chains, of which the first is to precede the second
abbrev pub PrecedesHas : Precedes → List ℕ → List ℕ → Type 0
PrecedesHas p first second = IsFreshPattern as_precedes p (precedes first second)

-- it has these chains, of which the second is to respond to the first
abbrev pub RespondsHas : Responds → List ℕ → List ℕ → Type 0
RespondsHas p stimulus response = IsFreshPattern as_responds p (responds stimulus response)
