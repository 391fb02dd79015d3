use Rattle.std.proofs.Common.{rules}
use Rattle.chains.proofs.Chaining.{occurs_none}
use Rattle.chains.proofs.precedes.reading.PrecedesPattern.verdict.Goals as goal

pub returns : goal.returns
returns c = search (rules, occurs_none)
