use Rattle.std.proofs.Common.{rules}
use Rattle.chains.proofs.Responding.{responds_none}
use Rattle.chains.proofs.responds.reading.RespondsPattern.verdict.Goals as goal

pub returns : goal.returns
returns c = search (rules, responds_none)
