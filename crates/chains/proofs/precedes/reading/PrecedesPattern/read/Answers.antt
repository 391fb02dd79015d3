use Rattle.std.proofs.Common.{rules}
use Rattle.chains.proofs.Chaining.{precedes_next}
use Rattle.chains.proofs.Holding.{some_of}
use Rattle.chains.proofs.precedes.reading.PrecedesPattern.read.Goals as goal

pub returns : goal.returns
returns c = let some = some_of c.args.self.now.second in search (rules, precedes_next)
