use Rattle.std.proofs.Common.{rules}
use Rattle.chains.proofs.Responding.{responds_same}
use Rattle.chains.proofs.responds.Responds.new.Goals as goal

pub returns : goal.returns
returns c = search (rules, responds_same)
