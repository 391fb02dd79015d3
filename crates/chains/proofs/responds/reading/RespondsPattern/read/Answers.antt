use Rattle.std.proofs.Common.{rules}
use Rattle.chains.proofs.Holding.{some_of, most_of}
use Rattle.chains.proofs.Responding.{responds_next}
use Rattle.chains.proofs.responds.reading.RespondsPattern.read.Goals as goal

pub returns : goal.returns
returns c =
    let some = some_of c.args.self.now.stimulus in
    let most = most_of c.args.self.now.stimulus in
    search (rules, responds_next)
