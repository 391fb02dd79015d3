use Rattle.std.proofs.Common.{rules}
use Rattle.std.proofs.lemmas.Bool.{and_from}
use Rattle.chains.proofs.Responding.{responds_same}
use Rattle.chains.proofs.responds.Responds.set_chains.Goals as goal

pub returns : goal.returns
returns c =
    let stimulus = c.in_ok-stimulus.ensures in
    let response = c.in_ok-response.ensures in
    search (rules, responds_same, and_from)
