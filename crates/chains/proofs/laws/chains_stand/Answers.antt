use Rattle.std.proofs.Common.{refl}
use Rattle.chains.proofs.Worded.{occurs_decides, precedes_decides}
use Rattle.chains.proofs.Answering.{responds_decides}
use Rattle.chains.proofs.laws.chains_stand.Goals as goal

pub returns : goal.returns
returns c = record { occurs = occurs_decides; precedes = precedes_decides; responds = responds_decides; examples = (refl, (refl, refl)); answer = refl }
