use Rattle.std.proofs.Common.{length}
use Rattle.second.proofs.chains.+spans.Given as goal

abbrev pub decreases-spans : goal.decreases-spans
decreases-spans l = length l.chain.now
