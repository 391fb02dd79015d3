use Rattle.std.proofs.Common.{◌≡◌, ℕ, ◌<◌, get_or}
use Rattle.composing.specs.Composed.{flag_byte}
use Rattle.composing.proofs.composer.Composer.write_flags.Given as goal

abbrev pub invariant-loop-number : goal.invariant-loop-number
invariant-loop-number l = (k : ℕ) → k < l.number → get_or l.flags k 0 ≡ flag_byte l.self.pattern.bytes.now l.self.scope.bytes.now k
