use Rattle.std.proofs.Common.{◌+◌, arith}
use Rattle.std.proofs.lemmas.List.FromFn.{fill_by_all}
use Rattle.composing.specs.Composed.{flag_byte}
use Rattle.composing.proofs.composer.Composer.write_flags.Goals as goal

pub returns : goal.returns
returns c =
    fill_by_all (flag_byte c.args.self.now.pattern.bytes.now c.args.self.now.scope.bytes.now)
    c.loop-number.flags (c.args.self.now.failed + 1) 0 (omega arith) (λ k h. c.loop-number.invariant k (omega arith))
