use Rattle.std.proofs.Common.{◌≡◌, ◌*◌, take}
use Rattle.composing.specs.Composed.{rows_of}
use Rattle.composing.proofs.composer.Composer.write_rows.Given as goal

abbrev pub invariant-loop-number : goal.invariant-loop-number
invariant-loop-number l = take (l.number * l.size) l.rows ≡ rows_of l.self.pattern.bytes.now l.self.scope.bytes.now l.number
