use Rattle.std.proofs.Common.{arith}
use Rattle.std.proofs.lemmas.List.FromFn.{fill_by_all}
use Rattle.table_format.specs.Layout.{size_of}
use Rattle.composing.specs.Composed.{entry_from}
use Rattle.composing.proofs.composer.Composer.write_row.Goals as goal

pub returns : goal.returns
returns c =
    fill_by_all (entry_from c.args.self.now.pattern.bytes.now c.args.self.now.scope.bytes.now c.args.place)
    c.loop-letter.row (size_of c.args.self.now.pattern.bytes.now) 0 (omega arith) (λ k h. c.loop-letter.invariant k (omega arith))
