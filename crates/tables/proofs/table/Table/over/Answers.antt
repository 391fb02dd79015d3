use Rattle.std.proofs.Common.{◌≤◌, pow_mono, rules}
use Rattle.table_format.specs.Layout.{size_of}
use Rattle.table_format.proofs.Laws.{passed}
use Rattle.tables.proofs.table.Table.over.Goals as goal

pub invariant_of-result : goal.invariant_of-result
invariant_of-result c =
    let p = passed c.args.kind c.args.bytes.now c.requires in
    let narrow : size_of c.args.bytes.now ≤ 64 = pow_mono p.narrow in
    search rules
