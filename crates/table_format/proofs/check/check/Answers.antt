use Rattle.table_format.proofs.Laws.{decided, blamed}
use Rattle.table_format.proofs.check.check.Goals as goal

pub returns : goal.returns
returns c =
    let says = c.examine.ensures in
    record {
      says = says;
      lawful = decided c.args.kind c.args.bytes.now c.examine.result says;
      blames = blamed c.args.kind c.args.bytes.now c.examine.result says;
    }
