use Rattle.std.proofs.Common.{◌≡◌, ◌+◌, ◌*◌, arith}
use Rattle.std.proofs.lemmas.List.Edits.{get_or-between}
use Rattle.table_format.specs.Layout.{entry_of}
use Rattle.table_format.proofs.Laws.{lawful}
use Rattle.tables.proofs.table.Table.entry_of.Goals as goal

pub returns-clause-leads : goal.returns-clause-leads
returns-clause-leads c =
    let t = c.args.self.now.bytes.now in
    let start = 2 + c.args.self.now.states + c.args.state * c.args.self.now.size in
    let read = get_or-between t start (start + c.args.self.now.size) c.args.letter 0 (omega arith) in
    let is : c.entry_in.result ≡ entry_of t c.args.state c.args.letter = cc in
    rw is ((lawful c.args.self.now.kind t c.args.self.now.lawful).entries c.args.state c.args.letter c.requires.state_bound c.requires.letter_bound)
