use Rattle.std.proofs.Common.{ℕ, ◌-◌, ap, ◌∙◌}
use lib.Bits.{bit_and}
use Rattle.std.proofs.lemmas.Nat.{and_mask}
use Rattle.table_format.specs.Layout.{width_of}
use Rattle.tables.proofs.table.Table.letter.Goals as goal

pub returns-clause-value : goal.returns-clause-value
returns-clause-value c =
    ap (λ (z : ℕ). bit_and c.args.word (z - 1)) c.args.self.now.sized ∙ and_mask c.args.word (width_of c.args.self.now.bytes.now)
