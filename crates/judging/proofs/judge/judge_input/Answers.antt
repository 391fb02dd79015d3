use Rattle.std.proofs.Common.{ap, ◌∙◌}
use Rattle.composing.specs.Composed.{composed}
use Rattle.table_format.specs.declared.kind.Kind.TheVariants.{Pattern as PatternKind}
use Rattle.table_format.specs.Checked.{checked}
use Rattle.table_format.proofs.Laws.{checked_lawful}
use Rattle.judging.proofs.Judged.{front, unchecked}
use Rattle.judging.proofs.judge.judge_input.Goals as goal

pub judge_record-requires : goal.judge_record-requires
judge_record-requires c =
    let made = c.in_ok-n.ensures in
    let p = c.in_ok-parts.parts.pattern.now in
    let s = c.in_ok-parts.parts.scope.now in
    let t = front c.in_ok-n.n (composed p s) _ c.compose.new.out made.bytes made.long in
    ap (checked PatternKind) t ∙ unchecked (checked PatternKind (composed p s)) (checked_lawful PatternKind (composed p s) made.law.lawful)
