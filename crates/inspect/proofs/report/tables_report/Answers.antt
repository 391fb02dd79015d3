use Rattle.inspect.proofs.Ends.{nothing_after, some_after}
use Rattle.inspect.proofs.report.tables_report.Goals as goal

pub returns-then-after-eq0 : goal.returns-then-after-eq0
returns-then-after-eq0 c =
    let x = rw (c.of-pattern.ensures, c.of-scope.ensures) at c.format.ensures.ok in
    rw (nothing_after _ c.if-after-eq0.true) x

pub returns-else-after-eq0 : goal.returns-else-after-eq0
returns-else-after-eq0 c =
    let x = rw (c.of-pattern.ensures, c.of-scope.ensures) at c.format-else-after-eq0.ensures.ok in
    rw (some_after _ c.if-after-eq0.false) x
