use Rattle.inspect.proofs.report.input_report.Goals as goal

pub returns : goal.returns
returns c = rw c.number.ensures at c.format.ensures.ok
