use Rattle.story.proofs.watched.answers.Goals as goal

-- the run law, at what the three parts are set up as
pub returns : goal.returns
returns c =
    let (_, _, codes, size) = c.in_ok-contacts.ensures in
    let ((marks, answers), _) = c.in_ok-between.ensures.1 in
    let (meaning, _) = c.in_ok-never.ensures.1 in
    rw (c.in_ok-run.ensures.answers, codes, size, marks, answers, meaning)
