use Rattle.patterns.proofs.Plain.{always_by_places, never_by_places}
use Rattle.patterns.proofs.laws.counts_stand.Goals as goal

pub returns-clause-places : goal.returns-clause-places
returns-clause-places c = (always_by_places, never_by_places)
