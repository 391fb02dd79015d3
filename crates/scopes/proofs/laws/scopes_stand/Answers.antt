use Rattle.scopes.proofs.Places.{seen_by_places, inside_by_places, turns, in_inside}
use Rattle.scopes.proofs.laws.scopes_stand.Goals as goal

pub returns-clause-places : goal.returns-clause-places
returns-clause-places c = (seen_by_places, inside_by_places)

pub returns-clause-words : goal.returns-clause-words
returns-clause-words c = (turns, in_inside)
