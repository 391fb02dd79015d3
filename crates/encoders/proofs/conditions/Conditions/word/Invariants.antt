use Rattle.std.specs.List.{list_any}
use Rattle.encoders.specs.Held.{terms_of}
use Rattle.encoders.proofs.Numbering.{MadeBehind}
use Rattle.encoders.proofs.conditions.Conditions.word.Given as goal

-- the bits are the word of the conditions that were asked, which stand behind those that are left
abbrev pub invariant-loop-terms : goal.invariant-loop-terms
invariant-loop-terms g l = MadeBehind (list_any (λ t. g.T.Term.fits t l.sample)) terms_of l.self.lists l.terms-iterator.iter.rest.now l.bits
