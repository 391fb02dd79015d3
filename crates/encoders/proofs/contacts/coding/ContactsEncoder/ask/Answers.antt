use Rattle.std.proofs.Common.{◌≡◌, ◌∙◌, arith}
use Rattle.std.proofs.lemmas.Grind.{common_steps}
use Rattle.encoders.specs.Contact.{contact_fits}
use Rattle.encoders.specs.Holding.{word}
use Rattle.encoders.specs.Held.{contact_term, contact_terms, lists_of}
use Rattle.encoders.proofs.Plain.{word_plain}
use Rattle.encoders.proofs.contacts.coding.ContactsEncoder.ask.Goals as goal

pub returns : goal.returns
returns c =
    let e : c.word.result ≡ word (λ t. contact_fits t c.in_ok-byte.byte) (contact_terms c.args.self.now) =
    c.word.ensures ∙ word_plain contact_term (λ t. contact_fits t c.in_ok-byte.byte) (lists_of c.args.self.now.conditions)
    in grind (arith, common_steps)
