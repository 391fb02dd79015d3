use Rattle.std.proofs.Common.{◌≡◌, ◌∙◌, rules}
use Rattle.encoders.specs.Event.{event_fits, code_of, reading_of}
use Rattle.encoders.specs.Holding.{word}
use Rattle.encoders.specs.Held.{event_term, event_terms, lists_of}
use Rattle.encoders.proofs.Plain.{word_plain}
use Rattle.encoders.proofs.moisture.coding.MoistureEncoder.ask.Goals as goal

pub returns : goal.returns
returns c =
    let p = c.in_ok-event.ensures in
    let e : c.word.result ≡ word (λ t. event_fits t (code_of c.args.part.now) (reading_of c.args.part.now)) (event_terms c.args.self.now) =
    c.word.ensures
    ∙ word_plain event_term (λ t. event_fits t c.in_ok-event.event.code c.in_ok-event.event.reading.hundredths) (lists_of c.args.self.now.conditions)
    ∙ (λ j. word (λ t. event_fits t (p.event.0 j) (p.event.1 j)) (event_terms c.args.self.now))
    in search rules
