use Rattle.std.proofs.Common.{◌+◌, ◌*◌, ◌^◌, eqb, refl, ◌∙◌}
use lib.Bits.{bit_and}
use lib.Signed.{le_z}
use Rattle.std.proofs.lemmas.List.{length-map}
use Rattle.std.proofs.lemmas.Bool.{cond-true, lt-ltb}
use Rattle.std.proofs.lemmas.Bool.Decides.{Decides-and, Decides-eqb}
use Rattle.encoders.specs.Contact.{contact_fits}
use Rattle.encoders.specs.Event.{event_fits, signed}
use Rattle.encoders.specs.Holding.{word}
use Rattle.encoders.specs.Held.{terms_of}
use Rattle.encoders.specs.Laws.{ContactWords, EventWords, SixteenLists}
use Rattle.encoders.proofs.Saying.{word_says, decides_le_z}
use Rattle.encoders.proofs.laws.words_stand.Goals as goal

contacts : ContactWords
contacts c terms s n h = (
  word (λ t. contact_fits t s) terms,
  cond-true _ _ _ (lt-ltb s (2 ^ c) h),
  word_says (λ t. contact_fits t s) _ (λ t. Decides-eqb (bit_and s t.0) t.1) terms n,
)

events : EventWords
events terms code high low n h = (
  word (λ t. event_fits t code (signed (high * 256 + low))) terms,
  cond-true _ _ _ h,
  word_says (λ t. event_fits t code (signed (high * 256 + low))) _
      (λ t. Decides-and (eqb code t.0) _ (Decides-eqb code t.0) (Decides-and (le_z t.1 (signed (high * 256 + low))) _ (decides_le_z t.1 _) (decides_le_z _ t.2))) terms n,
)

sixteen : SixteenLists
sixteen = (
  λ e. length-map _ _ ∙ length-map e.conditions.lists terms_of ∙ e.conditions.whole,
  λ e. length-map _ _ ∙ length-map e.conditions.lists terms_of ∙ e.conditions.whole,
)

pub returns : goal.returns
returns c = record { contacts = contacts; events = events; sixteen = sixteen; masks = refl; readings = (refl, refl, refl) }
