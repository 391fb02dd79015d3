-- The terms that a value holds.
use Rattle.std.specs.Prelude.{ℕ, List, map, ℤ}
use Rattle.rules.specs.declared.few.Few.{Few}
use Rattle.rules.specs.Few.{items_of}
use Rattle.encoders.specs.declared.conditions.Conditions.{Conditions}
use Rattle.encoders.specs.declared.contacts.Contacts.{Contacts}
use Rattle.encoders.specs.declared.contacts.term.ContactTerm.{ContactTerm}
use Rattle.encoders.specs.declared.letters.Letters.{Letters}
use Rattle.encoders.specs.declared.moisture.Moisture.{Moisture}
use Rattle.encoders.specs.declared.moisture.term.EventTerm.{EventTerm}

-- the terms of one condition, in the order in which they were added
abbrev pub terms_of : {T : Type 0} → Few T 8 → List T
terms_of = items_of

-- those of each condition, from condition 0 on
abbrev pub lists_of : {T : Type 0} → Conditions T → List (List T)
lists_of c = map terms_of c.lists

-- a term by its care and want
abbrev pub contact_term : ContactTerm → ℕ × ℕ
contact_term t = (t.care, t.want)

abbrev pub contacts_of : Contacts → ℕ
contacts_of e = e.contacts.bits

abbrev pub contact_terms : Contacts → List (List (ℕ × ℕ))
contact_terms e = map (map contact_term) (lists_of e.conditions)

-- a term by its code, low and high bound
abbrev pub event_term : EventTerm → ℕ × ℤ × ℤ
event_term t = (t.code, t.low.hundredths, t.high.hundredths)

abbrev pub event_terms : Moisture → List (List (ℕ × ℤ × ℤ))
event_terms e = map (map event_term) (lists_of e.conditions)

abbrev pub width_of : Letters → ℕ
width_of e = e.width.bits
