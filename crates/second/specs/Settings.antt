-- What an encoder holds, what a setting makes of it, and which encoders ask for a setting.
use Rattle.std.specs.Prelude.{◌≡◌, ◌⊎◌, ℕ, List, [], ◌∷◌, ◌++◌, Bool, true, false, ◌&&◌, nat_le, None}
use Rattle.second.specs.declared.coding.Coding.{Coding}
use Rattle.second.specs.declared.coding.CodingKind.{CodingKind}
use Rattle.second.specs.declared.coding.CodingKind.TheVariants.{Contacts, Events, Letters}
use Rattle.second.specs.declared.coding.ContactAsk.{ContactAsk}
use Rattle.second.specs.declared.coding.EventAsk.{EventAsk}
use Rattle.second.specs.declared.coding.Setting.{Setting}
use Rattle.second.specs.declared.coding.Setting.TheVariants.{Contacts as ContactsSet, ContactTerm, EventTerm, Width}
use Rattle.second.specs.declared.coding.Term.{Term}
use Rattle.second.specs.declared.refusal.Refusal.{Refusal}
use Rattle.second.specs.declared.refusal.Stop.{Stop}
use Rattle.second.specs.declared.refusal.Stop.TheVariants.{Refused, NoMemory}
use Rattle.second.specs.declared.refusal.Why.{Why}
use Rattle.second.specs.declared.refusal.Why.TheVariants.{Range, Term as WrongTerm, ManyTerms}

-- the kind of encoder whose words a setting changes
abbrev pub kind_of : Setting → CodingKind
kind_of (ContactsSet contacts) = Contacts
kind_of (ContactTerm term) = Contacts
kind_of (EventTerm term) = Events
kind_of (Width width) = Letters

-- the kind, how many contacts, the width, and the terms of contacts and of events in the order in which they came
abbrev pub Held : Type 0
Held = CodingKind × ℕ × ℕ × List (Term ContactAsk) × List (Term EventAsk)

abbrev pub held : Coding → Held
held c = (c.kind, c.contacts, c.width, c.contact_terms.items, c.event_terms.items)

-- setting how many contacts there are takes their terms away, even where the number stays; a term comes last
abbrev pub with_setting : Setting → Held → Held
with_setting (ContactsSet contacts) h = (h.0, contacts, h.2, [], h.4)
with_setting (ContactTerm term) h = (h.0, h.1, h.2, h.3 ++ term ∷ [], h.4)
with_setting (EventTerm term) h = (h.0, h.1, h.2, h.3, h.4 ++ term ∷ [])
with_setting (Width width) h = (h.0, h.1, width, h.3, h.4)

-- the number of contacts, the width or the condition of a term is in its range; a wrong reading is a wrong term
abbrev pub in_range : Setting → Bool
in_range (ContactsSet contacts) = nat_le 1 contacts && nat_le contacts 8
in_range (ContactTerm term) = nat_le term.condition 15
in_range (EventTerm term) = nat_le term.condition 15
in_range (Width width) = nat_le width 6

-- a refusal that blames no place
abbrev pub bare : Why → Refusal
bare why = record { why = why; place = None; count = None }

abbrev pub is_term : Setting → Bool
is_term (ContactsSet contacts) = false
is_term (ContactTerm term) = true
is_term (EventTerm term) = true
is_term (Width width) = false

-- a stop of what is set: a number is out of its range, or a term is wrong or one too many, or finds no memory where it
-- is asked for
abbrev pub StopOf : Bool → Bool → Type 0 → Stop → Type 0
StopOf within term asked (Refused refusal) =
    (refusal ≡ bare Range) × (within ≡ false) ⊎ (term ≡ true) × ((refusal ≡ bare WrongTerm) ⊎ (refusal ≡ bare ManyTerms))
StopOf within term asked (NoMemory error) = (term ≡ true) × asked
