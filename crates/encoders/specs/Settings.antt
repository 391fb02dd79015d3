-- What an encoder is once it is set: what it holds, and the words that it gives.
use Rattle.std.specs.Prelude.{◌≡◌, ℕ, List, ℤ}
use Rattle.encoders.specs.declared.contacts.Contacts.{Contacts}
use Rattle.encoders.specs.declared.letters.Letters.{Letters}
use Rattle.encoders.specs.declared.moisture.Moisture.{Moisture}
use Rattle.encoders.specs.contracts.contacts.coding.ContactsEncoder.TheImpl.{ghosts as as_contacts}
use Rattle.encoders.specs.contracts.letters.coding.LettersEncoder.TheImpl.{ghosts as as_letters}
use Rattle.encoders.specs.contracts.moisture.coding.MoistureEncoder.TheImpl.{ghosts as as_moisture}
use Rattle.encoders.specs.Contact.{contact_codes}
use Rattle.encoders.specs.Event.{event_codes}
use Rattle.encoders.specs.Letter.{letter_codes}
use Rattle.encoders.specs.Held.{contacts_of, contact_terms, event_terms, width_of}

-- it has c contacts and these terms of each condition
abbrev pub HasContacts : Contacts → ℕ → List (List (ℕ × ℕ)) → Type 0
HasContacts e c terms = (contacts_of e ≡ c) × (contact_terms e ≡ terms) × (as_contacts.codes e ≡ contact_codes c terms) × (as_contacts.size e ≡ 1)

-- it has these terms of each condition
abbrev pub HasEvents : Moisture → List (List (ℕ × ℤ × ℤ)) → Type 0
HasEvents e terms = (event_terms e ≡ terms) × (as_moisture.codes e ≡ event_codes terms) × (as_moisture.size e ≡ 3)

-- its letters have k bits
abbrev pub HasWidth : Letters → ℕ → Type 0
HasWidth e k = (width_of e ≡ k) × (as_letters.codes e ≡ letter_codes k) × (as_letters.size e ≡ 1)
