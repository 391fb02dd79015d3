-- What is shown of the encoders' words.
use Rattle.std.specs.Prelude.{◌≡◌, ℕ, ◌+◌, ◌*◌, ◌^◌, ◌<◌, true, false, List, [], ◌∷◌, map, length, ℤ, pos, negsuc, ◌≤ℤ◌, Ok, Decides, bit_and, slice_index_or}
use Rattle.std.specs.List.{HoldsAt}
use Rattle.rules.specs.Words.{has}
use Rattle.encoders.specs.declared.contacts.Contacts.{Contacts}
use Rattle.encoders.specs.declared.moisture.Moisture.{Moisture}
use Rattle.encoders.specs.Contact.{contact_fits, contact_codes}
use Rattle.encoders.specs.Event.{event_codes, code_of, reading_of, readable, signed}
use Rattle.encoders.specs.Held.{contact_terms, event_terms}

-- at least one of the terms fits
abbrev pub Fitted : {A : Type 0} → (A → Type 0) → List A → Type 0
Fitted Fits terms = (k : ℕ) × (k < length terms) × HoldsAt Fits terms k

-- the word w says of each condition whether one of its terms fits, and has no other bit
abbrev pub Says : {A : Type 0} → (A → Type 0) → List (List A) → ℕ → Type 0
Says Fits terms w = (w < 2 ^ 16) × ((i : ℕ) → Decides (has i w) (Fitted Fits (slice_index_or terms i [])))

-- with any terms of the 16 conditions, each byte of c contacts has the word that says which conditions hold
abbrev pub ContactWords : Type 0
ContactWords = (c : ℕ) (terms : List (List (ℕ × ℕ))) (s : ℕ) → length terms ≡ 16 → s < 2 ^ c → (w : ℕ) × (contact_codes c terms (s ∷ []) ≡ Ok w) × Says (λ t. bit_and s t.0 ≡ t.1) terms w

-- and so has each event whose reading is in range
abbrev pub EventWords : Type 0
EventWords = (terms : List (List (ℕ × ℤ × ℤ))) (code high low : ℕ) → length terms ≡ 16 → readable (signed (high * 256 + low)) ≡ true → (w : ℕ) × (event_codes terms (code ∷ high ∷ low ∷ []) ≡ Ok w) × Says (λ t. (code ≡ t.0) × ((t.1 ≤ℤ signed (high * 256 + low)) × (signed (high * 256 + low) ≤ℤ t.2))) terms w

-- an encoder holds terms of 16 conditions, whatever was set
abbrev pub SixteenLists : Type 0
SixteenLists = ((e : Contacts) → length (contact_terms e) ≡ 16) × ((e : Moisture) → length (event_terms e) ≡ 16)

-- care 5 and want 1 of the bytes 0 to 5: contact 0 is set, contact 2 is not, and the others may be either
abbrev pub ContactExamples : Type 0
ContactExamples = map (contact_fits (5, 1)) (0 ∷ 1 ∷ 2 ∷ 3 ∷ 4 ∷ 5 ∷ []) ≡ false ∷ true ∷ false ∷ true ∷ false ∷ false ∷ []

-- event 7, half a point below the set moisture; and the ends of what a reading can be
abbrev pub EventExamples : Type 0
EventExamples = (code_of (7 ∷ 255 ∷ 206 ∷ []) ≡ 7) × (reading_of (7 ∷ 255 ∷ 206 ∷ []) ≡ negsuc 49) × (map readable (pos 10000 ∷ pos 10001 ∷ negsuc 9999 ∷ negsuc 10000 ∷ []) ≡ true ∷ false ∷ true ∷ false ∷ [])
