-- Samples of contacts: a byte, in which bit k is contact k.
use Rattle.std.specs.Prelude.{ℕ, ◌^◌, Bool, cond, ◌&&◌, List, length, Some, None, Ok, Err, Option, Result, ◌==◌, bit_and, nat_le, nat_lt, slice_index}
use Rattle.rules.specs.declared.refusal.SampleRefusal.{SampleRefusal}
use Rattle.rules.specs.declared.refusal.SampleRefusal.TheVariants.{Size, Contacts}
use Rattle.rules.specs.declared.refusal.SettingRefusal.{SettingRefusal}
use Rattle.rules.specs.declared.refusal.SettingRefusal.TheVariants.{Range}
use Rattle.encoders.specs.Holding.{word}

-- a term is the pair of care and want, and fits a sample whose bits under care are those of want
abbrev pub contact_fits : ℕ × ℕ → ℕ → Bool
contact_fits t s = bit_and s t.0 == t.1

-- with c contacts: care speaks of none above them, and want has no bit outside care
abbrev pub contact_fair : ℕ → ℕ → ℕ → Bool
contact_fair c care want = nat_lt care (2 ^ c) && bit_and want care == want

-- the word of a part, with c contacts and these terms of each condition
abbrev pub contact_codes : ℕ → List (List (ℕ × ℕ)) → List ℕ → Result ℕ SampleRefusal
contact_codes c terms part =
    cond (length part == 1)
    (cond (nat_lt (slice_index part 0) (2 ^ c)) (Ok (word (λ t. contact_fits t (slice_index part 0)) terms)) (Err Contacts))
    (Err Size)

-- there are one to eight contacts
abbrev pub contacts_refused : ℕ → Option SettingRefusal
contacts_refused c = cond (nat_le 1 c && nat_le c 8) None (Some Range)
