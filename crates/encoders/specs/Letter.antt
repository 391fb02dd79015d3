-- Samples that are letters: a byte below 2^k is its own word.
use Rattle.std.specs.Prelude.{ℕ, cond, List, Some, None, Option, Result, nat_le}
use Rattle.rules.specs.declared.refusal.SampleRefusal.{SampleRefusal}
use Rattle.rules.specs.declared.refusal.SampleRefusal.TheVariants.{Letter}
use Rattle.rules.specs.declared.refusal.SettingRefusal.{SettingRefusal}
use Rattle.rules.specs.declared.refusal.SettingRefusal.TheVariants.{Range}
use Rattle.encoders.specs.Bytes.{byte_within}

-- the word of a part, at width k
abbrev pub letter_codes : ℕ → List ℕ → Result ℕ SampleRefusal
letter_codes k = byte_within k Letter

-- a width is at most six
abbrev pub width_refused : ℕ → Option SettingRefusal
width_refused k = cond (nat_le k 6) None (Some Range)
