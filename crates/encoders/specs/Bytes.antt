-- Samples of one byte.
use Rattle.std.specs.Prelude.{ℕ, ◌^◌, cond, List, length, Ok, Err, Result, ◌==◌, nat_lt, slice_index}
use Rattle.rules.specs.declared.refusal.SampleRefusal.{SampleRefusal}
use Rattle.rules.specs.declared.refusal.SampleRefusal.TheVariants.{Size}

-- the byte of a part that is one byte below 2^k, or why there is none
abbrev pub byte_within : ℕ → SampleRefusal → List ℕ → Result ℕ SampleRefusal
byte_within k above part =
    cond (length part == 1)
    (cond (nat_lt (slice_index part 0) (2 ^ k)) (Ok (slice_index part 0)) (Err above))
    (Err Size)
