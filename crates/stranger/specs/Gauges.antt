-- Samples of a gauge: two bytes, a level and its complement, so that a damaged sample shows.
use Rattle.std.specs.Prelude.{ℕ, ◌+◌, ◌/◌, cond, List, length, Ok, Err, Result, ◌==◌, slice_index}
use Rattle.rules.specs.declared.refusal.SampleRefusal.{SampleRefusal}
use Rattle.rules.specs.declared.refusal.SampleRefusal.TheVariants.{Size, Reading}

-- the word is the quarter of the range in which the level lies, 0 to 3
abbrev pub gauge_codes : List ℕ → Result ℕ SampleRefusal
gauge_codes part =
    cond (length part == 2)
    (cond (slice_index part 0 + slice_index part 1 == 255) (Ok (slice_index part 0 / 64)) (Err Reading))
    (Err Size)
