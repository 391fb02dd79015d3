-- A word is a number whose bit c is set when condition c holds.
use Rattle.std.specs.Prelude.{ℕ, ◌/◌, ◌%◌, ◌^◌, Bool, ◌==◌}

-- condition c holds of the word w
abbrev pub has : ℕ → ℕ → Bool
has c w = (w / (2 ^ c)) % 2 == 1
