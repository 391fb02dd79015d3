-- Words in pairs.
use Rattle.std.specs.Prelude.{ℕ, ◌%◌, Bool, List, length, ◌==◌}

-- the list has an even number of words
abbrev pub paired : List ℕ → Bool
paired l = length l % 2 == 0
