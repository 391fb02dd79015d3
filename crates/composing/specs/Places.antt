-- What a composer's numbers range over.
use Rattle.std.specs.Prelude.{ℕ, ◌<◌}
use Rattle.table_format.specs.Layout.{states_of, size_of}
use Rattle.composing.specs.declared.composer.Composer.{Composer}
use Rattle.composing.specs.declared.place.Place.{Place}
use Rattle.composing.specs.Composed.{Within}

-- a place of the two tables
abbrev pub IsPlace : Composer → Place → Type 0
IsPlace c x = Within (states_of c.pattern.bytes.now) (states_of c.scope.bytes.now) x

-- a state of the pattern table
abbrev pub IsPatternState : Composer → ℕ → Type 0
IsPatternState c q = q < states_of c.pattern.bytes.now

-- a state of the scope table
abbrev pub IsScopeState : Composer → ℕ → Type 0
IsScopeState c i = i < states_of c.scope.bytes.now

-- a letter, which the two tables have alike
abbrev pub IsLetter : Composer → ℕ → Type 0
IsLetter c a = a < size_of c.pattern.bytes.now
