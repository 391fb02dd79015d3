-- How many conditions a chain has.
use Rattle.std.proofs.Common.{◌≡◌, ◌<◌, ◌≤◌, length, arith}
use Rattle.std.proofs.lemmas.List.{length-map, length-take}
use Rattle.rules.specs.Few.{items_of}
use Rattle.chains.specs.declared.chain.Chain.{Chain}
use Rattle.chains.specs.Held.{chain_of}

counted : (c : Chain) → length (chain_of c) ≡ length (items_of c.conditions)
counted c = length-map (items_of c.conditions) _

pub some_of : (c : Chain) → 0 < length (chain_of c)
some_of c = omega (arith, counted c, c.some)

pub most_of : (c : Chain) → length (chain_of c) ≤ 4
most_of c = omega (arith, counted c, length-take c.conditions.count c.conditions.places, c.conditions.fits)
