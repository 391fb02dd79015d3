-- What a value of at most N items holds.
use Rattle.std.specs.Prelude.{ℕ, List, take}
use Rattle.rules.specs.declared.few.Few.{Few}

abbrev pub items_of : {T : Type 0} {N : ℕ} → Few T N → List T
items_of few = take few.count few.places
