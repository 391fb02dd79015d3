-- What is said of a choice: what is said of the one chosen.
use Rattle.kinds.specs.declared.choice.Choice.{Choice}
use Rattle.kinds.specs.declared.choice.Choice.TheVariants.{First, Second}

abbrev pub chosen : {A B X : Type 0} → (A → X) → (B → X) → Choice A B → X
chosen f g (First a) = f a
chosen f g (Second b) = g b
