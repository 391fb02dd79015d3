-- A place is found exactly where an item passes.
use Rattle.std.proofs.Common.{◌≡◌, Bool, List, [], ◌∷◌, refl, arith}
use Rattle.std.specs.List.{list_any, position}
use Rattle.std.specs.Option.{is_some}

pub placed : {A : Type 0} (p : A → Bool) (xs : List A) → is_some (position p xs) ≡ list_any p xs
placed p [] = refl
placed p (x ∷ xs) = let h = placed p xs in grind arith
