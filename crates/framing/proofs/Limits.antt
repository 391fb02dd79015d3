-- What is read of an input up to a limit.
use Rattle.std.proofs.Common.{◌≡◌, ℕ, List, take, Option, Some, None, IfSome}
use Rattle.std.specs.Option.{option_map}

pub first_bytes : (n : ℕ) (known : Option (List ℕ)) (v : List ℕ) → IfSome (option_map (take n) known) (λ xs. v ≡ xs) → IfSome known (λ bytes. v ≡ take n bytes)
first_bytes n None v h = h
first_bytes n (Some bytes) v h = h
