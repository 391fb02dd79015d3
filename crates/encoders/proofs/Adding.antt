-- One more term in one of many lists.
use Rattle.std.proofs.Common.{◌≡◌, ℕ, ◌<◌, false, List, [], ◌∷◌, ◌++◌, map, length, get_or, set, sym, ap, ◌∙◌, arith}
use Rattle.std.proofs.lemmas.List.{map-set, get_or-map}
use Rattle.std.proofs.lemmas.Bool.Decides.{nat_tests}
use Rattle.encoders.specs.Holding.{full, with_term}

-- the list at place n, which is condition i
module _ {X A : Type 0} (g : X → List A) (xs : List X) (n i : ℕ) (d : X) (same : n ≡ i) (h : n < length xs) where
  list_at : get_or (map g xs) i [] ≡ g (get_or xs n d)
  list_at = ap (λ k. get_or (map g xs) k []) (sym same) ∙ get_or-map g xs n d [] h

  pub list_with : (new : X) (t : A) → length (g (get_or xs n d)) < 8 → g new ≡ g (get_or xs n d) ++ t ∷ [] → (full (get_or (map g xs) i []) ≡ false) × (map g (set xs n new) ≡ with_term i t (map g xs))
  list_with new t room e = (
    rw list_at (grind (arith, nat_tests)),
    map-set g xs n new ∙ ap (λ k. set (map g xs) k (g new)) same ∙ ap (set (map g xs) i) (e ∙ ap (λ l. l ++ t ∷ []) (sym list_at)),
  )
