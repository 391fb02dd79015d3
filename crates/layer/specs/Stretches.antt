use Rattle.std.specs.Prelude.{ℕ, Bool, true, false, not, ◌&&◌, ◌||◌, List, [], ◌∷◌}
use Rattle.rules.specs.declared.mark.Mark.{Mark}
use Rattle.rules.specs.declared.mark.Mark.TheVariants.{Out, In, Last, Anew}
use Rattle.layer.specs.declared.over.Standing.{Standing}
use Rattle.layer.specs.declared.over.Standing.TheVariants.{Outside, Inside, Rejected}

-- what is owed of the stretch that is open, if one is: whether it and the words to come are accepted
pub data Open : Type 0 where
  shut : Open
  open_with : (List ℕ → Bool) → Open

abbrev pub ends_well : Open → Bool
ends_well shut = true
ends_well (open_with q) = q []

abbrev pub goes_on : Open → (List ℕ → Bool) → List ℕ → Bool
goes_on shut p = p
goes_on (open_with q) p = q

-- after a word with mark m: what was closed is accepted, and what is open then
abbrev pub closed : Mark → Open → (List ℕ → Bool) → ℕ → Bool
closed Out o p w = ends_well o
closed In o p w = true
closed Last o p w = goes_on o p (w ∷ [])
closed Anew o p w = true

abbrev pub opened : Mark → Open → (List ℕ → Bool) → ℕ → Open
opened Out o p w = shut
opened In o p w = open_with (λ l. goes_on o p (w ∷ l))
opened Last o p w = shut
opened Anew o p w = open_with (λ l. p (w ∷ l))

-- every judged stretch is accepted by p, where o is open, the scope marks by f and answers by a
abbrev pub judged : (List ℕ → ℕ → Mark) → (List ℕ → Bool) → (List ℕ → Bool) → Open → List ℕ → Bool
judged f a p o [] = not (a []) || ends_well o
judged f a p o (w ∷ l) = closed (f [] w) o p w && judged (λ k v. f (w ∷ k) v) (λ k. a (w ∷ k)) p (opened (f [] w) o p w) l

-- the same, as an over knows it: q is what the pattern below accepts further
abbrev pub open_at : Standing → (List ℕ → Bool) → Open
open_at Outside q = shut
open_at Inside q = open_with q
open_at Rejected q = shut

-- after the stretch that is open, if one is, was closed, and the pattern below accepts it or not
abbrev pub closed_at : Standing → Bool → Standing
closed_at Outside accepts = Outside
closed_at Inside true = Outside
closed_at Inside false = Rejected
closed_at Rejected accepts = Rejected

-- what an over accepts further
abbrev pub judged_from : Standing → (List ℕ → ℕ → Mark) → (List ℕ → Bool) → (List ℕ → Bool) → (List ℕ → Bool) → List ℕ → Bool
judged_from Outside f a p q l = judged f a p shut l
judged_from Inside f a p q l = judged f a p (open_with q) l
judged_from Rejected f a p q l = false
