-- What one word does to an over.
use Rattle.std.proofs.Common.{◌≡◌, ℕ, Bool, true, false, ◌&&◌, List, [], ◌∷◌, refl, ap, ◌∙◌}
use mathlib.Core.Path.{fun_ext}
use Rattle.rules.specs.declared.mark.Mark.{Mark}
use Rattle.rules.specs.declared.mark.Mark.TheVariants.{Out, In, Last, Anew}
use Rattle.layer.specs.declared.over.Standing.{Standing}
use Rattle.layer.specs.declared.over.Standing.TheVariants.{Outside, Inside, Rejected}
use Rattle.layer.specs.Stretches.{Open, shut, open_with, judged, goes_on, open_at, closed_at, judged_from}

-- f and a are what the scope says of the words to come, p what the pattern below accepts, q what it accepts further;
-- primed they are the same after the word w
module _ (f f' : List ℕ → ℕ → Mark) (a a' : List ℕ → Bool) (p p' q q' : List ℕ → Bool) (w : ℕ)
    (f-is : (l : List ℕ) (v : ℕ) → f' l v ≡ f (w ∷ l) v) (a-is : (l : List ℕ) → a' l ≡ a (w ∷ l)) (p-is : p' ≡ p) where
  later : (o : Open) (l : List ℕ) → judged f' a' p' o l ≡ judged (λ k v. f (w ∷ k) v) (λ k. a (w ∷ k)) p o l
  later o l = λ i. judged (λ k v. f-is k v i) (λ k. a-is k i) (p-is i) o l

  open_is : (s : Standing) → (s ≡ Rejected → ⊥) → (l : List ℕ) → judged_from s f a p q l ≡ judged f a p (open_at s q) l
  open_is Outside n l = refl
  open_is Inside n l = refl
  open_is Rejected n l = absurd (n refl)

  pub read_out : (s : Standing) → f [] w ≡ Out → (l : List ℕ) → judged_from (closed_at s (q [])) f' a' p' q' l ≡ judged_from s f a p q (w ∷ l)
  read_out Outside e l = rw e (later shut l)
  read_out Inside e l = rw e (over (q []))
    where
      over : (b : Bool) → judged_from (closed_at Inside b) f' a' p' q' l ≡ (b && judged (λ k v. f (w ∷ k) v) (λ k. a (w ∷ k)) p shut l)
      over true = later shut l
      over false = refl
  read_out Rejected e l = refl

  pub read_in : (s s' : Standing) → (s ≡ Rejected → ⊥) → s' ≡ Inside → f [] w ≡ In → ((l : List ℕ) → q' l ≡ goes_on (open_at s q) p (w ∷ l)) → (l : List ℕ) → judged_from s' f' a' p' q' l ≡ judged_from s f a p q (w ∷ l)
  read_in s s' n i e h l = rw (i, open_is s n (w ∷ l), e) (ap (λ (k : List ℕ → Bool). judged f' a' p' (open_with k) l) (fun_ext h) ∙ later _ l)

  pub read_anew : (s s' : Standing) → (s ≡ Rejected → ⊥) → s' ≡ Inside → f [] w ≡ Anew → ((l : List ℕ) → q' l ≡ p (w ∷ l)) → (l : List ℕ) → judged_from s' f' a' p' q' l ≡ judged_from s f a p q (w ∷ l)
  read_anew s s' n i e h l = rw (i, open_is s n (w ∷ l), e) (ap (λ (k : List ℕ → Bool). judged f' a' p' (open_with k) l) (fun_ext h) ∙ later _ l)

  pub read_last : (s s' : Standing) (b : Bool) → (s ≡ Rejected → ⊥) → s' ≡ Inside → f [] w ≡ Last → b ≡ goes_on (open_at s q) p (w ∷ []) → (l : List ℕ) → judged_from (closed_at s' b) f' a' p' q' l ≡ judged_from s f a p q (w ∷ l)
  read_last s s' b n i e h l = rw (i, open_is s n (w ∷ l), e, ← h) (over b)
    where
      over : (b : Bool) → judged_from (closed_at Inside b) f' a' p' q' l ≡ (b && judged (λ k v. f (w ∷ k) v) (λ k. a (w ∷ k)) p shut l)
      over true = later shut l
      over false = refl
