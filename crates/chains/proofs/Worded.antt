-- The tests `occurs` and `precedes` decide what is said of places.
use Rattle.std.proofs.Common.{◌≡◌, ℕ, zero, suc, ◌<◌, ◌≤◌, Bool, true, false, cond, not, ◌||◌, List, [], ◌∷◌, length, take, Decides, refl, ap, arith}
use Rattle.std.proofs.lemmas.List.{get_or-take, length-take-le}
use Rattle.std.proofs.lemmas.Bool.{both_ways}
use Rattle.rules.specs.Words.{has}
use Rattle.chains.specs.Chains.{occurs, up_to, precedes}
use Rattle.chains.specs.Places.{At, Span, Occurs, Earliest, Precedes}
use Rattle.chains.proofs.Spans.{Places, span_at, span_end, places_of, span_of}

pub up : (c : List ℕ) (n m w : ℕ) (l : List ℕ) → Places n m c l → Places (suc n) (suc m) c (w ∷ l)
up [] n m w l h = tt
up (p ∷ c) n m w l (k, a, b, e, r) = (suc k, omega arith, omega arith, e, up c (suc k) m w l r)

pub down : (c : List ℕ) (n m w : ℕ) (l : List ℕ) → Places (suc n) (suc m) c (w ∷ l) → Places n m c l
down [] n m w l h = tt
down (p ∷ c) n m w l (zero, a, b, e, r) = absurd (omega arith)
down (p ∷ c) n m w l (suc k, a, b, e, r) = (k, omega arith, omega arith, e, down c (suc k) m w l r)

sooner : (c : List ℕ) (n n' m : ℕ) (l : List ℕ) → n' ≤ n → Places n m c l → Places n' m c l
sooner [] n n' m l h r = tt
sooner (p ∷ c) n n' m l h (k, a, b, e, r) = (k, omega arith, b, e, r)

-- the chain has its places anywhere in l
abbrev pub Within : List ℕ → List ℕ → Type 0
Within c l = Places 0 (length l) c l

hit_to : (p w : ℕ) (c l : List ℕ) (b : Bool) → has p w ≡ b → cond b (occurs c l) (occurs (p ∷ c) l) ≡ true → (occurs c l ≡ true → Within c l) → (occurs (p ∷ c) l ≡ true → Within (p ∷ c) l) → Within (p ∷ c) (w ∷ l)
hit_to p w c l true e h f g = (0, omega arith, omega arith, e, up c 0 (length l) w l (f h))
hit_to p w c l false e h f g = sooner (p ∷ c) 1 0 (suc (length l)) (w ∷ l) (omega arith) (up (p ∷ c) 0 (length l) w l (g h))

pub occurs_to : (c l : List ℕ) → occurs c l ≡ true → Within c l
occurs_to [] l h = tt
occurs_to (p ∷ c) [] h = absurd (both_ways false refl h)
occurs_to (p ∷ c) (w ∷ l) h = hit_to p w c l (has p w) refl h (occurs_to c l) (occurs_to (p ∷ c) l)

hit_from : (p w : ℕ) (c l : List ℕ) (b : Bool) → has p w ≡ b → (Within c l → occurs c l ≡ true) → (Within (p ∷ c) l → occurs (p ∷ c) l ≡ true) → Within (p ∷ c) (w ∷ l) → cond b (occurs c l) (occurs (p ∷ c) l) ≡ true
hit_from p w c l true e f g (k, a, b, i, r) = f (sooner c k 0 (length l) l (omega arith) (down c k (length l) w l r))
hit_from p w c l false e f g (zero, a, b, i, r) = absurd (both_ways (has p w) e i)
hit_from p w c l false e f g (suc k, a, b, i, r) = g (k, omega arith, omega arith, i, down c (suc k) (length l) w l r)

pub occurs_from : (c l : List ℕ) → Within c l → occurs c l ≡ true
occurs_from [] l h = refl
occurs_from (p ∷ c) [] (k, a, b, e, r) = absurd (omega arith)
occurs_from (p ∷ c) (w ∷ l) h = hit_from p w c l (has p w) refl (occurs_from c l) (occurs_from (p ∷ c) l) h

pub occurs_decides : (c l : List ℕ) → 0 < length c → Decides (occurs c l) (Occurs c l)
occurs_decides [] l h = absurd (omega arith)
occurs_decides (p ∷ c) l h = (λ t. to (occurs_to (p ∷ c) l t), λ o. occurs_from (p ∷ c) l (from o))
  where
    to : Within (p ∷ c) l → Occurs (p ∷ c) l
    to r = let s = span_of p c l 0 (length l) (omega arith) r in (s.0, s.1, s.4)

    from : Occurs (p ∷ c) l → Within (p ∷ c) l
    from (i, e, s) = places_of (p ∷ c) l i e 0 (length l) (omega arith) (span_end (p ∷ c) l i e s) s

-- the words up to a place
wide : (c : List ℕ) (n m : ℕ) (l : List ℕ) → Places n m c (take m l) → Places n m c l
wide [] n m l h = tt
wide (p ∷ c) n m l (k, a, b, e, r) = (k, a, b, rw get_or-take at e, wide c (suc k) m l r)

narrow : (c : List ℕ) (n m : ℕ) (l : List ℕ) → Places n m c l → Places n m c (take m l)
narrow [] n m l h = tt
narrow (p ∷ c) n m l (k, a, b, e, r) = (k, a, b, rw get_or-take e, narrow c (suc k) m l r)

-- the first place with a condition, in a list with one more word in front
earliest_up : (c w : ℕ) (l : List ℕ) (f : ℕ) → has c w ≡ false → Earliest (At c l) f → Earliest (At c (w ∷ l)) (suc f)
earliest_up c w l f z h = ((omega (arith, h.0.0), h.0.1), least)
  where
    least : (k : ℕ) → At c (w ∷ l) k → suc f ≤ k
    least zero x = absurd (both_ways (has c w) z x.1)
    least (suc k) x = omega (arith, h.1 k (omega (arith, x.0), x.1))

earliest_down : (c w : ℕ) (l : List ℕ) (f : ℕ) → Earliest (At c (w ∷ l)) (suc f) → Earliest (At c l) f
earliest_down c w l f h = ((omega (arith, h.0.0), h.0.1), λ k x. omega (arith, h.1 (suc k) (omega (arith, x.0), x.1)))

up_to_take : (c : ℕ) (l : List ℕ) (f : ℕ) → Earliest (At c l) f → up_to c l ≡ take (suc f) l
up_to_take c [] f h = absurd (omega (arith, h.0.0))
up_to_take c (w ∷ l) zero h = rw h.0.1
up_to_take c (w ∷ l) (suc f) h = go (has c w) refl (up_to_take c l f (earliest_down c w l f h))
  where
    go : (b : Bool) → has c w ≡ b → up_to c l ≡ take (suc f) l → w ∷ cond b [] (up_to c l) ≡ w ∷ take (suc f) l
    go true z e = absurd (omega (arith, h.1 0 (omega arith, z)))
    go false z e = ap (λ x. w ∷ x) e

first_place : (c : ℕ) (l : List ℕ) (k : ℕ) → At c l k → (f : ℕ) × Earliest (At c l) f
first_place c [] k h = absurd (omega (arith, h.0))
first_place c (w ∷ l) zero h = (0, (h, λ k x. omega arith))
first_place c (w ∷ l) (suc k) h = go (has c w) refl (first_place c l k (omega (arith, h.0), h.1))
  where
    go : (b : Bool) → has c w ≡ b → (f : ℕ) × Earliest (At c l) f → (f : ℕ) × Earliest (At c (w ∷ l)) f
    go true z x = (0, ((omega arith, z), λ k y. omega arith))
    go false z (f, x) = (suc f, earliest_up c w l f z x)

front_decides : (q : List ℕ) (c : ℕ) (l : List ℕ) (f : ℕ) → Earliest (At c l) f → Decides (occurs q (up_to c l)) (Places 0 (suc f) q l)
front_decides q c l f h =
    let n : length (take (suc f) l) ≡ suc f = length-take-le (suc f) l h.0.0 in
    rw (up_to_take c l f h) ((λ e. wide q 0 (suc f) l (rw n at (occurs_to q (take (suc f) l) e))), (λ x. occurs_from q (take (suc f) l) (rw n (narrow q 0 (suc f) l x))))

module _ (p : ℕ) (a : List ℕ) (s : ℕ) (b l : List ℕ) where
  -- the first chain is complete by place f
  abbrev By : ℕ → Type 0
  By f = (i : ℕ) × (e : ℕ) × Span (p ∷ a) l i e × (e ≤ f)

  by_places : (f : ℕ) → f < length l → Places 0 (suc f) (p ∷ a) l → By f
  by_places f h r = let x = span_of p a l 0 (suc f) h r in (x.0, x.1, x.4, omega (arith, x.3))

  places_by : (f : ℕ) → By f → Places 0 (suc f) (p ∷ a) l
  places_by f (i, e, x, g) = places_of (p ∷ a) l i e 0 (suc f) (omega arith) (omega arith) x

  found : Occurs (s ∷ b) l → (f : ℕ) × Earliest (At s l) f
  found (i, e, x) = first_place s l i (span_at s b l i e x)

  precedes_to : precedes (p ∷ a) (s ∷ b) l ≡ true → Precedes (p ∷ a) (s ∷ b) l
  precedes_to h o =
      let z = found o in
      (z.0, z.1, by_places z.0 z.1.0.0 ((front_decides (p ∷ a) s l z.0 z.1).0 (go (occurs (s ∷ b) l) ((occurs_decides (s ∷ b) l (omega arith)).1 o) h)))
    where
      go : (t : Bool) → t ≡ true → not t || occurs (p ∷ a) (up_to s l) ≡ true → occurs (p ∷ a) (up_to s l) ≡ true
      go true e i = i
      go false e i = absurd (both_ways false refl e)

  precedes_from : Precedes (p ∷ a) (s ∷ b) l → precedes (p ∷ a) (s ∷ b) l ≡ true
  precedes_from h = go (occurs (s ∷ b) l) refl
    where
      go : (t : Bool) → occurs (s ∷ b) l ≡ t → not t || occurs (p ∷ a) (up_to s l) ≡ true
      go false e = refl
      go true e =
          let z = h ((occurs_decides (s ∷ b) l (omega arith)).0 e) in
          (front_decides (p ∷ a) s l z.0 z.1).1 (places_by z.0 z.2)

pub precedes_decides : (a b l : List ℕ) → 0 < length a → 0 < length b → Decides (precedes a b l) (Precedes a b l)
precedes_decides [] b l g h = absurd (omega arith)
precedes_decides (p ∷ a) [] l g h = absurd (omega arith)
precedes_decides (p ∷ a) (s ∷ b) l g h = (precedes_to p a s b l, precedes_from p a s b l)
