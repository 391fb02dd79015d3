-- The places of a chain within bounds, condition by condition, against its first and its final place.
use Rattle.std.proofs.Common.{◌≡◌, ℕ, suc, ◌<◌, ◌≤◌, true, List, [], ◌∷◌, length, get_or, sym, refl, arith}
use Rattle.rules.specs.Words.{has}
use Rattle.chains.specs.Places.{At, Span, Earliest}

-- the chain has its places from n on and before m
abbrev pub Places : ℕ → ℕ → List ℕ → List ℕ → Type 0
Places n m [] l = Unit {0}
Places n m (p ∷ chain) l = (k : ℕ) × (n ≤ k) × (k < m) × (has p (get_or l k 0) ≡ true) × Places (suc k) m chain l

-- it has them from n on, and the final one is e
abbrev pub Ends : ℕ → List ℕ → List ℕ → ℕ → Type 0
Ends n [] l e = ⊥
Ends n (p ∷ []) l e = (n ≤ e) × (e < length l) × (has p (get_or l e 0) ≡ true)
Ends n (p ∷ q ∷ chain) l e = (k : ℕ) × (n ≤ k) × (k < length l) × (has p (get_or l k 0) ≡ true) × Ends (suc k) (q ∷ chain) l e

pub span_at : (p : ℕ) (c l : List ℕ) (i e : ℕ) → Span (p ∷ c) l i e → At p l i
span_at p [] l i e h = h.0
span_at p (q ∷ c) l i e h = h.0

span_order : (c l : List ℕ) (i e : ℕ) → Span c l i e → i ≤ e
span_order [] l i e h = absurd h
span_order (p ∷ []) l i e (a, z) = omega arith
span_order (p ∷ q ∷ c) l i e (a, (k, x, r)) = let h = span_order (q ∷ c) l k e r in omega arith

pub span_end : (c l : List ℕ) (i e : ℕ) → Span c l i e → e < length l
span_end [] l i e h = absurd h
span_end (p ∷ []) l i e ((a, h), z) = omega arith
span_end (p ∷ q ∷ c) l i e (a, (k, x, r)) = span_end (q ∷ c) l k e r

pub places_of : (c l : List ℕ) (i e n m : ℕ) → n ≤ i → e < m → Span c l i e → Places n m c l
places_of [] l i e n m g h r = tt
places_of (p ∷ []) l i e n m g h ((a, x), z) = (i, g, omega arith, x, tt)
places_of (p ∷ q ∷ c) l i e n m g h ((a, x), (k, y, r)) = let o = span_order (q ∷ c) l k e r in (i, g, omega arith, x, places_of (q ∷ c) l k e (suc i) m y h r)

pub span_of : (p : ℕ) (c l : List ℕ) (n m : ℕ) → m ≤ length l → Places n m (p ∷ c) l → (i : ℕ) × (e : ℕ) × (n ≤ i) × (e < m) × Span (p ∷ c) l i e
span_of p [] l n m g (k, a, b, x, r) = (k, k, a, b, ((omega arith, x), refl))
span_of p (q ∷ c) l n m g (k, a, b, x, r) =
    let s = span_of q c l (suc k) m g r in
    (k, s.1, a, s.3, ((omega arith, x), (s.0, s.2, s.4)))

pub ends_of : (c l : List ℕ) (i e n : ℕ) → n ≤ i → Span c l i e → Ends n c l e
ends_of [] l i e n g h = h
ends_of (p ∷ []) l i e n g ((a, x), z) = (omega arith, omega arith, rw (sym z) x)
ends_of (p ∷ q ∷ c) l i e n g ((a, x), (k, y, r)) = (i, g, a, x, ends_of (q ∷ c) l k e (suc i) y r)

from_ends : (p : ℕ) (c l : List ℕ) (n e : ℕ) → Ends n (p ∷ c) l e → (i : ℕ) × (n ≤ i) × Span (p ∷ c) l i e
from_ends p [] l n e (a, b, x) = (e, a, ((b, x), refl))
from_ends p (q ∷ c) l n e (k, a, b, x, r) = let s = from_ends q c l (suc k) e r in (k, a, ((b, x), (s.0, s.1, s.2)))

-- where the first condition holds at i, places from i on can as well begin there
begin_there : (p q : ℕ) (c l : List ℕ) (i e : ℕ) → At p l i → Ends i (p ∷ q ∷ c) l e → Span (p ∷ q ∷ c) l i e
begin_there p q c l i e h (k, a, b, x, r) = let s = from_ends q c l (suc k) e r in (h, (s.0, omega (arith, s.1), s.2))

pub earliest_span : (p : ℕ) (c l : List ℕ) (i e : ℕ) → At p l i → Earliest (Ends i (p ∷ c) l) e → Earliest (Span (p ∷ c) l i) e
earliest_span p [] l i e h z =
    let g = z.1 i (omega arith, h.0, h.1) in
    ((h, omega (arith, z.0.0)), λ k s. z.1 k (ends_of (p ∷ []) l i k i (omega arith) s))
earliest_span p (q ∷ c) l i e h z =
    (begin_there p q c l i e h z.0, λ k s. z.1 k (ends_of (p ∷ q ∷ c) l i k i (omega arith) s))
