-- The test `responds` decides what is said of places.
use Rattle.std.proofs.Common.{◌≡◌, ℕ, zero, suc, ◌<◌, ◌≤◌, Bool, true, false, cond, not, ◌||◌, List, [], ◌∷◌, length, get_or, Decides, refl, arith}
use Rattle.std.proofs.lemmas.Bool.{both_ways, and_parts, and_from}
use Rattle.rules.specs.Words.{has}
use Rattle.chains.specs.Chains.{occurs, due, responds}
use Rattle.chains.specs.Places.{At, Span, Earliest, Responds}
use Rattle.chains.proofs.Spans.{Places, Ends, span_at, span_end, places_of, span_of, ends_of, earliest_span}
use Rattle.chains.proofs.Worded.{up, down, occurs_to, occurs_from}

ends_up : (c : List ℕ) (n w : ℕ) (l : List ℕ) (e : ℕ) → Ends n c l e → Ends (suc n) c (w ∷ l) (suc e)
ends_up [] n w l e h = h
ends_up (p ∷ []) n w l e (a, b, i) = (omega arith, omega arith, i)
ends_up (p ∷ q ∷ c) n w l e (k, a, b, i, r) = (suc k, omega arith, omega arith, i, ends_up (q ∷ c) (suc k) w l e r)

ends_down : (c : List ℕ) (n w : ℕ) (l : List ℕ) (e : ℕ) → Ends (suc n) c (w ∷ l) (suc e) → Ends n c l e
ends_down [] n w l e h = h
ends_down (p ∷ []) n w l e (a, b, i) = (omega arith, omega arith, i)
ends_down (p ∷ q ∷ c) n w l e (zero, a, b, i, r) = absurd (omega arith)
ends_down (p ∷ q ∷ c) n w l e (suc k, a, b, i, r) = (k, omega arith, omega arith, i, ends_down (q ∷ c) (suc k) w l e r)

ends_zero : (c : List ℕ) (n : ℕ) (l : List ℕ) → Ends (suc n) c l 0 → ⊥
ends_zero [] n l h = h
ends_zero (p ∷ []) n l (a, b, i) = omega arith
ends_zero (p ∷ q ∷ c) n l (k, a, b, i, r) = ends_zero (q ∷ c) k l r

ends_sooner : (c : List ℕ) (n n' : ℕ) (l : List ℕ) (e : ℕ) → n' ≤ n → Ends n c l e → Ends n' c l e
ends_sooner [] n n' l e g h = h
ends_sooner (p ∷ []) n n' l e g (a, b, i) = (omega arith, b, i)
ends_sooner (p ∷ q ∷ c) n n' l e g (k, a, b, i, r) = (k, omega arith, b, i, r)

ends_missed : (p : ℕ) (c : List ℕ) (w : ℕ) (l : List ℕ) (e : ℕ) → has p w ≡ false → Ends 0 (p ∷ c) (w ∷ l) e → Ends 1 (p ∷ c) (w ∷ l) e
ends_missed p [] w l zero z (a, b, i) = absurd (both_ways (has p w) z i)
ends_missed p [] w l (suc e) z (a, b, i) = (omega arith, b, i)
ends_missed p (q ∷ c) w l e z (zero, a, b, i, r) = absurd (both_ways (has p w) z i)
ends_missed p (q ∷ c) w l e z (suc k, a, b, i, r) = (suc k, omega arith, b, i, r)

-- what ends at e in a list ends at e + 1 in the list with one more word in front
record Shift (F G : ℕ → Type 0) : Type 0 where
  none : F 0 → ⊥
  to : (e : ℕ) → F (suc e) → G e
  from : (e : ℕ) → G e → F (suc e)

missed : (p : ℕ) (c : List ℕ) (w : ℕ) (l : List ℕ) → has p w ≡ false → Shift (Ends 0 (p ∷ c) (w ∷ l)) (Ends 0 (p ∷ c) l)
missed p c w l z = record {
  none = λ h. ends_zero (p ∷ c) 0 (w ∷ l) (ends_missed p c w l 0 z h);
  to = λ e h. ends_down (p ∷ c) 0 w l e (ends_missed p c w l (suc e) z h);
  from = λ e h. ends_sooner (p ∷ c) 1 0 (w ∷ l) (suc e) (omega arith) (ends_up (p ∷ c) 0 w l e h);
}

met : (p q : ℕ) (c : List ℕ) (w : ℕ) (l : List ℕ) → has p w ≡ true → Shift (Ends 0 (p ∷ q ∷ c) (w ∷ l)) (Ends 0 (q ∷ c) l)
met p q c w l z = record {
  none = λ h. ends_zero (q ∷ c) h.0 (w ∷ l) h.4;
  to = λ e h. ends_sooner (q ∷ c) h.0 0 l e (omega arith) (ends_down (q ∷ c) h.0 w l e h.4);
  from = λ e h. (0, omega arith, omega arith, z, ends_up (q ∷ c) 0 w l e h);
}

later : (c : List ℕ) (n w : ℕ) (l : List ℕ) → Shift (Ends (suc n) c (w ∷ l)) (Ends n c l)
later c n w l = record { none = ends_zero c n (w ∷ l); to = ends_down c n w l; from = ends_up c n w l }

module _ (F G : ℕ → Type 0) (t : Shift F G) where
  earliest_to : (e : ℕ) → Earliest F (suc e) → Earliest G e
  earliest_to e h = (t.to e h.0, λ k x. let y = h.1 (suc k) (t.from k x) in omega arith)

  earliest_from : (e : ℕ) → Earliest G e → Earliest F (suc e)
  earliest_from e h = (t.from e h.0, least)
    where
      least : (k : ℕ) → F k → suc e ≤ k
      least zero x = absurd (t.none x)
      least (suc k) x = let y = h.1 k (t.to k x) in omega arith

-- the response has its places from the earliest of these on
abbrev Owed : (ℕ → Type 0) → List ℕ → List ℕ → Type 0
Owed F s l = (e : ℕ) → Earliest F e → Places e (length l) s l

owed_up : (F G : ℕ → Type 0) (s : List ℕ) (w : ℕ) (l : List ℕ) → Shift F G → Owed G s l → Owed F s (w ∷ l)
owed_up F G s w l t o zero h = absurd (t.none h.0)
owed_up F G s w l t o (suc e) h = up s e (length l) w l (o e (earliest_to F G t e h))

owed_down : (F G : ℕ → Type 0) (s : List ℕ) (w : ℕ) (l : List ℕ) → Shift F G → Owed F s (w ∷ l) → Owed G s l
owed_down F G s w l t o e h = down s e (length l) w l (o (suc e) (earliest_from F G t e h))

-- a chain of one, at a word that has it
at_once : (p : ℕ) (s : List ℕ) (w : ℕ) (l : List ℕ) → has p w ≡ true → occurs s (w ∷ l) ≡ true → Owed (Ends 0 (p ∷ []) (w ∷ l)) s (w ∷ l)
at_once p s w l z h zero x = occurs_to s (w ∷ l) h
at_once p s w l z h (suc e) x = let y = x.1 0 (omega arith, omega arith, z) in absurd (omega arith)

module _ (p : ℕ) (s : List ℕ) (w : ℕ) (l : List ℕ) where
  one_to : (b : Bool) → has p w ≡ b → (due (p ∷ []) s l ≡ true → Owed (Ends 0 (p ∷ []) l) s l) → cond b (occurs s (w ∷ l)) (due (p ∷ []) s l) ≡ true → Owed (Ends 0 (p ∷ []) (w ∷ l)) s (w ∷ l)
  one_to true z i h = at_once p s w l z h
  one_to false z i h = owed_up _ _ s w l (missed p [] w l z) (i h)

  one_from : (b : Bool) → has p w ≡ b → (Owed (Ends 0 (p ∷ []) l) s l → due (p ∷ []) s l ≡ true) → Owed (Ends 0 (p ∷ []) (w ∷ l)) s (w ∷ l) → cond b (occurs s (w ∷ l)) (due (p ∷ []) s l) ≡ true
  one_from true z i o = occurs_from s (w ∷ l) (o 0 ((omega arith, omega arith, z), λ k x. omega arith))
  one_from false z i o = i (owed_down _ _ s w l (missed p [] w l z) o)

  more_to : (q : ℕ) (c : List ℕ) (b : Bool) → has p w ≡ b → (due (q ∷ c) s l ≡ true → Owed (Ends 0 (q ∷ c) l) s l) → (due (p ∷ q ∷ c) s l ≡ true → Owed (Ends 0 (p ∷ q ∷ c) l) s l) → cond b (due (q ∷ c) s l) (due (p ∷ q ∷ c) s l) ≡ true → Owed (Ends 0 (p ∷ q ∷ c) (w ∷ l)) s (w ∷ l)
  more_to q c true z i j h = owed_up _ _ s w l (met p q c w l z) (i h)
  more_to q c false z i j h = owed_up _ _ s w l (missed p (q ∷ c) w l z) (j h)

  more_from : (q : ℕ) (c : List ℕ) (b : Bool) → has p w ≡ b → (Owed (Ends 0 (q ∷ c) l) s l → due (q ∷ c) s l ≡ true) → (Owed (Ends 0 (p ∷ q ∷ c) l) s l → due (p ∷ q ∷ c) s l ≡ true) → Owed (Ends 0 (p ∷ q ∷ c) (w ∷ l)) s (w ∷ l) → cond b (due (q ∷ c) s l) (due (p ∷ q ∷ c) s l) ≡ true
  more_from q c true z i j o = i (owed_down _ _ s w l (met p q c w l z) o)
  more_from q c false z i j o = j (owed_down _ _ s w l (missed p (q ∷ c) w l z) o)

nowhere : (p : ℕ) (c : List ℕ) (e : ℕ) → Ends 0 (p ∷ c) [] e → ⊥
nowhere p [] e (a, b, i) = omega arith
nowhere p (q ∷ c) e (k, a, b, i, r) = omega arith

due_to : (c s l : List ℕ) → due c s l ≡ true → Owed (Ends 0 c l) s l
due_to [] s l h = λ e x. absurd x.0
due_to (p ∷ c) s [] h = λ e x. absurd (nowhere p c e x.0)
due_to (p ∷ []) s (w ∷ l) h = one_to p s w l (has p w) refl (due_to (p ∷ []) s l) h
due_to (p ∷ q ∷ c) s (w ∷ l) h = more_to p s w l q c (has p w) refl (due_to (q ∷ c) s l) (due_to (p ∷ q ∷ c) s l) h

due_from : (c s l : List ℕ) → Owed (Ends 0 c l) s l → due c s l ≡ true
due_from [] s l o = refl
due_from (p ∷ c) s [] o = refl
due_from (p ∷ []) s (w ∷ l) o = one_from p s w l (has p w) refl (due_from (p ∷ []) s l) o
due_from (p ∷ q ∷ c) s (w ∷ l) o = more_from p s w l q c (has p w) refl (due_from (q ∷ c) s l) (due_from (p ∷ q ∷ c) s l) o

shifted : (F G : ℕ → Type 0) → Shift F G → (e : ℕ) × Earliest G e → (e : ℕ) × Earliest F e
shifted F G t (e, h) = (suc e, earliest_from F G t e h)

one_end : (p w : ℕ) (l : List ℕ) (b : Bool) → has p w ≡ b → (d : ℕ) → Ends 0 (p ∷ []) (w ∷ l) d → ((d : ℕ) → Ends 0 (p ∷ []) l d → (e : ℕ) × Earliest (Ends 0 (p ∷ []) l) e) → (e : ℕ) × Earliest (Ends 0 (p ∷ []) (w ∷ l)) e
one_end p w l true z d h f = (0, ((omega arith, omega arith, z), λ k x. omega arith))
one_end p w l false z zero h f = absurd ((missed p [] w l z).none h)
one_end p w l false z (suc d) h f = shifted _ _ (missed p [] w l z) (f d ((missed p [] w l z).to d h))

more_end : (p q : ℕ) (c : List ℕ) (w : ℕ) (l : List ℕ) (b : Bool) → has p w ≡ b → (d : ℕ) → Ends 0 (p ∷ q ∷ c) (w ∷ l) d → ((d : ℕ) → Ends 0 (q ∷ c) l d → (e : ℕ) × Earliest (Ends 0 (q ∷ c) l) e) → ((d : ℕ) → Ends 0 (p ∷ q ∷ c) l d → (e : ℕ) × Earliest (Ends 0 (p ∷ q ∷ c) l) e) → (e : ℕ) × Earliest (Ends 0 (p ∷ q ∷ c) (w ∷ l)) e
more_end p q c w l true z zero h f g = absurd ((met p q c w l z).none h)
more_end p q c w l true z (suc d) h f g = shifted _ _ (met p q c w l z) (f d ((met p q c w l z).to d h))
more_end p q c w l false z zero h f g = absurd ((missed p (q ∷ c) w l z).none h)
more_end p q c w l false z (suc d) h f g = shifted _ _ (missed p (q ∷ c) w l z) (g d ((missed p (q ∷ c) w l z).to d h))

-- where a chain can be completed, there is an earliest place completing it
first_end : (c l : List ℕ) (d : ℕ) → Ends 0 c l d → (e : ℕ) × Earliest (Ends 0 c l) e
first_end [] l d h = absurd h
first_end (p ∷ c) [] d h = absurd (nowhere p c d h)
first_end (p ∷ []) (w ∷ l) d h = one_end p w l (has p w) refl d h (λ d x. first_end (p ∷ []) l d x)
first_end (p ∷ q ∷ c) (w ∷ l) d h = more_end p q c w l (has p w) refl d h (λ d x. first_end (q ∷ c) l d x) (λ d x. first_end (p ∷ q ∷ c) l d x)

first_end_from : (c : List ℕ) (n : ℕ) (l : List ℕ) (d : ℕ) → Ends n c l d → (e : ℕ) × Earliest (Ends n c l) e
first_end_from c zero l d h = first_end c l d h
first_end_from [] (suc n) [] d h = absurd h
first_end_from (p ∷ c) (suc n) [] d h = absurd (nowhere p c d (ends_sooner (p ∷ c) (suc n) 0 [] d (omega arith) h))
first_end_from c (suc n) (w ∷ l) zero h = absurd (ends_zero c n (w ∷ l) h)
first_end_from c (suc n) (w ∷ l) (suc d) h = shifted _ _ (later c n w l) (first_end_from c n l d (ends_down c n w l d h))

-- the same as `Responds`, by the places from i on
abbrev Answered : List ℕ → List ℕ → List ℕ → Type 0
Answered f s l = (i : ℕ) → At (get_or f 0 0) l i → Owed (Ends i f l) s l

answered_to : (p : ℕ) (c s l : List ℕ) → responds (p ∷ c) s l ≡ true → Answered (p ∷ c) s l
answered_to p c s [] h i g = absurd (omega (arith, g.0))
answered_to p c s (w ∷ l) h zero g = due_to (p ∷ c) s (w ∷ l) (go (has p w) g.1 (and_parts _ _ h).0)
  where
    go : (b : Bool) → b ≡ true → not b || due (p ∷ c) s (w ∷ l) ≡ true → due (p ∷ c) s (w ∷ l) ≡ true
    go true e x = x
    go false e x = absurd (both_ways false refl e)
answered_to p c s (w ∷ l) h (suc i) g = owed_up _ _ s w l (later (p ∷ c) i w l) (answered_to p c s l (and_parts _ _ h).1 i (omega (arith, g.0), g.1))

answered_from : (p : ℕ) (c s l : List ℕ) → Answered (p ∷ c) s l → responds (p ∷ c) s l ≡ true
answered_from p c s [] r = refl
answered_from p c s (w ∷ l) r =
    and_from _ _ (go (has p w) refl) (answered_from p c s l (λ i g. owed_down _ _ s w l (later (p ∷ c) i w l) (r (suc i) (omega (arith, g.0), g.1))))
  where
    go : (b : Bool) → has p w ≡ b → not b || due (p ∷ c) s (w ∷ l) ≡ true
    go true z = due_from (p ∷ c) s (w ∷ l) (r 0 (omega arith, z))
    go false z = refl

module _ (p : ℕ) (c : List ℕ) (s : ℕ) (b l : List ℕ) where
  responds_to : responds (p ∷ c) (s ∷ b) l ≡ true → Responds (p ∷ c) (s ∷ b) l
  responds_to h i (d, x) =
      let g = span_at p c l i d x in
      let z = first_end_from (p ∷ c) i l d (ends_of (p ∷ c) l i d i (omega arith) x) in
      let y = span_of s b l z.0 (length l) (omega arith) (answered_to p c (s ∷ b) l h i g z.0 z.1) in
      (z.0, earliest_span p c l i z.0 g z.1, (y.0, y.1, y.4, y.2))

  responds_from : Responds (p ∷ c) (s ∷ b) l → responds (p ∷ c) (s ∷ b) l ≡ true
  responds_from r = answered_from p c (s ∷ b) l owed
    where
      after : (i e : ℕ) → Earliest (Span (p ∷ c) l i) e → (e' : ℕ) × Earliest (Span (p ∷ c) l i) e' × ((j : ℕ) × (d : ℕ) × Span (s ∷ b) l j d × (e' ≤ j)) → Places e (length l) (s ∷ b) l
      after i e x (e', y, (j, d, z, g)) = let o = x.1 e' y.0 in places_of (s ∷ b) l j d e (length l) (omega arith) (span_end (s ∷ b) l j d z) z

      owed : Answered (p ∷ c) (s ∷ b) l
      owed i g e z = let x = earliest_span p c l i e g z in after i e x (r i (e, x.0))

pub responds_decides : (f s l : List ℕ) → 0 < length f → 0 < length s → Decides (responds f s l) (Responds f s l)
responds_decides [] s l g h = absurd (omega arith)
responds_decides (p ∷ c) [] l g h = absurd (omega arith)
responds_decides (p ∷ c) (s ∷ b) l g h = (responds_to p c s b l, responds_from p c s b l)
