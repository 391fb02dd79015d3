-- A word at the openings of a stimulus, and at the response to it.
use Rattle.std.proofs.Common.{◌≡◌, ℕ, zero, suc, ◌+◌, ◌<◌, ◌≤◌, Bool, true, false, cond, not, ◌&&◌, ◌||◌, leb, List, [], ◌∷◌, length, drop, sym, refl, ap, ◌∙◌, ap₂, arith}
use Rattle.std.proofs.lemmas.Bool.Decides.{nat_tests}
use Rattle.rules.specs.Words.{has}
use Rattle.chains.specs.Chains.{occurs, due, responds}
use Rattle.chains.specs.Progress.{next_met, all_due, moved, done, opened, completes, responds_on}
use Rattle.chains.proofs.Chaining.{occurs_next, occurs_none}

-- where a chain occurs, it does so after one more word, and without its first condition
record Kept (l : List ℕ) : Type 0 where
  later : (c : List ℕ) (w : ℕ) → occurs c l ≡ true → occurs c (w ∷ l) ≡ true
  shorter : (p : ℕ) (c : List ℕ) → occurs (p ∷ c) l ≡ true → occurs c l ≡ true

shorter_later : (l : List ℕ) → ((p : ℕ) (c : List ℕ) → occurs (p ∷ c) l ≡ true → occurs c l ≡ true) → (c : List ℕ) (w : ℕ) → occurs c l ≡ true → occurs c (w ∷ l) ≡ true
shorter_later l f [] w h = refl
shorter_later l f (p ∷ c) w h = go (has p w)
  where
    go : (b : Bool) → cond b (occurs c l) (occurs (p ∷ c) l) ≡ true
    go true = f p c h
    go false = h

shorter_more : (l : List ℕ) (v : ℕ) → Kept l → (p : ℕ) (c : List ℕ) → occurs (p ∷ c) (v ∷ l) ≡ true → occurs c (v ∷ l) ≡ true
shorter_more l v k p c h = go (has p v) h
  where
    go : (b : Bool) → cond b (occurs c l) (occurs (p ∷ c) l) ≡ true → occurs c (v ∷ l) ≡ true
    go true e = k.later c v e
    go false e = k.later c v (k.shorter p c e)

kept : (l : List ℕ) → Kept l
kept [] = let f : (p : ℕ) (c : List ℕ) → occurs (p ∷ c) [] ≡ true → occurs c [] ≡ true = λ p c h. cc in record { later = shorter_later [] f; shorter = f }
kept (v ∷ l) = let f : (p : ℕ) (c : List ℕ) → occurs (p ∷ c) (v ∷ l) ≡ true → occurs c (v ∷ l) ≡ true = shorter_more l v (kept l) in record { later = shorter_later (v ∷ l) f; shorter = f }

occurs_drop : (c l : List ℕ) (j : ℕ) → occurs c l ≡ true → occurs (drop j c) l ≡ true
occurs_drop c l zero h = h
occurs_drop [] l (suc j) h = refl
occurs_drop (p ∷ c) l (suc j) h = occurs_drop c l j ((kept l).shorter p c h)

-- what is due from the word w on, which has met all of a chain but c
abbrev due_at : List ℕ → List ℕ → ℕ → List ℕ → Bool
due_at [] s w l = occurs s (w ∷ l)
due_at (p ∷ c) s w l = due (p ∷ c) s l

due_cons : (p : ℕ) (c s : List ℕ) (w : ℕ) (l : List ℕ) → due (p ∷ c) s (w ∷ l) ≡ cond (has p w) (due_at c s w l) (due (p ∷ c) s l)
due_cons p [] s w l = refl
due_cons p (q ∷ c) s w l = refl

shuffle : (came u h d e t m x : Bool) → m && x ≡ (not (u && h) || e) && t → ((not (came || (u && not h)) || d) && m) && x ≡ (not came || d) && ((not u || cond h e d) && t)
shuffle came u h d e t m x i = grind (arith, nat_tests)

gather : (a q y r z d : Bool) → a && q ≡ z && d → a && ((q && y) && r) ≡ d && (y && (z && r))
gather a q y r z d e = grind (arith, nat_tests)

both : (t x y : Bool) → (x ≡ true → y ≡ true) → cond t x y ≡ (not t || x) && y
both t x y h = grind (arith, nat_tests)

and_true : (x : Bool) → x && true ≡ x
and_true true = refl
and_true false = refl

none_due : (us : List Bool) (s l : List ℕ) → all_due us [] s l ≡ true
none_due [] s l = refl
none_due (true ∷ us) s l = none_due us s l
none_due (false ∷ us) s l = none_due us s l

-- the openings that move on and those that stay owe what they owed, and one that is completed asks for the response
moves : (us : List Bool) (came : Bool) (c s : List ℕ) (w : ℕ) (l : List ℕ) → length c ≤ length us → all_due (moved came us c w) c s l && (not (done came us c w) || occurs s (w ∷ l)) ≡ (not came || due_at c s w l) && all_due us c s (w ∷ l)
moves [] came [] s w l h = sym (and_true _)
moves [] came (p ∷ c) s w l h = absurd (omega arith)
moves (u ∷ us) came [] s w l h = rw (none_due, none_due) (sym (and_true _))
moves (u ∷ us) came (p ∷ c) s w l h =
    let g : length c ≤ length us = omega arith in
    rw (due_cons p c s w l) (shuffle came u (has p w) (due (p ∷ c) s l) (due_at c s w l) (all_due us c s (w ∷ l)) _ _ (moves us (u && has p w) c s w l g))

began : (b e d : Bool) → not b || cond b e d ≡ not b || e
began true e d = refl
began false e d = refl

response_next : (s : List ℕ) (j w : ℕ) (l : List ℕ) (t : Bool) → occurs (drop (next_met s (cond t 0 j) w) s) l ≡ (not t || occurs s (w ∷ l)) && occurs (drop j s) (w ∷ l)
response_next s j w l t = sym (occurs_next s (cond t 0 j) w l) ∙ go t ∙ both t (occurs s (w ∷ l)) (occurs (drop j s) (w ∷ l)) (occurs_drop s (w ∷ l) j)
  where
    go : (t : Bool) → occurs (drop (cond t 0 j) s) (w ∷ l) ≡ cond t (occurs s (w ∷ l)) (occurs (drop j s) (w ∷ l))
    go true = refl
    go false = refl

responds_step : (f s : List ℕ) (us : List Bool) (j w : ℕ) (l : List ℕ) → 0 < length f → length f ≤ length us + 1 → responds_on f s (opened f us w) (next_met s (cond (completes f us w) 0 j) w) l ≡ responds_on f s us j (w ∷ l)
responds_step [] s us j w l h g = absurd (omega arith)
responds_step (p ∷ c) s us j w l h g =
    let m = moves us (has p w) c s w l (omega arith) in
    let z : not (has p w) || due (p ∷ c) s (w ∷ l) ≡ not (has p w) || due_at c s w l = ap (λ x. not (has p w) || x) (due_cons p c s w l) ∙ began (has p w) (due_at c s w l) (due (p ∷ c) s l) in
    let t = done (has p w) us c w in
    let a = all_due (moved (has p w) us c w) c s l in
    let r = responds (p ∷ c) s l in
    ap (λ x. a && (x && r)) (response_next s j w l t) ∙ gather a (not t || occurs s (w ∷ l)) (occurs (drop j s) (w ∷ l)) r (not (has p w) || due_at c s w l) (all_due us c s (w ∷ l)) m ∙ ap (λ x. all_due us c s (w ∷ l) && (occurs (drop j s) (w ∷ l) && (x && r))) (sym z)

pub responds_next : (f s : List ℕ) (us us' : List Bool) (j j' w : ℕ) (l : List ℕ) → 0 < length f → length f ≤ 4 → length us ≡ 3 → us' ≡ opened f us w → j' ≡ next_met s (cond (completes f us w) 0 j) w → responds_on f s us' j' l ≡ responds_on f s us j (w ∷ l)
responds_next f s us us' j j' w l h g n e i = rw (e, i) (responds_step f s us j w l h (omega arith))

no_words : (c s : List ℕ) → due c s [] ≡ true
no_words [] s = refl
no_words (p ∷ c) s = refl

nothing_due : (us : List Bool) (c s : List ℕ) → all_due us c s [] ≡ true
nothing_due [] c s = refl
nothing_due (true ∷ us) c s = rw no_words (nothing_due us (drop 1 c) s)
nothing_due (false ∷ us) c s = nothing_due us (drop 1 c) s

pub responds_none : (f s : List ℕ) (us : List Bool) (j : ℕ) → responds_on f s us j [] ≡ leb (length s) j
responds_none f s us j = rw nothing_due (and_true _ ∙ occurs_none s j)

pub responds_same : (F : List ℕ → Bool) (f f' s s' : List ℕ) → F ≡ responds f s → f ≡ f' → s ≡ s' → F ≡ responds f' s'
responds_same F f f' s s' e p q = e ∙ ap₂ responds p q
