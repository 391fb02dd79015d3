-- The scopes by the places of a list.
use Rattle.std.proofs.Common.{◌≡◌, ℕ, zero, suc, ◌<◌, true, false, cond, not, ◌&&◌, ◌||◌, List, [], ◌∷◌, ◌++◌, length, get_or, sym, ap, ◌∙◌, ⊎_elim, le_of_suc-le-suc, arith}
use Rattle.std.proofs.Math.Bool.{or-false}
use Rattle.std.proofs.lemmas.Bool.{false≢true, both_ways, not-true, and_parts, or_cases, or_right, false_from_ne_true}
use Rattle.std.proofs.lemmas.Bool.Decides.{nat_tests}
use Rattle.std.proofs.lemmas.List.{get_or_default}
use Rattle.std.proofs.lemmas.List.Elements.{All-from_get_or}
use Rattle.std.proofs.lemmas.List.Folds.{Any-from_list_any, list_any_at, list_any_none, list_any-append}
use Rattle.rules.specs.Words.{has}
use Rattle.rules.specs.declared.mark.Mark.TheVariants.{Out, In}
use Rattle.scopes.specs.Marks.{some_has, inside}
use Rattle.scopes.specs.Places.{SomePlace, Open, SeenByPlaces, InsideByPlaces, Turns, InInside}

some_to : (c : ℕ) (l : List ℕ) → some_has c l ≡ true → SomePlace c l
some_to c l e =
    let (k, w, within, read, h) = Any-from_list_any (has c) l e in
    (k, within, rw (get_or_default l k 0 w within, read) h)

pub seen_by_places : SeenByPlaces
seen_by_places c l = (some_to c l, λ s. list_any_at (has c) l s.0 0 s.1 s.2)

none_to : (c : ℕ) (l : List ℕ) → some_has c l ≡ false → (k : ℕ) → k < length l → has c (get_or l k 0) ≡ false
none_to c l e k p = false_from_ne_true _ (λ h. both_ways _ e (list_any_at (has c) l k 0 p h))

none_from : (c : ℕ) (l : List ℕ) → ((k : ℕ) → k < length l → has c (get_or l k 0) ≡ false) → some_has c l ≡ false
none_from c l none = list_any_none (has c) l (All-from_get_or (λ w. has c w ≡ false) l 0 none)

-- the first word is the opening, or the opening is further on
open_first : (q r w : ℕ) (l : List ℕ) → has q w ≡ true → has r w ≡ false → some_has r l ≡ false → Open q r (w ∷ l)
open_first q r w l hq hr none =
    record { place = 0; there = omega arith; opens = hq; closes_not = hr; open_since = since }
  where
    since : (j : ℕ) → 0 < j → j < length (w ∷ l) → has r (get_or (w ∷ l) j 0) ≡ false
    since zero lo hi = absurd (omega arith)
    since (suc j) lo hi = none_to r l none j (le_of_suc-le-suc hi)

open_later : (q r w : ℕ) (l : List ℕ) → Open q r l → Open q r (w ∷ l)
open_later q r w l o =
    record { place = suc o.place; there = omega arith; opens = o.opens; closes_not = o.closes_not; open_since = since }
  where
    since : (j : ℕ) → suc o.place < j → j < length (w ∷ l) → has r (get_or (w ∷ l) j 0) ≡ false
    since zero lo hi = absurd (omega arith)
    since (suc j) lo hi = o.open_since j (le_of_suc-le-suc lo) (le_of_suc-le-suc hi)

open_to : (q r : ℕ) (l : List ℕ) → inside q r l ≡ true → Open q r l
open_to q r [] e = absurd (false≢true e)
open_to q r (w ∷ l) e =
    ⊎_elim
    (λ h.
    let both = and_parts (has q w && not (has r w)) (not (some_has r l)) h in
    let here = and_parts (has q w) (not (has r w)) both.0 in
    open_first q r w l here.0 (not-true (has r w) here.1) (not-true (some_has r l) both.1))
    (λ h. open_later q r w l (open_to q r l h))
    (or_cases (has q w && not (has r w) && not (some_has r l)) (inside q r l) e)

open_from : (q r : ℕ) (l : List ℕ) (k : ℕ) → k < length l → has q (get_or l k 0) ≡ true → has r (get_or l k 0) ≡ false
    → ((j : ℕ) → k < j → j < length l → has r (get_or l j 0) ≡ false) → inside q r l ≡ true
open_from q r [] k p hq hr since = absurd (omega arith)
open_from q r (w ∷ l) zero p hq hr since =
    let none : some_has r l ≡ false = none_from r l (λ j h. since (suc j) (omega arith) (omega arith)) in grind (arith, nat_tests)
open_from q r (w ∷ l) (suc k) p hq hr since =
    or_right (has q w && not (has r w) && not (some_has r l)) (inside q r l)
    (open_from q r l k (le_of_suc-le-suc p) hq hr (λ j lo hi. since (suc j) (omega arith) (omega arith)))

pub inside_by_places : InsideByPlaces
inside_by_places q r l = (open_to q r l, λ o. open_from q r l o.place o.there o.opens o.closes_not o.open_since)

-- one word more at the end
some_push : (c w : ℕ) (l : List ℕ) → some_has c (l ++ w ∷ []) ≡ (some_has c l || has c w)
some_push c w l = list_any-append (has c) l (w ∷ []) ∙ ap (λ b. some_has c l || b) (or-false (has c w))

turned : (q r w : ℕ) (l : List ℕ) → inside q r (l ++ w ∷ []) ≡ (not (has r w) && (inside q r l || has q w))
turned q r w [] = grind (arith, nat_tests)
turned q r w (v ∷ l) = let e = turned q r w l in let s = some_push r w l in grind (arith, nat_tests)

pub turns : Turns
turns q r w l = let e = turned q r w l in grind (arith, nat_tests)

pub in_inside : InInside
in_inside q r w l = ap (λ b. cond b In Out) (sym (turned q r w l))
