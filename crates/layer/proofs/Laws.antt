-- Judging word by word gives what the stretches by their places give.
use Rattle.std.proofs.Common.{◌≡◌, ℕ, zero, suc, ◌<◌, ◌≤◌, Bool, true, false, not, ◌&&◌, ◌||◌, List, [], ◌∷◌, length, take, Decides, sym, refl, ap, ◌∙◌, ap₂, suc-le-suc, zero-le, le_of_suc-le-suc, arith}
use mathlib.Core.Path.{fun_ext}
use Rattle.std.proofs.lemmas.Bool.{and_parts}
use Rattle.rules.specs.declared.mark.Mark.{Mark}
use Rattle.rules.specs.declared.mark.Mark.TheVariants.{Out, In, Last, Anew}
use Rattle.layer.specs.declared.over.Standing.TheVariants.{Outside}
use Rattle.layer.specs.Stretches.{Open, shut, open_with, judged, opened, closed, ends_well, judged_from}
use Rattle.layer.specs.Blocks.{at, each, is_out, is_in, is_last, is_anew, at_border, unbroken, ends, is_judged, part, all_accepted, marks_of, accepts_over, EveryStretch}

and_true : (b : Bool) → (b && true) ≡ b
and_true true = refl
and_true false = refl

or_true : (b : Bool) → (b || true) ≡ true
or_true true = refl
or_true false = refl

each_ext : (i n : ℕ) (s t : ℕ → Bool) → ((k : ℕ) → s k ≡ t k) → each i n s ≡ each i n t
each_ext i n s t h = ap (each i n) (fun_ext h)

each_true : (n : ℕ) (t : ℕ → Bool) → ((k : ℕ) → t k ≡ true) → each zero n t ≡ true
each_true zero t h = refl
each_true (suc n) t h = ap₂ ◌&&◌ (h zero) (each_true n (λ k. t (suc k)) (λ k. h (suc k)))

-- a stretch of which a condition fails asks nothing
off_second : (x y z q : Bool) → (not (x && false && y && z) || q) ≡ true
off_second true y z q = refl
off_second false y z q = refl

off_third : (x y z q : Bool) → (not (x && y && false && z) || q) ≡ true
off_third true true z q = refl
off_third true false z q = refl
off_third false y z q = refl

-- the same definition, after a place with mark v
abbrev border : Mark → Bool
border v = is_out v || is_last v

abbrev begins_after : Mark → List Mark → ℕ → Bool
begins_after v ms i = at is_anew ms i || ((at is_in ms i || at is_last ms i) && (at is_out (v ∷ ms) i || at is_last (v ∷ ms) i))

abbrev stretch : List Mark → Bool → ℕ → ℕ → Bool
stretch ms says i j = unbroken ms i j && ends ms says j

abbrev all_after : Mark → List Mark → Bool → (List ℕ → Bool) → List ℕ → Bool
all_after v ms says p ws =
    each zero (length ws) (λ i. each i (length ws) (λ j. not (begins_after v ms i && unbroken ms i j && ends ms says j) || p (part i j ws)))

-- the open block, of which q says what it accepts further, is accepted wherever it is judged
abbrev open_row : List Mark → Bool → (List ℕ → Bool) → List ℕ → Bool
open_row ms says q ws = each zero (suc (length ws)) (λ j. not (stretch (In ∷ ms) says zero j) || q (take j ws))

-- the blocks that begin at the first place, with mark m
abbrev row : Bool → Mark → List Mark → Bool → (List ℕ → Bool) → ℕ → List ℕ → Bool
row fr m ms says p w ws =
    each zero (suc (length ws)) (λ j. not ((is_anew m || ((is_in m || is_last m) && fr)) && unbroken (m ∷ ms) zero j && ends (m ∷ ms) says j) || p (w ∷ take j ws))

all_split : (v m : Mark) (ms : List Mark) (says : Bool) (p : List ℕ → Bool) (w : ℕ) (ws : List ℕ)
    → all_after v (m ∷ ms) says p (w ∷ ws) ≡ (row (border v) m ms says p w ws && all_after m ms says p ws)
all_split v m ms says p w ws = refl

open_out : (ms : List Mark) (says : Bool) (q : List ℕ → Bool) (w : ℕ) (ws : List ℕ) → open_row (Out ∷ ms) says q (w ∷ ws) ≡ q []
open_out ms says q w ws = ap (λ b. q [] && b) (each_true (suc (length ws)) _ (λ k. refl)) ∙ and_true (q [])

open_in : (ms : List Mark) (says : Bool) (q : List ℕ → Bool) (w : ℕ) (ws : List ℕ) → open_row (In ∷ ms) says q (w ∷ ws) ≡ open_row ms says (λ l. q (w ∷ l)) ws
open_in ms says q w ws = refl

open_last : (ms : List Mark) (says : Bool) (q : List ℕ → Bool) (w : ℕ) (ws : List ℕ) → open_row (Last ∷ ms) says q (w ∷ ws) ≡ q (w ∷ [])
open_last ms says q w ws = ap (λ b. q (w ∷ []) && b) (each_true (length ws) _ (λ k. off_second _ _ _ _)) ∙ and_true (q (w ∷ []))

open_anew : (ms : List Mark) (says : Bool) (q : List ℕ → Bool) (w : ℕ) (ws : List ℕ) → open_row (Anew ∷ ms) says q (w ∷ ws) ≡ true
open_anew ms says q w ws =
    each_true (suc (length ws)) (λ k. not (stretch (In ∷ Anew ∷ ms) says zero (suc k)) || q (w ∷ take k ws)) (λ k. search off_third)

row_out : (fr : Bool) (ms : List Mark) (says : Bool) (p : List ℕ → Bool) (w : ℕ) (ws : List ℕ) → row fr Out ms says p w ws ≡ true
row_out fr ms says p w ws = each_true (length ws) _ (λ k. refl)

row_in : (ms : List Mark) (says : Bool) (p : List ℕ → Bool) (w : ℕ) (ws : List ℕ) → row true In ms says p w ws ≡ open_row ms says (λ l. p (w ∷ l)) ws
row_in ms says p w ws = refl

row_in_off : (ms : List Mark) (says : Bool) (p : List ℕ → Bool) (w : ℕ) (ws : List ℕ) → row false In ms says p w ws ≡ true
row_in_off ms says p w ws = each_true (length ws) _ (λ k. refl)

row_last : (ms : List Mark) (says : Bool) (p : List ℕ → Bool) (w : ℕ) (ws : List ℕ) → row true Last ms says p w ws ≡ p (w ∷ [])
row_last ms says p w ws = ap (λ b. p (w ∷ []) && b) (each_true (length ws) _ (λ k. off_second _ _ _ _)) ∙ and_true (p (w ∷ []))

row_last_off : (ms : List Mark) (says : Bool) (p : List ℕ → Bool) (w : ℕ) (ws : List ℕ) → row false Last ms says p w ws ≡ true
row_last_off ms says p w ws = each_true (length ws) _ (λ k. refl)

like_in : (ms : List Mark) (says : Bool) (j : ℕ) → stretch (Anew ∷ ms) says zero j ≡ stretch (In ∷ ms) says zero j
like_in ms says zero = refl
like_in ms says (suc j) = refl

row_anew : (fr : Bool) (ms : List Mark) (says : Bool) (p : List ℕ → Bool) (w : ℕ) (ws : List ℕ) → row fr Anew ms says p w ws ≡ open_row ms says (λ l. p (w ∷ l)) ws
row_anew fr ms says p w ws =
    each_ext zero (suc (length ws)) (λ j. not (stretch (Anew ∷ ms) says zero j) || p (w ∷ take j ws)) (λ j. not (stretch (In ∷ ms) says zero j) || p (w ∷ take j ws))
    (λ j. ap (λ b. not b || p (w ∷ take j ws)) (like_in ms says j))

-- what the open block, if there is one, still owes
abbrev owed : Open → List Mark → Bool → List ℕ → Bool
owed shut ms says l = true
owed (open_with q) ms says l = open_row ms says q l

abbrev is_shut : Open → Bool
is_shut shut = true
is_shut (open_with q) = false

border_kept : (m : Mark) (o : Open) (p : List ℕ → Bool) (w : ℕ) → border m ≡ is_shut (opened m o p w)
border_kept Out o p w = refl
border_kept In o p w = refl
border_kept Last o p w = refl
border_kept Anew o p w = refl

owed_out : (o : Open) (ms : List Mark) (says : Bool) (w : ℕ) (l : List ℕ) → owed o (Out ∷ ms) says (w ∷ l) ≡ ends_well o
owed_out shut ms says w l = refl
owed_out (open_with q) ms says w l = open_out ms says q w l

owed_anew : (o : Open) (ms : List Mark) (says : Bool) (w : ℕ) (l : List ℕ) → owed o (Anew ∷ ms) says (w ∷ l) ≡ true
owed_anew shut ms says w l = refl
owed_anew (open_with q) ms says w l = open_anew ms says q w l

module _ (ms : List Mark) (says : Bool) (p : List ℕ → Bool) (w : ℕ) (l : List ℕ) where
  step : (m : Mark) (o : Open) (fr : Bool) (t : Bool) → fr ≡ is_shut o
      → t ≡ (owed (opened m o p w) ms says l && all_after m ms says p l)
      → (closed m o p w && t) ≡ (owed o (m ∷ ms) says (w ∷ l) && (row fr m ms says p w l && all_after m ms says p l))
  step Out o fr t e h = rw (owed_out o ms says w l, row_out fr ms says p w l, h)
  step In shut fr t e h = rw (e, h)
  step In (open_with q) fr t e h = rw (e, row_in_off ms says p w l, h)
  step Last shut fr t e h = rw (e, row_last ms says p w l, h)
  step Last (open_with q) fr t e h = rw (e, open_last ms says q w l, row_last_off ms says p w l, h)
  step Anew o fr t e h = rw (owed_anew o ms says w l, row_anew fr ms says p w l, h)

pub judged_after : (l : List ℕ) (f : List ℕ → ℕ → Mark) (a : List ℕ → Bool) (p : List ℕ → Bool) (o : Open) (v : Mark)
    → border v ≡ is_shut o
    → judged f a p o l ≡ (owed o (marks_of f l) (a l) l && all_after v (marks_of f l) (a l) p l)
judged_after [] f a p shut v e = or_true (not (a []))
judged_after [] f a p (open_with q) v e = simp and_true
judged_after (w ∷ l) f a p o v e =
    step (marks_of (λ k x. f (w ∷ k) x) l) (a (w ∷ l)) p w l (f [] w) o (border v) _ e
    (judged_after l (λ k x. f (w ∷ k) x) (λ k. a (w ∷ k)) p (opened (f [] w) o p w) (f [] w) (border_kept (f [] w) o p w))

border_first : (ms : List Mark) (i : ℕ) → at_border ms i ≡ (at is_out (Out ∷ ms) i || at is_last (Out ∷ ms) i)
border_first ms zero = refl
border_first ms (suc i) = refl

all_first : (ms : List Mark) (says : Bool) (p : List ℕ → Bool) (ws : List ℕ) → all_accepted ms says p ws ≡ all_after Out ms says p ws
all_first ms says p ws =
    each_ext zero (length ws) _ _ (λ i. each_ext i (length ws) _ _ (λ j.
    ap (λ b. not ((at is_anew ms i || ((at is_in ms i || at is_last ms i) && b)) && unbroken ms i j && ends ms says j) || p (part i j ws)) (border_first ms i)))

-- THE LAW: what is judged word by word is what the judged stretches by their places give
pub judged_is : (f : List ℕ → ℕ → Mark) (a : List ℕ → Bool) (p : List ℕ → Bool) (l : List ℕ) → judged f a p shut l ≡ accepts_over f a p l
judged_is f a p l = judged_after l f a p shut Out refl ∙ sym (all_first (marks_of f l) (a l) p l)

pub each_at : (i n : ℕ) (t : ℕ → Bool) → each i n t ≡ true → (k : ℕ) → i ≤ k → k < n → t k ≡ true
each_at i zero t e k h b = absurd (omega arith)
each_at zero (suc n) t e zero h b = (and_parts _ _ e).0
each_at zero (suc n) t e (suc k) h b = each_at zero n (λ x. t (suc x)) (and_parts _ _ e).1 k zero-le (le_of_suc-le-suc b)
each_at (suc i) (suc n) t e zero h b = absurd (omega arith)
each_at (suc i) (suc n) t e (suc k) h b = each_at i n (λ x. t (suc x)) e k (le_of_suc-le-suc h) (le_of_suc-le-suc b)

pub each_from : (i n : ℕ) (t : ℕ → Bool) → ((k : ℕ) → i ≤ k → k < n → t k ≡ true) → each i n t ≡ true
each_from i zero t h = refl
each_from zero (suc n) t h =
    ap₂ ◌&&◌ (h zero zero-le (suc-le-suc zero-le)) (each_from zero n (λ x. t (suc x)) (λ k a b. h (suc k) zero-le (suc-le-suc b)))
each_from (suc i) (suc n) t h = each_from i n (λ x. t (suc x)) (λ k a b. h (suc k) (suc-le-suc a) (suc-le-suc b))

if_then : (x y : Bool) → (not x || y) ≡ true → x ≡ true → y ≡ true
if_then x y h e = rw e at h

if_from : (x y : Bool) → (x ≡ true → y ≡ true) → (not x || y) ≡ true
if_from true y h = h refl
if_from false y h = refl

-- THE LAYER LAW, both ways
pub layer_law : (f : List ℕ → ℕ → Mark) (a : List ℕ → Bool) (p : List ℕ → Bool) (ws : List ℕ)
    → Decides (accepts_over f a p ws) (EveryStretch f a p ws)
layer_law f a p ws = (
  λ h i j ij jn e. if_then (is_judged (marks_of f ws) (a ws) i j) (p (part i j ws)) (each_at i (length ws) _ (each_at zero (length ws) _ h i zero-le (omega arith)) j ij jn) e,
  λ h. each_from zero (length ws) _ (λ i _ _. each_from i (length ws) _ (λ j ij jn. if_from _ _ (h i j ij jn))),
)

-- the same, as a scope and a pattern that were just started have it
pub started : (f f' : List ℕ → ℕ → Mark) (a a' p p' q : List ℕ → Bool) → f' ≡ f → a' ≡ a → p' ≡ p → (l : List ℕ) → judged_from Outside f' a' p' q l ≡ accepts_over f a p l
started f f' a a' p p' q ef ea ep l = (λ i. judged (ef i) (ea i) (ep i) shut l) ∙ judged_is f a p l
