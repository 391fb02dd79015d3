-- The tests of places decide the facts.
use Rattle.std.proofs.Common.{◌≡◌, ℕ, zero, suc, ◌<◌, ◌≤◌, Bool, true, false, not, ◌⊎◌, List, [], ◌∷◌, length, Decides, refl, ap, suc-le-suc, zero-le, le_of_suc-le-suc, arith}
use Rattle.std.proofs.lemmas.Bool.{false≢true}
use Rattle.std.proofs.lemmas.Bool.Decides.{Decides-and, Decides-or, Decides-not, Decides-like}
use Rattle.rules.specs.declared.mark.Mark.{Mark}
use Rattle.rules.specs.declared.mark.Mark.TheVariants.{Out, In, Last, Anew}
use Rattle.layer.specs.Blocks.{at, there, each, is_out, is_in, is_last, is_anew, begins, at_border, is_block, is_unclosed, ends, is_judged, marks_of, accepts_over}
use Rattle.layer.specs.Judged.{Place, Border, Block, Closed, Unclosed, Judged, AcceptsEach}
use Rattle.layer.proofs.Laws.{each_at, each_from, layer_law}

never : {A : Type 0} → false ≡ true → A
never e = absurd (false≢true e)

out_is : (m : Mark) → Decides (is_out m) (m ≡ Out)
out_is Out = (λ e. refl, λ e. refl)
out_is In = (λ e. never e, λ e. ap is_out e)
out_is Last = (λ e. never e, λ e. ap is_out e)
out_is Anew = (λ e. never e, λ e. ap is_out e)

in_is : (m : Mark) → Decides (is_in m) (m ≡ In)
in_is Out = (λ e. never e, λ e. ap is_in e)
in_is In = (λ e. refl, λ e. refl)
in_is Last = (λ e. never e, λ e. ap is_in e)
in_is Anew = (λ e. never e, λ e. ap is_in e)

last_is : (m : Mark) → Decides (is_last m) (m ≡ Last)
last_is Out = (λ e. never e, λ e. ap is_last e)
last_is In = (λ e. never e, λ e. ap is_last e)
last_is Last = (λ e. refl, λ e. refl)
last_is Anew = (λ e. never e, λ e. ap is_last e)

anew_is : (m : Mark) → Decides (is_anew m) (m ≡ Anew)
anew_is Out = (λ e. never e, λ e. ap is_anew e)
anew_is In = (λ e. never e, λ e. ap is_anew e)
anew_is Last = (λ e. never e, λ e. ap is_anew e)
anew_is Anew = (λ e. refl, λ e. refl)

place_is : (t : Mark → Bool) (m : Mark) → ((x : Mark) → Decides (t x) (x ≡ m)) → (ms : List Mark) (k : ℕ) → Decides (at t ms k) (Place ms k m)
place_is t m d [] k = (λ e. never e, λ h. absurd (omega arith))
place_is t m d (x ∷ ms) zero = (λ e. (suc-le-suc zero-le, (d x).0 e), λ h. (d x).1 h.1)
place_is t m d (x ∷ ms) (suc k) =
    (λ e. let h = (place_is t m d ms k).0 e in (suc-le-suc h.0, h.1), λ h. (place_is t m d ms k).1 (le_of_suc-le-suc h.0, h.1))

there_is : (ms : List Mark) (k : ℕ) → Decides (there ms k) (k < length ms)
there_is [] k = (λ e. never e, λ h. absurd (omega arith))
there_is (x ∷ ms) zero = (λ e. suc-le-suc zero-le, λ h. refl)
there_is (x ∷ ms) (suc k) = (λ e. suc-le-suc ((there_is ms k).0 e), λ h. (there_is ms k).1 (le_of_suc-le-suc h))

border_is : (ms : List Mark) (i : ℕ) → Decides (at_border ms i) (Border ms i)
border_is ms zero = (λ e. tt, λ h. refl)
border_is ms (suc i) = Decides-or _ _ (place_is is_out Out out_is ms i) (place_is is_last Last last_is ms i)

begins_is : (ms : List Mark) (i : ℕ) → Decides (begins ms i) (Place ms i Anew ⊎ ((Place ms i In ⊎ Place ms i Last) × Border ms i))
begins_is ms i =
    Decides-or _ _ (place_is is_anew Anew anew_is ms i)
    (Decides-and _ _ (Decides-or _ _ (place_is is_in In in_is ms i) (place_is is_last Last last_is ms i)) (border_is ms i))

-- none of the places from i to below n has mark m
none_is : (t : Mark → Bool) (m : Mark) → ((x : Mark) → Decides (t x) (x ≡ m)) → (ms : List Mark) (i n : ℕ)
    → Decides (each i n (λ k. not (at t ms k))) ((k : ℕ) → i ≤ k → k < n → Place ms k m → ⊥)
none_is t m d ms i n = (
  λ e k a b. (Decides-not _ (place_is t m d ms k)).0 (each_at i n (λ x. not (at t ms x)) e k a b),
  λ h. each_from i n (λ x. not (at t ms x)) (λ k a b. (Decides-not _ (place_is t m d ms k)).1 (h k a b)),
)

unclosed_is : (ms : List Mark) (j : ℕ) → Decides (is_unclosed ms j) (Unclosed ms j)
unclosed_is ms j =
    Decides-and _ _
    (Decides-like _ (λ h. omega arith) (λ e. (omega arith, λ h. omega arith)) (Decides-and _ _ (there_is ms j) (Decides-not _ (there_is ms (suc j)))))
    (Decides-not _ (place_is is_last Last last_is ms j))

says_is : (b : Bool) → Decides b (b ≡ true)
says_is b = (λ e. e, λ e. e)

ends_is : (ms : List Mark) (says : Bool) (j : ℕ) → Decides (ends ms says j) (Closed ms j ⊎ (Unclosed ms j × (says ≡ true)))
ends_is ms says j =
    Decides-or _ _ (Decides-or _ _ (place_is is_last Last last_is ms j) (place_is is_out Out out_is ms (suc j)))
    (Decides-and _ _ (unclosed_is ms j) (says_is says))

block_is : (ms : List Mark) (i j : ℕ) → i ≤ j → j < length ms → Decides (is_block ms i j) (Block ms i j)
block_is ms i j ij jn =
    Decides-like _
    (λ h. record { ordered = ij; within = jn; begun = h.0; no_out = λ k a b. h.1.0.0 k a (suc-le-suc b); no_last = h.1.0.1; no_anew = λ k a b. h.1.1 k a (suc-le-suc b) })
    (λ b. (b.begun, ((λ k x y. b.no_out k x (le_of_suc-le-suc y), b.no_last), λ k x y. b.no_anew k x (le_of_suc-le-suc y))))
    (Decides-and _ _ (begins_is ms i)
    (Decides-and _ _ (Decides-and _ _ (none_is is_out Out out_is ms i (suc j)) (none_is is_last Last last_is ms i j)) (none_is is_anew Anew anew_is ms (suc i) (suc j))))

judged_is_fact : (ms : List Mark) (says : Bool) (i j : ℕ) → i ≤ j → j < length ms → Decides (is_judged ms says i j) (Judged ms says i j)
judged_is_fact ms says i j ij jn = Decides-and _ _ (block_is ms i j ij jn) (ends_is ms says j)

length_marks : (f : List ℕ → ℕ → Mark) (ws : List ℕ) → length (marks_of f ws) ≡ length ws
length_marks f [] = refl
length_marks f (w ∷ l) = ap suc (length_marks (λ k v. f (w ∷ k) v) l)

-- THE LAYER LAW: the scope over the pattern accepts the list exactly when the pattern accepts each judged stretch on its own
pub layer : (f : List ℕ → ℕ → Mark) (a : List ℕ → Bool) (p : List ℕ → Bool) (ws : List ℕ) → Decides (accepts_over f a p ws) (AcceptsEach f a p ws)
layer f a p ws =
    Decides-like _
    (λ h i j b. h i j b.0.ordered (rw (length_marks f ws) at b.0.within) ((judged_is_fact (marks_of f ws) (a ws) i j b.0.ordered b.0.within).1 b))
    (λ h i j ij jn e. let k : j < length (marks_of f ws) = rw (length_marks f ws) jn in h i j ((judged_is_fact (marks_of f ws) (a ws) i j ij k).0 e))
    (layer_law f a p ws)

pub decided : (r : Bool) (f : List ℕ → ℕ → Mark) (a : List ℕ → Bool) (p : List ℕ → Bool) (ws : List ℕ) → r ≡ accepts_over f a p ws → Decides r (AcceptsEach f a p ws)
decided r f a p ws e = rw e (layer f a p ws)
