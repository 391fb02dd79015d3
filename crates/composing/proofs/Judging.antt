-- Runs through the places of a composed table judge as the scope table over the pattern table does, word by word.
use Rattle.std.proofs.Common.{◌≡◌, ℕ, ◌%◌, Bool, true, false, cond, not, ◌&&◌, ◌||◌, List, [], ◌∷◌, Some, None, Option, refl, ap, ◌∙◌}
use Rattle.rules.specs.declared.mark.Mark.{Mark}
use Rattle.rules.specs.declared.mark.Mark.TheVariants.{Out, In, Last, Anew}
use Rattle.table_format.specs.declared.kind.Kind.TheVariants.{Pattern, Scope}
use Rattle.table_format.specs.Layout.{target, size_of, flag_of, entry_of}
use Rattle.tables.specs.Runs.{mark_of, letter_of, state_next, accepts_from, marks_from, says_from, accepts}
use Rattle.layer.specs.Stretches.{Open, shut, open_with, closed, opened, judged}
use Rattle.composing.specs.declared.place.Place.{Place}
use Rattle.composing.specs.declared.place.Place.TheVariants.{Failed, Outside, Inside}
use Rattle.composing.specs.Composed.{place_flag, lands}
use Rattle.composing.proofs.Lawful.{place_after}

module _ (p s : List ℕ) (same : size_of p ≡ size_of s) where
  -- the place with scope state i and, where a stretch is open, its pattern state
  abbrev standing : ℕ → Option ℕ → Place
  standing i None = Outside i
  standing i (Some q) = Inside i q

  abbrev open_of : Option ℕ → Open
  open_of None = shut
  open_of (Some q) = open_with (accepts_from p q)

  failed_stays : (l : List ℕ) → place_flag p s (place_after p s Failed l) ≡ false
  failed_stays [] = refl
  failed_stays (w ∷ l) = failed_stays l

  -- the words l are judged alike from state i of the scope
  abbrev Alike : List ℕ → ℕ → Option ℕ → Type 0
  Alike l i o = place_flag p s (place_after p s (standing i o) l) ≡ judged (marks_from s i) (says_from s i) (accepts p) (open_of o) l

  shut_end : (b : Bool) → true ≡ (not b || true)
  shut_end true = refl
  shut_end false = refl

  open_end : (b v : Bool) → cond b v true ≡ (not b || v)
  open_end true v = refl
  open_end false v = refl

  -- a stretch that closes: it is accepted, or the place is failed
  closes : (l : List ℕ) (i : ℕ) (b : Bool) → Alike l i None → place_flag p s (place_after p s (cond b (Outside i) Failed) l) ≡ (b && judged (marks_from s i) (says_from s i) (accepts p) shut l)
  closes l i true h = h
  closes l i false h = failed_stays l

  -- a word w with mark m, after which the scope stands in state i
  word_shut : (w : ℕ) (l : List ℕ) (m : Mark) (i : ℕ) → ((o : Option ℕ) → Alike l i o)
      → place_flag p s (place_after p s (lands p m i true (state_next Pattern p 0 w) (state_next Pattern p 0 w)) l)
      ≡ (closed m shut (accepts p) w && judged (marks_from s i) (says_from s i) (accepts p) (opened m shut (accepts p) w) l)
  word_shut w l Out i h = h None
  word_shut w l In i h = h (Some (state_next Pattern p 0 w))
  word_shut w l Last i h = closes l i (flag_of p (state_next Pattern p 0 w)) (h None)
  word_shut w l Anew i h = h (Some (state_next Pattern p 0 w))

  word_open : (q w : ℕ) (l : List ℕ) (m : Mark) (i : ℕ) → ((o : Option ℕ) → Alike l i o)
      → place_flag p s (place_after p s (lands p m i (flag_of p q) (state_next Pattern p q w) (state_next Pattern p 0 w)) l)
      ≡ (closed m (open_with (accepts_from p q)) (accepts p) w && judged (marks_from s i) (says_from s i) (accepts p) (opened m (open_with (accepts_from p q)) (accepts p) w) l)
  word_open q w l Out i h = closes l i (flag_of p q) (h None)
  word_open q w l In i h = h (Some (state_next Pattern p q w))
  word_open q w l Last i h = closes l i (flag_of p (state_next Pattern p q w)) (h None)
  word_open q w l Anew i h = h (Some (state_next Pattern p 0 w))

  -- the two tables have one letter for a word
  letter_same : (w : ℕ) → w % size_of p ≡ letter_of s w
  letter_same w = ap (λ (z : ℕ). w % z) same

  -- where a word leads, with the letter a for the pattern and b for the scope
  abbrev leads_by : ℕ → ℕ → ℕ → Option ℕ → Place
  leads_by a b i None = lands p (mark_of (entry_of s i b)) (target Scope (entry_of s i b)) true (entry_of p 0 a) (entry_of p 0 a)
  leads_by a b i (Some q) = lands p (mark_of (entry_of s i b)) (target Scope (entry_of s i b)) (flag_of p q) (entry_of p q a) (entry_of p 0 a)

  pub alike : (l : List ℕ) (i : ℕ) (o : Option ℕ) → Alike l i o
  alike [] i None = shut_end (flag_of s i)
  alike [] i (Some q) = open_end (flag_of s i) (flag_of p q)
  alike (w ∷ l) i None =
      ap (λ (b : ℕ). place_flag p s (place_after p s (leads_by (w % size_of p) b i None) l)) (letter_same w)
      ∙ word_shut w l (mark_of (entry_of s i (letter_of s w))) (state_next Scope s i w) (λ o. alike l (state_next Scope s i w) o)
  alike (w ∷ l) i (Some q) =
      ap (λ (b : ℕ). place_flag p s (place_after p s (leads_by (w % size_of p) b i (Some q)) l)) (letter_same w)
      ∙ word_open q w l (mark_of (entry_of s i (letter_of s w))) (state_next Scope s i w) (λ o. alike l (state_next Scope s i w) o)
