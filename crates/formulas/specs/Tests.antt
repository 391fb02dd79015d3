-- The same as tests that compute, each on what is left of a list from a place on.
use Rattle.std.specs.Prelude.{ℕ, Bool, true, false, not, ◌&&◌, ◌||◌, List, [], ◌∷◌}
use Rattle.rules.specs.Words.{has}
use Rattle.formulas.specs.Formulas.{Formula}
use Rattle.formulas.specs.Formulas.Formula.{is, ~◌, ◌&◌, ◌⇒◌, ○◌, □◌, ◇◌, ◌U◌, ◌W◌}

abbrev pub Test : Type 0
Test = List ℕ → Bool

abbrev pub first_has : ℕ → Test
first_has c [] = false
first_has c (w ∷ l) = has c w

abbrev pub next : Test → Test
next t [] = false
next t (w ∷ []) = false
next t (w ∷ v ∷ l) = t (v ∷ l)

abbrev pub throughout : Test → Test
throughout t [] = true
throughout t (w ∷ l) = t (w ∷ l) && throughout t l

abbrev pub somewhere : Test → Test
somewhere t [] = false
somewhere t (w ∷ l) = t (w ∷ l) || somewhere t l

abbrev pub until : Test → Test → Test
until s t [] = false
until s t (w ∷ l) = t (w ∷ l) || (s (w ∷ l) && until s t l)

abbrev pub unless : Test → Test → Test
unless s t [] = true
unless s t (w ∷ l) = t (w ∷ l) || (s (w ∷ l) && unless s t l)

abbrev pub test_of : Formula → Test
test_of (is c) l = first_has c l
test_of (~ f) l = not (test_of f l)
test_of (f & g) l = test_of f l && test_of g l
test_of (f ⇒ g) l = not (test_of f l) || test_of g l
test_of (○ f) l = next (test_of f) l
test_of (□ f) l = throughout (test_of f) l
test_of (◇ f) l = somewhere (test_of f) l
test_of (f U g) l = until (test_of f) (test_of g) l
test_of (f W g) l = unless (test_of f) (test_of g) l
