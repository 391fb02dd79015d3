-- What each pattern accepts, by the places of the list, which count from 0.
use Rattle.std.specs.Prelude.{ℕ, zero, suc, ◌+◌, Bool, true, false, if◌then◌else◌, not, ◌&&◌, List, length, slice_index}
use Rattle.std.specs.List.{list_all}
use Rattle.rules.specs.Words.{has}
use Rattle.patterns.specs.declared.form.Form.{Form}
use Rattle.patterns.specs.Forms.{suits}

-- every word has c
abbrev pub always : ℕ → List ℕ → Bool
always c = list_all (has c)

-- no word has c
abbrev pub never : ℕ → List ℕ → Bool
never c = list_all (λ w. not (has c w))

-- every word has c, or else none
abbrev pub throughout : Bool → ℕ → List ℕ → Bool
throughout true = always
throughout false = never

-- how many places below n pass the test: place 0, and those after it
abbrev pub how_many : (ℕ → Bool) → ℕ → ℕ
how_many test zero = 0
how_many test (suc n) = (if test 0 then 1 else 0) + how_many (λ k. test (suc k)) n

-- place k has c
abbrev pub stands : ℕ → List ℕ → ℕ → Bool
stands c l k = has c (slice_index l k)

-- place k has c, and is place 0 or follows a word without c
abbrev pub comes_up : ℕ → List ℕ → ℕ → Bool
comes_up c l zero = stands c l 0
comes_up c l (suc k) = stands c l (suc k) && not (stands c l k)

-- the places where c comes up are as many as the form asks of t
abbrev pub eventually : Form → ℕ → ℕ → List ℕ → Bool
eventually form c t l = suits form t (how_many (comes_up c l) (length l))

-- the places that have c are as many as the form asks of t
abbrev pub precisely : Form → ℕ → ℕ → List ℕ → Bool
precisely form c t l = suits form t (how_many (stands c l) (length l))

-- place k counts: c comes up there, or else it has c
abbrev pub counts_at : Bool → ℕ → List ℕ → ℕ → Bool
counts_at true = comes_up
counts_at false = stands

-- the places that count are as many as the form asks of t
abbrev pub counted : Bool → Form → ℕ → ℕ → List ℕ → Bool
counted rises form c t l = suits form t (how_many (counts_at rises c l) (length l))
