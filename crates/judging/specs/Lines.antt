-- The line that tells an outcome, as the codes of its characters: `yes`, `no` or `refused N`, and byte 10.
use Rattle.std.specs.Prelude.{◌≡◌, ℕ, ◌+◌, ◌/◌, ◌%◌, Bool, true, false, cond, List, [], ◌∷◌, ◌++◌, length, drop, Ok, Err, Result, nat_lt}
use Rattle.judging.specs.declared.fault.JudgeFault.{JudgeFault}
use Rattle.judging.specs.declared.line.LineFault.{LineFault}
use Rattle.judging.specs.declared.line.LineFault.TheVariants.{Room}
use Rattle.judging.specs.Outcomes.{judge_number}

abbrev pub line_number : LineFault → ℕ
line_number Room = 16

-- a number below 100 in base ten
abbrev pub digits : ℕ → List ℕ
digits n = cond (nat_lt n 10) ((48 + n) ∷ []) ((48 + n / 10) ∷ (48 + n % 10) ∷ [])

abbrev pub refused_text : ℕ → List ℕ
refused_text n = 114 ∷ 101 ∷ 102 ∷ 117 ∷ 115 ∷ 101 ∷ 100 ∷ 32 ∷ (digits n ++ 10 ∷ [])

abbrev pub line_of : Result Bool JudgeFault → List ℕ
line_of (Ok true) = 121 ∷ 101 ∷ 115 ∷ 10 ∷ []
line_of (Ok false) = 110 ∷ 111 ∷ 10 ∷ []
line_of (Err fault) = refused_text (judge_number fault)

-- text at the front of a buffer
abbrev pub over : List ℕ → List ℕ → List ℕ
over text old = text ++ drop (length text) old

-- the text is written at the front of a buffer, and n bytes long
abbrev pub Written : List ℕ → ℕ → List ℕ → List ℕ → Type 0
Written text n old new = (n ≡ length text) × (new ≡ over text old)
