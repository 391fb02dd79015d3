-- What the counting patterns are set to, and what is still to be counted.
use Rattle.std.specs.Prelude.{◌≡◌, ℕ, ◌+◌, Bool, List}
use Rattle.patterns.specs.declared.form.Form.{Form}
use Rattle.patterns.specs.declared.quota.Quota.{Quota}
use Rattle.patterns.specs.Forms.{suits}
use Rattle.patterns.specs.Places.{counted}
use Rattle.patterns.specs.Steps.{counts}

-- it asks for places of condition c, by this form of t times
abbrev pub Set : Quota → Form → ℕ → ℕ → Type 0
Set q form c t = (q.form ≡ form) × (q.condition.number ≡ c) × (q.times ≡ t)

-- what the pattern of these settings accepts
abbrev pub accepted : Bool → Quota → List ℕ → Bool
accepted rises q = counted rises q.form q.condition.number q.times

-- with the words to come, the places that count are as many as asked; n: how many count so far; before: whether the
-- last word so far has the condition
abbrev pub counted_rest : Bool → Quota → ℕ → Bool → List ℕ → Bool
counted_rest rises q n before l = suits q.form q.times (n + counts rises q.condition.number before l)
