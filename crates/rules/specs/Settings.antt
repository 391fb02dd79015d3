-- What constructors and setters promise.
use Rattle.std.specs.Prelude.{◌≡◌, ℕ, Bool, List, Result, MatchResult}
use Rattle.rules.specs.declared.mark.Mark.{Mark}
use Rattle.rules.specs.declared.pattern.Pattern.{Ghosts as PatternGhosts}
use Rattle.rules.specs.declared.refusal.SettingRefusal.{SettingRefusal}
use Rattle.rules.specs.declared.refusal.SettingRefusal.TheVariants.{Range}
use Rattle.rules.specs.declared.scope.Scope.{Ghosts as ScopeGhosts}

-- what is set up in one call is as its settings say where they are in range, and else they are refused as out of range
abbrev pub SetUp : {K : Type 0} → Result K SettingRefusal → Type 0 → (K → Type 0) → Type 0
SetUp result in_range as_said = MatchResult result (λ x. in_range × as_said x) (λ e. (in_range → ⊥) × (e ≡ Range))

-- a setter takes its numbers exactly where they fit, and then P holds; else it refuses them by Range, and the value
-- is as it was
abbrev pub TakesIfFits : {T S : Type 0} → Result T SettingRefusal → Type 0 → S → S → Type 0 → Type 0
TakesIfFits result fits old new P = MatchResult result (λ _. fits × P) (λ e. (fits → ⊥) × (e ≡ Range) × (new ≡ old))

-- a pattern has this meaning, and stands at the empty list
abbrev pub IsFreshPattern : {P : Type 0} → PatternGhosts P → P → (List ℕ → Bool) → Type 0
IsFreshPattern ghosts p meaning = (ghosts.meaning p ≡ meaning) × (ghosts.rest p ≡ meaning)

-- a scope gives these marks and answers, and stands at the empty list
abbrev pub MarksAfresh : {S : Type 0} → ScopeGhosts S → S → (List ℕ → ℕ → Mark) → (List ℕ → Bool) → Type 0
MarksAfresh ghosts s marks answers =
    ((ghosts.marks s ≡ marks) × (ghosts.answers s ≡ answers))
    × ((ghosts.rest_marks s ≡ marks) × (ghosts.rest_answers s ≡ answers))

-- the same of a scope with one answer, after any list
abbrev pub IsFreshScope : {S : Type 0} → ScopeGhosts S → S → (List ℕ → ℕ → Mark) → Bool → Type 0
IsFreshScope ghosts s marks answer = MarksAfresh ghosts s marks (λ l. answer)
