-- What a number names.
use Rattle.std.specs.Prelude.{◌≡◌, ℕ, ◌<◌, Result}
use Rattle.rules.specs.declared.condition.Condition.{Condition}
use Rattle.rules.specs.declared.refusal.SettingRefusal.{SettingRefusal}
use Rattle.rules.specs.Settings.{SetUp}

-- there is a condition of this number
abbrev pub IsCondition : ℕ → Type 0
IsCondition n = n < 16

-- the condition of this number, which is below 16, or else a refusal as out of range
abbrev pub NumbersCondition : ℕ → Result Condition SettingRefusal → Type 0
NumbersCondition n r = SetUp r (IsCondition n) (λ c. c.number ≡ n)
