-- When a condition holds, and the word of conditions.
use Rattle.std.specs.Prelude.{ℕ, ◌+◌, ◌*◌, Bool, cond, List, [], ◌∷◌, ◌++◌, map, length, replicate, Some, None, Option, nat_le, nat_lt, slice_index_or, slice_set}
use Rattle.std.specs.List.{list_any}
use Rattle.rules.specs.declared.refusal.SettingRefusal.{SettingRefusal}
use Rattle.rules.specs.declared.refusal.SettingRefusal.TheVariants.{Range, Term, Full}

-- the number whose bits these are, the lowest first
abbrev pub number : List Bool → ℕ
number [] = 0
number (b ∷ bs) = cond b 1 0 + 2 * number bs

-- the word of a sample, where each condition has its list of terms and `fits` says which of them fit: bit i is condition i
abbrev pub word : {A : Type 0} → (A → Bool) → List (List A) → ℕ
word fits lists = number (map (list_any fits) lists)

-- there is room for no more: a condition has at most eight terms
abbrev pub full : {A : Type 0} → List A → Bool
full ts = nat_le 8 (length ts)

-- 16 conditions, with no term
abbrev pub no_terms : {A : Type 0} → List (List A)
no_terms = replicate 16 []

-- one more term for condition i, after those that it has
abbrev pub with_term : {A : Type 0} → ℕ → A → List (List A) → List (List A)
with_term i t lists = slice_set lists i (slice_index_or lists i [] ++ t ∷ [])

-- why no term is added to condition i: there is no such condition, the term's values are not fair, or the condition is full, asked in this order
abbrev pub term_refused : {A : Type 0} → Bool → ℕ → List (List A) → Option SettingRefusal
term_refused fair i lists =
    cond (nat_lt i 16) (cond fair (cond (full (slice_index_or lists i [])) (Some Full) None) (Some Term)) (Some Range)
