-- Which words count, word by word.
use Rattle.std.specs.Prelude.{ℕ, ◌+◌, Bool, if◌then◌else◌, not, ◌&&◌, List, [], ◌∷◌}
use Rattle.rules.specs.Words.{has}

-- how many words of a list have c; of rises, only those whose word before has it not, the word before the list too
abbrev pub counts : Bool → ℕ → Bool → List ℕ → ℕ
counts rises c before [] = 0
counts rises c before (w ∷ l) =
    (if has c w && not (rises && before) then 1 else 0) + counts rises c (has c w) l
