-- Batches: a word with condition 0 begins a batch, whatever came before, and a word with condition 1 and not 0
-- ends the batch that runs, if one does.
use Rattle.std.specs.Prelude.{ℕ, Bool, false, cond, not, ◌&&◌, ◌||◌, List, [], ◌∷◌}
use Rattle.rules.specs.declared.mark.Mark.{Mark}
use Rattle.rules.specs.declared.mark.Mark.TheVariants.{Out, In, Last, Anew}
use Rattle.rules.specs.Words.{has}

-- a batch runs after the word w, where one runs before it or not
abbrev pub runs_on : Bool → ℕ → Bool
runs_on b w = has 0 w || (b && not (has 1 w))

-- a batch runs after the list, where one runs before it or not
abbrev pub runs_after : Bool → List ℕ → Bool
runs_after b [] = b
runs_after b (w ∷ l) = runs_after (runs_on b w) l

abbrev pub mark_when : Bool → ℕ → Mark
mark_when b w = cond (has 0 w) Anew (cond b (cond (has 1 w) Last In) Out)

-- the mark of a word after the words before it
abbrev pub batch_mark : List ℕ → ℕ → Mark
batch_mark l = mark_when (runs_after false l)

-- a batch that the list leaves running counts
abbrev pub batch_says : List ℕ → Bool
batch_says = runs_after false
