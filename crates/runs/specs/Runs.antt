-- The answers to a list of calls.
use Rattle.std.specs.Prelude.{ℕ, Bool, List, [], ◌∷◌}
use Rattle.runs.specs.declared.Call.{Call}
use Rattle.runs.specs.declared.Call.TheVariants.{Feed, Play, NewRecord, Verdict}
use Rattle.runs.specs.declared.Answer.{Answer}
use Rattle.runs.specs.declared.Answer.TheVariants.{Fed, Played, Begun, Judged}
use Rattle.watch.specs.Accepted.{Codes, Samples, words, feeding, playing}

-- what a call answers where the list is accepted so far and the rule accepts as given
abbrev pub answer_to : Codes → ℕ → (List ℕ → Bool) → Samples → Call → Answer
answer_to codes size rule list (Feed sample) = Fed (feeding codes list sample.now).0
answer_to codes size rule list (Play bytes) = Played (playing codes size list bytes.now).0
answer_to codes size rule list NewRecord = Begun
answer_to codes size rule list Verdict = Judged (rule (words codes list))

-- the accepted list after a call
abbrev pub list_after : Codes → ℕ → Samples → Call → Samples
list_after codes size list (Feed sample) = (feeding codes list sample.now).1
list_after codes size list (Play bytes) = (playing codes size list bytes.now).1
list_after codes size list NewRecord = []
list_after codes size list Verdict = list

abbrev pub answers : Codes → ℕ → (List ℕ → Bool) → Samples → List Call → List Answer
answers codes size rule list [] = []
answers codes size rule list (call ∷ calls) = answer_to codes size rule list call ∷ answers codes size rule (list_after codes size list call) calls
