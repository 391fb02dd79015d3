-- What is still asked of the words to come, where parts of chains have been met by the words before them.
use Rattle.std.specs.Prelude.{ℕ, ◌+◌, Bool, true, false, cond, not, ◌&&◌, ◌||◌, List, [], ◌∷◌, drop, ◌==◌, slice_index}
use Rattle.rules.specs.Words.{has}
use Rattle.chains.specs.Chains.{occurs, up_to, due, begins, responds}

-- how many conditions of the chain are met after the word w, where k were before it
abbrev pub next_met : List ℕ → ℕ → ℕ → ℕ
next_met chain k w = cond (begins (drop k chain) w) (k + 1) k

-- the words that may still count for the first chain: none once the second has begun
abbrev pub front : Bool → ℕ → List ℕ → List ℕ
front true c l = up_to c l
front false c l = []

-- what `precedes` asks where i conditions of the first chain and j of the second are met
abbrev pub precedes_on : List ℕ → List ℕ → ℕ → ℕ → List ℕ → Bool
precedes_on first second i j l = not (occurs (drop j second) l) || occurs (drop i first) (front (j == 0) (slice_index second 0) l)

-- the response is due of each opening under way: the places of `under` tell whether the chain, and the chain
-- without its first condition, and so on, is still to come for one
abbrev pub all_due : List Bool → List ℕ → List ℕ → List ℕ → Bool
all_due [] chain response l = true
all_due (u ∷ under) chain response l = (not u || due chain response l) && all_due under (drop 1 chain) response l

-- the openings under way after the word w, where `came` says whether one comes to the first place of `under`
abbrev pub moved : Bool → List Bool → List ℕ → ℕ → List Bool
moved came [] chain w = []
moved came (u ∷ under) chain w = (came || (u && not (begins chain w))) ∷ moved (u && begins chain w) under (drop 1 chain) w

-- the word w completes the chain for an opening
abbrev pub done : Bool → List Bool → List ℕ → ℕ → Bool
done came [] chain w = came
done came (u ∷ under) [] w = came
done came (u ∷ under) (p ∷ chain) w = done (u && has p w) under chain w

-- the openings under way after the word w, which may make one, and whether one is completed by it; `under` has
-- the openings by the conditions that they have met, from one on
abbrev pub opened : List ℕ → List Bool → ℕ → List Bool
opened stimulus under w = moved (begins stimulus w) under (drop 1 stimulus) w

abbrev pub completes : List ℕ → List Bool → ℕ → Bool
completes stimulus under w = done (begins stimulus w) under (drop 1 stimulus) w

-- what `responds` asks where j conditions of the response are met since the stimulus was last completed
abbrev pub responds_on : List ℕ → List ℕ → List Bool → ℕ → List ℕ → Bool
responds_on stimulus response under j l = all_due under (drop 1 stimulus) response l && (occurs (drop j response) l && responds stimulus response l)
