-- Chains of conditions in a list of words, as tests.
--
-- A chain is a list of conditions. It occurs in a list of words where its conditions hold in turn at places in
-- strictly rising order, so that no place serves two of them.
use Rattle.std.specs.Prelude.{ℕ, Bool, true, false, cond, not, ◌&&◌, ◌||◌, List, [], ◌∷◌, length, nat_le, nat_lt, slice_index}
use Rattle.rules.specs.Words.{has}

-- each is the number of a condition
abbrev pub numbered : List ℕ → Bool
numbered [] = true
numbered (c ∷ l) = nat_lt c 16 && numbered l

-- a chain has one to four conditions
abbrev pub fair : List ℕ → Bool
fair chain = (nat_lt 0 (length chain) && nat_le (length chain) 4) && numbered chain

-- the chain occurs: each condition is looked for after the place of the one before it
abbrev pub occurs : List ℕ → List ℕ → Bool
occurs [] l = true
occurs (p ∷ chain) [] = false
occurs (p ∷ chain) (w ∷ l) = cond (has p w) (occurs chain l) (occurs (p ∷ chain) l)

-- the words up to the first that has c, with it
abbrev pub up_to : ℕ → List ℕ → List ℕ
up_to c [] = []
up_to c (w ∷ l) = w ∷ cond (has c w) [] (up_to c l)

-- where the second chain occurs, the first is complete by the first place that has the second's first condition,
-- that place included
abbrev pub precedes : List ℕ → List ℕ → List ℕ → Bool
precedes first second l = not (occurs second l) || occurs first (up_to (slice_index second 0) l)

-- if the chain can be completed in the list, then the response occurs from the earliest place completing it on
abbrev pub due : List ℕ → List ℕ → List ℕ → Bool
due [] response l = true
due (p ∷ chain) response [] = true
due (p ∷ []) response (w ∷ l) = cond (has p w) (occurs response (w ∷ l)) (due (p ∷ []) response l)
due (p ∷ q ∷ chain) response (w ∷ l) = cond (has p w) (due (q ∷ chain) response l) (due (p ∷ q ∷ chain) response l)

-- the word has the chain's first condition
abbrev pub begins : List ℕ → ℕ → Bool
begins [] w = false
begins (p ∷ chain) w = has p w

-- the response is due from each place that has the first condition of the stimulus
abbrev pub responds : List ℕ → List ℕ → List ℕ → Bool
responds stimulus response [] = true
responds stimulus response (w ∷ l) = (not (begins stimulus w) || due stimulus response (w ∷ l)) && responds stimulus response l
