-- The judged stretches of a list of marks, by their first and last places, and what a scope over a pattern accepts.
use Rattle.std.specs.Prelude.{◌≡◌, ℕ, zero, suc, ◌<◌, ◌≤◌, Bool, true, false, not, ◌&&◌, ◌||◌, List, [], ◌∷◌, length, take, drop}
use Rattle.rules.specs.declared.mark.Mark.{Mark}
use Rattle.rules.specs.declared.mark.Mark.TheVariants.{Out, In, Last, Anew}

abbrev pub is_out : Mark → Bool
is_out Out = true
is_out In = false
is_out Last = false
is_out Anew = false

abbrev pub is_in : Mark → Bool
is_in Out = false
is_in In = true
is_in Last = false
is_in Anew = false

abbrev pub is_last : Mark → Bool
is_last Out = false
is_last In = false
is_last Last = true
is_last Anew = false

abbrev pub is_anew : Mark → Bool
is_anew Out = false
is_anew In = false
is_anew Last = false
is_anew Anew = true

-- place k is there, and its mark passes t
abbrev pub at : (Mark → Bool) → List Mark → ℕ → Bool
at t [] k = false
at t (m ∷ ms) zero = t m
at t (m ∷ ms) (suc k) = at t ms k

abbrev pub there : List Mark → ℕ → Bool
there ms k = at (λ m. true) ms k

-- t holds of every k with i ≤ k < n
abbrev pub each : ℕ → ℕ → (ℕ → Bool) → Bool
each i zero t = true
each zero (suc n) t = t zero && each zero n (λ k. t (suc k))
each (suc i) (suc n) t = each i n (λ k. t (suc k))

-- nothing is open at place i: it is the first place, or the mark before it is out or last
abbrev pub at_border : List Mark → ℕ → Bool
at_border ms zero = true
at_border ms (suc i) = at is_out ms i || at is_last ms i

-- a block can begin at place i: by an anew, or by an in or a last where nothing is open
abbrev pub begins : List Mark → ℕ → Bool
begins ms i = at is_anew ms i || ((at is_in ms i || at is_last ms i) && at_border ms i)

-- from i to j there is no out; no last but at j; no anew but at i
abbrev pub unbroken : List Mark → ℕ → ℕ → Bool
unbroken ms i j =
    each i (suc j) (λ k. not (at is_out ms k))
    && each i j (λ k. not (at is_last ms k))
    && each (suc i) (suc j) (λ k. not (at is_anew ms k))

abbrev pub is_block : List Mark → ℕ → ℕ → Bool
is_block ms i j = begins ms i && unbroken ms i j

-- a block that ends at place j is closed, by its own last or by an out after it
abbrev pub is_closed : List Mark → ℕ → Bool
is_closed ms j = at is_last ms j || at is_out ms (suc j)

-- j is the final place, and is not last
abbrev pub is_unclosed : List Mark → ℕ → Bool
is_unclosed ms j = there ms j && not (there ms (suc j)) && not (at is_last ms j)

abbrev pub ends : List Mark → Bool → ℕ → Bool
ends ms says j = is_closed ms j || (is_unclosed ms j && says)

-- the places i to j are a judged stretch, where the scope says yes after the list or not
abbrev pub is_judged : List Mark → Bool → ℕ → ℕ → Bool
is_judged ms says i j = is_block ms i j && ends ms says j

-- what stands at the places i to j
abbrev pub part : ℕ → ℕ → List ℕ → List ℕ
part i j ws = drop i (take (suc j) ws)

-- p accepts each judged stretch on its own
abbrev pub all_accepted : List Mark → Bool → (List ℕ → Bool) → List ℕ → Bool
all_accepted ms says p ws =
    each zero (length ws) (λ i. each i (length ws) (λ j. not (is_judged ms says i j) || p (part i j ws)))

-- the marks of a list of words, f giving the mark of a word after the words before it
abbrev pub marks_of : (List ℕ → ℕ → Mark) → List ℕ → List Mark
marks_of f [] = []
marks_of f (w ∷ l) = f [] w ∷ marks_of (λ k v. f (w ∷ k) v) l

-- what a scope that marks by f and answers by a accepts, over a pattern that accepts by p
abbrev pub accepts_over : (List ℕ → ℕ → Mark) → (List ℕ → Bool) → (List ℕ → Bool) → List ℕ → Bool
accepts_over f a p ws = all_accepted (marks_of f ws) (a ws) p ws

-- the pattern accepts every judged stretch of the list
abbrev pub EveryStretch : (List ℕ → ℕ → Mark) → (List ℕ → Bool) → (List ℕ → Bool) → List ℕ → Type 0
EveryStretch f a p ws =
    (i j : ℕ) → i ≤ j → j < length ws → is_judged (marks_of f ws) (a ws) i j ≡ true → p (part i j ws) ≡ true
