use Rattle.std.proofs.Common.{◌≡◌, drop}
use Rattle.layer.proofs.judging.judge.Given as goal

-- what is left to read decides what the whole list does
abbrev pub invariant-loop-word : goal.invariant-loop-word
invariant-loop-word g l =
    (g.P.Pattern.rest l.pattern (drop l.word-index l.words) ≡ g.P.Pattern.meaning l.initial.pattern l.words)
    × (g.P.Pattern.meaning l.pattern ≡ g.P.Pattern.meaning l.initial.pattern)
