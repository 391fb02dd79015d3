use Rattle.std.proofs.Common.{◌≡◌, ◌++◌, drop, vec_items}
use Rattle.watch.specs.Accepted.{Samples}
use Rattle.watch.specs.After.{After, OfEach, Keeps}
use Rattle.runs.specs.Runs.{answers}
use Rattle.runs.proofs.answer_all.Given as goal

-- from every list at which the watch stood, the calls so far lead to one at which it stands, and the answers given are
-- followed by those to the calls that are left
abbrev pub invariant-loop-call : goal.invariant-loop-call
invariant-loop-call g l =
    Keeps g.R.Pattern l.initial.watch l.watch
    × OfEach g.E.Encoder g.R.Pattern l.initial.watch (λ list.
    (cur : Samples) × After g.E.Encoder g.R.Pattern l.watch cur
    × (vec_items l.given ++ answers (g.E.Encoder.codes l.initial.watch.encoder) (g.E.Encoder.size l.initial.watch.encoder) (g.R.Pattern.meaning l.initial.watch.rule) cur (drop l.call-index l.calls)
    ≡ answers (g.E.Encoder.codes l.initial.watch.encoder) (g.E.Encoder.size l.initial.watch.encoder) (g.R.Pattern.meaning l.initial.watch.rule) list l.calls))
