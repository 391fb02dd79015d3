use Rattle.std.proofs.Common.{ℕ, Bool, List, ap, ◌∙◌}
use Rattle.layer.proofs.Places.{decided}
use Rattle.layer.proofs.judging.judge_stretches.Goals as goal

pub returns : goal.returns
returns g c =
    decided c.judge.result (g.S.Scope.marks c.args.scope) (g.S.Scope.answers c.args.scope) (g.P.Pattern.meaning c.args.below) c.args.words.now
    (c.judge.ensures.value ∙ ap (λ (m : List ℕ → Bool). m c.args.words.now) c.new-layer.ensures.meaning)
