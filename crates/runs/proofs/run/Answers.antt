use Rattle.std.proofs.Common.{[], ◌∙◌}
use Rattle.std.proofs.lemmas.Result.{IfOk-weaker}
use Rattle.layer.proofs.Places.{layer}
use Rattle.watch.specs.Accepted.{words}
use Rattle.runs.specs.Runs.{answers}
use Rattle.runs.proofs.run.Goals as goal

pub returns : goal.returns
returns g c =
    let made = c.new-watch.ensures in
    record {
      answers = IfOk-weaker c.answer_all.result _ _
          (λ v e. e ∙ (λ i. answers (g.E.Encoder.codes (made.encoder i)) (g.E.Encoder.size (made.encoder i)) (made.rule i) [] c.args.calls.now))
          (c.answer_all.ensures [] made.after);
      verdicts = λ list. layer (g.S.Scope.marks c.args.scope) (g.S.Scope.answers c.args.scope) (g.P.Pattern.meaning c.args.pattern) (words (g.E.Encoder.codes c.args.encoder) list);
    }
