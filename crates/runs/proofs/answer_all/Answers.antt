use Rattle.std.proofs.Common.{ap, ◌∙◌, arith}
use Rattle.runs.proofs.Running.{answered}
use Rattle.runs.proofs.answer_all.Goals as goal

pub loop-call-preserved : goal.loop-call-preserved
loop-call-preserved g c =
    let said = c.answer_one.ensures in
    let enc = c.loop-call.invariant.0.0 in (
      (said.kept.0 ∙ enc, said.kept.1 ∙ c.loop-call.invariant.0.1),
      λ list st.
          let h = c.loop-call.invariant.1 list st in (
            _,
            said.after h.0 h.1,
            answered _ _ _ _ _ _ h.0 c.args.calls.now c.loop-call.call-index _ c.answer_one.result _ _ _
                (ap g.E.Encoder.codes enc) (ap g.E.Encoder.size enc) c.loop-call.invariant.0.1 (omega arith) (said.answer h.0 h.1) c.in_ok-push.ensures.items h.2,
          ),
    )
