use Rattle.std.proofs.Common.{◌≡◌, true, sym, refl, ap, ◌∙◌, w32, to_z, of_z}
use Rattle.std.proofs.lemmas.Int.{to_z-of_z}
use Rattle.encoders.specs.Event.{event_codes, event_fair}
use Rattle.encoders.specs.Held.{event_term}
use Rattle.encoders.proofs.Plain.{answer_plain, after_plain}
use Rattle.encoders.proofs.moisture.Moisture.add_term.Goals as goal

-- the bounds are passed on as they came
low : (c : goal.After-add) → to_z w32 (of_z w32 c.args.low) ≡ c.args.low
low c = to_z-of_z w32 c.args.low c.ranges.low

high : (c : goal.After-add) → to_z w32 (of_z w32 c.args.high) ≡ c.args.high
high c = to_z-of_z w32 c.args.high c.ranges.high

fair : (c : goal.After-add) → event_fair c.args.low c.args.high ≡ true
fair c = let t = c.in_ok-term.ensures in (λ j. event_fair (sym (low c) j) (sym (high c) j)) ∙ t.0

same : (c : goal.After-add) → event_term c.in_ok-term.term ≡ (c.args.code, c.args.low, c.args.high)
same c =
    let t = c.in_ok-term.ensures in
    let l : c.in_ok-term.term.low.hundredths ≡ c.args.low = t.2 ∙ low c in
    let h : c.in_ok-term.term.high.hundredths ≡ c.args.high = t.3 ∙ high c in
    λ j. (t.1 j, l j, h j)

pub returns : goal.returns
returns c =
    let k = c.in_ok-condition.ensures in
    record {
      result = answer_plain event_term c.args.self.now.conditions c.add.new.self _ _ c.in_ok-term.term _ _ k.1 k.0 (fair c) (same c) c.add.result c.add.ensures;
      after =
          after_plain event_term c.args.self.now.conditions c.add.new.self _ _ c.in_ok-term.term _ _ k.1 k.0 (fair c) (same c) c.add.result _ _ c.add.ensures
          (λ e. (e, ap event_codes e, refl))
          (λ e j. record { conditions = e j });
    }
