use Rattle.std.proofs.Common.{◌≡◌, [], ap, ◌∙◌}
use Rattle.watch.specs.Accepted.{words, playing}
use Rattle.layer.specs.Blocks.{accepts_over}
use Rattle.table_format.specs.Layout.{width_of}
use Rattle.encoders.specs.Letter.{letter_codes}
use Rattle.encoders.specs.contracts.letters.coding.LettersEncoder.TheImpl.{ghosts}
use Rattle.judging.proofs.Judged.{judged}
use Rattle.judging.proofs.judge.judge_record.Goals as goal

pub returns : goal.returns
returns c =
    let loaded = rw c.unwrap.ensures at c.load.ensures.holds in
    let set = rw c.unwrap-2.ensures at c.set_width.ensures.after in
    let made = c.new-watch.ensures in
    let ec : ghosts.codes c.new-watch.result.encoder ≡ letter_codes (width_of c.args.table.now) =
    ap ghosts.codes made.encoder ∙ (set.1 ∙ ap letter_codes (c.width.ensures ∙ ap width_of loaded.0)) in
    let es : ghosts.size c.new-watch.result.encoder ≡ 1 = ap ghosts.size made.encoder ∙ set.2 in
    let played = c.in_ok-play.ensures in
    let list = (playing (ghosts.codes c.new-watch.result.encoder) (ghosts.size c.new-watch.result.encoder) [] c.args.record.now).1 in
    let said = c.verdict.ensures list (played.after [] made.after) in
    judged c.args.table.now c.args.record.now _ _ ec es _ c.in_ok-play.field-0 c.verdict.result
    (made.rule ∙ (λ i. accepts_over (c.new.ensures.0.0 i) (c.new.ensures.0.1 i) (loaded.1.0 i)))
    (played.answer [] made.after)
    (said ∙ (λ i. played.kept.1 i (words (ghosts.codes (played.kept.0 i)) list)))
