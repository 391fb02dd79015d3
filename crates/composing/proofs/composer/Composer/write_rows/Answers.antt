use Rattle.std.proofs.Common.{◌≡◌, ℕ, ◌+◌, ◌*◌, map, length, sym, ap, ◌∙◌, arith}
use Rattle.std.specs.List.{range_with_len}
use Rattle.std.proofs.lemmas.List.FromFn.{length-map-range_with_len}
use Rattle.table_format.specs.Layout.{states_of, size_of}
use Rattle.table_format.proofs.Laws.{row_within}
use Rattle.composing.specs.declared.place.Place.{Place}
use Rattle.composing.specs.Composed.{place_at, entry_from, entry_byte, row_of}
use Rattle.composing.proofs.Filled.{rows_more}
use Rattle.composing.proofs.composer.Composer.write_rows.Goals as goal

pub loop-number-preserved : goal.loop-number-preserved
loop-number-preserved c =
    let p = c.args.self.now.pattern.bytes.now in
    let s = c.args.self.now.scope.bytes.now in
    let k = c.loop-number.number in
    let w = row_within k (c.args.self.now.failed + 1) c.size-size.result (omega arith) in
    let fit : length c.loop-number.rows ≡ (c.args.self.now.failed + 1) * c.size-size.result = cc in
    let is : c.write_row.new.row ≡ row_of p s k =
    c.write_row.ensures ∙ (ap (λ (x : Place). map (entry_from p s x) (range_with_len 0 (size_of p))) c.place.ensures.value
    ∙ ap (λ (b : ℕ). map (entry_from p s (place_at b (states_of s) k)) (range_with_len 0 (size_of p))) c.args.self.now.blocks) in
    rows_more (row_of p s) k c.size-size.result _ c.loop-number.rows c.write_row.new.row c.loop-number.invariant is
    (ap length is ∙ length-map-range_with_len (entry_byte p s k) 0 (size_of p) ∙ sym c.size-size.ensures.value)
    (omega arith)
