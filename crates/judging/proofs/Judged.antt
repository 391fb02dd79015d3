-- From what the watch answers to what the record is judged.
use Rattle.std.proofs.Common.{◌≡◌, ℕ, ◌-◌, Bool, false, List, [], ◌++◌, length, take, drop, is_some, Some, None, Ok, Option, Result, sym, refl, ap, ◌∙◌, arith}
use Rattle.std.proofs.lemmas.List.{take_at}
use Rattle.std.proofs.lemmas.Bool.{false≢true}
use Rattle.watch.specs.Accepted.{Codes, words, playing}
use Rattle.table_format.specs.Layout.{width_of}
use Rattle.encoders.specs.Letter.{letter_codes}
use Rattle.framing.specs.declared.InputFault.{InputFault}
use Rattle.framing.specs.Framed.{framed}
use Rattle.composing.specs.Composed.{composed}
use Rattle.composing.specs.Composing.{composing}
use Rattle.table_format.specs.declared.fault.TableFault.{TableFault}
use Rattle.judging.specs.Outcomes.{globally, after, record_judged, of_record, of_tables, of_input, input_judged}

module _ (t bytes : List ℕ) (codes : Codes) (size : ℕ) (ec : codes ≡ letter_codes (width_of t)) (es : size ≡ 1) where
  same_play : playing codes size [] bytes ≡ playing (letter_codes (width_of t)) 1 [] bytes
  same_play = λ i. playing (ec i) (es i) [] bytes

  pub judged : (rule : List ℕ → Bool) (n : ℕ) (v : Bool) → rule ≡ globally t → Ok n ≡ (playing codes size [] bytes).0 → v ≡ rule (words codes (playing codes size [] bytes).1) → Ok v ≡ record_judged t bytes
  judged rule n v er e ev =
      let p = playing (letter_codes (width_of t)) 1 [] bytes in
      let z : p.0 ≡ Ok n = sym (e ∙ ap (λ x. x.0) same_play) in
      let w : v ≡ globally t (words (letter_codes (width_of t)) p.1) = ev ∙ (λ i. er i (words (ec i) (same_play i).1)) in
      ap (λ (b : Bool). Ok b) w ∙ sym (ap (after t p.1) z)

-- the composed table at the front of the scratch
pub front : (n : ℕ) (new old all : List ℕ) → all ≡ new ++ drop n old → n ≡ length new → take (n - 0) all ≡ new
front n new old all e h =
    let z : n - 0 ≡ n = omega arith in
    let len : length new ≡ n = sym h in
    rw (e, z) (take_at new (drop n old) n len)

pub unchecked : (r : Option TableFault) → is_some r ≡ false → r ≡ None
unchecked None e = refl
unchecked (Some f) e = absurd (false≢true (sym e))

module _ (input : List ℕ) (room : ℕ) (p s bytes : List ℕ) (n : ℕ) (ei : Ok (p, s, bytes) ≡ framed input) (ec : Ok n ≡ composing p s room) where
  pub whole : (t : List ℕ) → t ≡ composed p s → input_judged input room ≡ of_record (record_judged t bytes)
  whole t et =
      ap (λ (r : Result (List ℕ × List ℕ × List ℕ) InputFault). of_input r room) (sym ei)
      ∙ (ap (of_tables (composed p s) bytes) (sym ec) ∙ ap (λ (t : List ℕ). of_record (record_judged t bytes)) (sym et))
