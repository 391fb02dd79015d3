-- What an input is judged to be.
use Rattle.std.specs.Prelude.{ℕ, Bool, true, List, [], Ok, Err, Result}
use Rattle.framing.specs.declared.InputFault.{InputFault}
use Rattle.framing.specs.Framed.{fault_number, framed}
use Rattle.composing.specs.declared.fault.ComposeFault.{ComposeFault}
use Rattle.composing.specs.Composed.{composed}
use Rattle.composing.specs.Composing.{compose_number, composing, afterwards}
use Rattle.watch.specs.declared.fault.PlayFault.{PlayFault}
use Rattle.watch.specs.Accepted.{Samples, words, playing}
use Rattle.watch.specs.Faults.{play_number}
use Rattle.rules.specs.declared.mark.Mark.TheVariants.{In}
use Rattle.layer.specs.Blocks.{accepts_over}
use Rattle.table_format.specs.Layout.{width_of}
use Rattle.tables.specs.Runs.{accepts}
use Rattle.encoders.specs.Letter.{letter_codes}
use Rattle.judging.specs.declared.fault.JudgeFault.{JudgeFault}
use Rattle.judging.specs.declared.fault.JudgeFault.TheVariants.{Input, Tables, Record}

abbrev pub judge_number : JudgeFault → ℕ
judge_number (Input fault) = fault_number fault
judge_number (Tables fault) = compose_number fault
judge_number (Record fault) = play_number fault

-- globally, a list is accepted as the table accepts it
abbrev pub globally : List ℕ → List ℕ → Bool
globally t = accepts_over (λ l w. In) (λ l. true) (accepts t)

-- the verdict on a record of letters, by a table
abbrev pub after : List ℕ → Samples → Result ℕ PlayFault → Result Bool PlayFault
after t list (Ok n) = Ok (globally t (words (letter_codes (width_of t)) list))
after t list (Err fault) = Err fault

abbrev pub record_judged : List ℕ → List ℕ → Result Bool PlayFault
record_judged t bytes = after t (playing (letter_codes (width_of t)) 1 [] bytes).1 (playing (letter_codes (width_of t)) 1 [] bytes).0

-- the same with the fault as the judging's own
abbrev pub of_record : Result Bool PlayFault → Result Bool JudgeFault
of_record (Ok b) = Ok b
of_record (Err fault) = Err (Record fault)

abbrev pub of_tables : List ℕ → List ℕ → Result ℕ ComposeFault → Result Bool JudgeFault
of_tables t bytes (Ok n) = of_record (record_judged t bytes)
of_tables t bytes (Err fault) = Err (Tables fault)

abbrev pub of_input : Result (List ℕ × List ℕ × List ℕ) InputFault → ℕ → Result Bool JudgeFault
of_input (Ok parts) room = of_tables (composed parts.0 parts.1) parts.2 (composing parts.0 parts.1 room)
of_input (Err fault) room = Err (Input fault)

-- whether the record keeps the rule of the two tables, or the first fault
abbrev pub input_judged : List ℕ → ℕ → Result Bool JudgeFault
input_judged input room = of_input (framed input) room

-- the scratch afterwards: the composed table at its front wherever the tables compose, else as it was
abbrev pub scratch_of : Result (List ℕ × List ℕ × List ℕ) InputFault → List ℕ → ℕ → List ℕ
scratch_of (Ok parts) old room = afterwards (composing parts.0 parts.1 room) (composed parts.0 parts.1) old
scratch_of (Err fault) old room = old
