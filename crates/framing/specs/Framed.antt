-- How a program's input is read: a part follows its length, which is four bytes, high byte first.
use Rattle.std.specs.Prelude.{ℕ, ◌+◌, ◌*◌, ◌^◌, cond, List, length, take, drop, Some, None, Ok, Err, Option, Result, nat_lt, slice_index}
use Rattle.framing.specs.declared.InputFault.{InputFault}
use Rattle.framing.specs.declared.InputFault.TheVariants.{CutShort, TooLong}
use Rattle.framing.specs.declared.Part.{Part}
use Rattle.framing.specs.declared.Tables.{Tables}

abbrev pub fault_number : InputFault → ℕ
fault_number CutShort = 8
fault_number TooLong = 18

-- the number in the first four bytes
abbrev pub announced : List ℕ → ℕ
announced t = slice_index t 0 * 2 ^ 24 + slice_index t 1 * 2 ^ 16 + slice_index t 2 * 2 ^ 8 + slice_index t 3

abbrev pub announcement : List ℕ → Option ℕ
announcement t = cond (nat_lt (length t) 4) None (Some (announced t))

-- a part and what comes after it
abbrev pub split : List ℕ → Result (List ℕ × List ℕ) InputFault
split t =
    cond (nat_lt (length t) 4) (Err CutShort)
    (cond (nat_lt (length t) (4 + announced t)) (Err CutShort)
    (Ok (take (announced t) (drop 4 t), drop (4 + announced t) t)))

abbrev pub then_scope : List ℕ → Result (List ℕ × List ℕ) InputFault → Result (List ℕ × List ℕ × List ℕ) InputFault
then_scope pattern (Ok scope) = Ok (pattern, scope.0, scope.1)
then_scope pattern (Err fault) = Err fault

abbrev pub then_parts : Result (List ℕ × List ℕ) InputFault → Result (List ℕ × List ℕ × List ℕ) InputFault
then_parts (Ok pattern) = then_scope pattern.0 (split pattern.1)
then_parts (Err fault) = Err fault

-- the pattern table, the scope table and the rest of an input of at most 60,000 bytes
abbrev pub framed : List ℕ → Result (List ℕ × List ℕ × List ℕ) InputFault
framed t = cond (nat_lt 60000 (length t)) (Err TooLong) (then_parts (split t))

-- what the views hold
abbrev pub parts_of : Result Part InputFault → Result (List ℕ × List ℕ) InputFault
parts_of (Ok p) = Ok (p.bytes.now, p.after.now)
parts_of (Err fault) = Err fault

abbrev pub held : Result Tables InputFault → Result (List ℕ × List ℕ × List ℕ) InputFault
held (Ok t) = Ok (t.pattern.now, t.scope.now, t.after.now)
held (Err fault) = Err fault
