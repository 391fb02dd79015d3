-- What checking says of any bytes, in the order in which it looks.
use Rattle.std.specs.Prelude.{ℕ, ◌+◌, ◌*◌, Bool, cond, not, ◌||◌, List, length, take, drop, Some, None, Option, ◌==◌, nat_lt}
use Rattle.std.specs.List.{prefix_len}
use Rattle.table_format.specs.declared.kind.Kind.{Kind}
use Rattle.table_format.specs.declared.fault.TableFault.{TableFault}
use Rattle.table_format.specs.declared.fault.TableFault.TheVariants.{Length, States, Flag, Width, Entry}
use Rattle.table_format.specs.Layout.{most, target, states_of, width_of, size_of}

abbrev pub flag_fine : ℕ → Bool
flag_fine f = nat_lt f 2

abbrev pub entry_fine : Kind → ℕ → ℕ → Bool
entry_fine kind n e = nat_lt (target kind e) n

-- how many flags, from the first, are fine without a bad one between
abbrev pub fine_flags : List ℕ → ℕ
fine_flags t = prefix_len flag_fine (take (states_of t) (drop 1 t))

abbrev pub fine_entries : Kind → List ℕ → ℕ
fine_entries kind t = prefix_len (entry_fine kind (states_of t)) (take (states_of t * size_of t) (drop (2 + states_of t) t))

abbrev pub full_length : List ℕ → ℕ
full_length t = 2 + states_of t + states_of t * size_of t

-- the number of states, and room for the flags and the width
abbrev pub head_fault : Kind → List ℕ → Option TableFault
head_fault kind t =
    cond (length t == 0) (Some Length)
    (cond (states_of t == 0 || nat_lt (most kind) (states_of t)) (Some States)
    (cond (nat_lt (length t) (2 + states_of t)) (Some Length)
    None))

-- the flags, the width, the exact length and the entries
abbrev pub body_fault : Kind → List ℕ → Option TableFault
body_fault kind t =
    cond (nat_lt (fine_flags t) (states_of t)) (Some (Flag (1 + fine_flags t)))
    (cond (nat_lt 6 (width_of t)) (Some (Width (1 + states_of t)))
    (cond (not (length t == full_length t)) (Some Length)
    (cond (nat_lt (fine_entries kind t) (states_of t * size_of t)) (Some (Entry (2 + states_of t + fine_entries kind t)))
    None)))

abbrev pub or_else : Option TableFault → Option TableFault → Option TableFault
or_else (Some fault) next = Some fault
or_else None next = next

abbrev pub checked : Kind → List ℕ → Option TableFault
checked kind t = or_else (head_fault kind t) (body_fault kind t)
