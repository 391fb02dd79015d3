-- When two tables compose, what is refused otherwise, and what the composed table means.
use Rattle.std.specs.Prelude.{◌≡◌, ℕ, ◌≤◌, cond, not, List, ◌++◌, drop, Some, None, Ok, Err, Decides, Option, Result, ◌==◌, nat_lt}
use Rattle.table_format.specs.declared.fault.TableFault.{TableFault}
use Rattle.table_format.specs.declared.kind.Kind.TheVariants.{Pattern as PatternKind, Scope as ScopeKind}
use Rattle.table_format.specs.Checked.{checked}
use Rattle.table_format.specs.Faults.{fault_number}
use Rattle.table_format.specs.Lawful.{Lawful}
use Rattle.table_format.specs.Layout.{width_of}
use Rattle.tables.specs.Runs.{accepts, marks, says}
use Rattle.layer.specs.Judged.{AcceptsEach}
use Rattle.composing.specs.declared.fault.ComposeFault.{ComposeFault}
use Rattle.composing.specs.declared.fault.ComposeFault.TheVariants.{Pattern, Scope, Widths, States, Room}
use Rattle.composing.specs.Composed.{total_of, composed, composed_length}

abbrev pub compose_number : ComposeFault → ℕ
compose_number (Pattern fault) = fault_number fault
compose_number (Scope fault) = fault_number fault
compose_number Widths = 14
compose_number States = 15
compose_number Room = 16

-- a table's fault, or else what is found next
abbrev pub fault_or : (TableFault → ComposeFault) → Option TableFault → Result ℕ ComposeFault → Result ℕ ComposeFault
fault_or f None next = next
fault_or f (Some fault) next = Err (f fault)

-- what is looked at first once both tables are lawful: the widths and the number of states
abbrev pub pairing : List ℕ → List ℕ → Option ComposeFault
pairing p s =
    cond (not (width_of p == width_of s)) (Some Widths)
    (cond (nat_lt 250 (total_of p s)) (Some States)
    None)

-- what is looked at once both tables are lawful: the widths, the number of states and the room for the bytes
abbrev pub fitting : List ℕ → List ℕ → ℕ → Result ℕ ComposeFault
fitting p s room =
    cond (not (width_of p == width_of s)) (Err Widths)
    (cond (nat_lt 250 (total_of p s)) (Err States)
    (cond (nat_lt room (composed_length p s)) (Err Room)
    (Ok (composed_length p s))))

-- the length of the composed table, or the first thing that is wrong
abbrev pub composing : List ℕ → List ℕ → ℕ → Result ℕ ComposeFault
composing p s room = fault_or Pattern (checked PatternKind p) (fault_or Scope (checked ScopeKind s) (fitting p s room))

-- the bytes of the room afterwards: the new ones at its front, or the old ones alone
abbrev pub afterwards : Result ℕ ComposeFault → List ℕ → List ℕ → List ℕ
afterwards (Ok n) new old = new ++ drop n old
afterwards (Err fault) new old = old

-- what two tables need to compose into a room of so many bytes
pub record Composable (p s : List ℕ) (room : ℕ) : Type 0 where
  pub pattern : Lawful PatternKind p
  pub scope : Lawful ScopeKind s
  pub widths : width_of p ≡ width_of s
  pub few_states : total_of p s ≤ 250
  pub fits : composed_length p s ≤ room

-- THE COMPOSITION LAW: the composed bytes are a lawful pattern table, which accepts a list of words exactly
-- when the pattern table accepts each judged stretch that the scope table cuts out of the list
pub record Composes (p s : List ℕ) : Type 0 where
  pub lawful : Lawful PatternKind (composed p s)
  pub judges : (l : List ℕ) → Decides (accepts (composed p s) l) (AcceptsEach (marks s) (says s) (accepts p) l)
