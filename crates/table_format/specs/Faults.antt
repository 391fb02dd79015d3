-- What each fault of a table carries: its number, and the byte to blame.
use Rattle.std.specs.Prelude.{ℕ, Some, None, Option}
use Rattle.table_format.specs.declared.fault.TableFault.{TableFault}
use Rattle.table_format.specs.declared.fault.TableFault.TheVariants.{Length, States, Flag, Width, Entry}

abbrev pub fault_number : TableFault → ℕ
fault_number Length = 9
fault_number States = 10
fault_number (Flag place) = 11
fault_number (Width place) = 12
fault_number (Entry place) = 13

abbrev pub fault_place : TableFault → Option ℕ
fault_place Length = None
fault_place States = Some 0
fault_place (Flag place) = Some place
fault_place (Width place) = Some place
fault_place (Entry place) = Some place
