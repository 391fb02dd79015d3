-- What is told of a table: its number of states and its width, or the fault.
use Rattle.std.specs.Prelude.{ℕ, List, Some, None, Ok, Err, Option, Result}
use Rattle.table_format.specs.declared.fault.TableFault.{TableFault}
use Rattle.table_format.specs.declared.kind.Kind.{Kind}
use Rattle.table_format.specs.Checked.{checked}
use Rattle.table_format.specs.Layout.{states_of, width_of}
use Rattle.inspect.specs.declared.finding.Extent.{Extent}

abbrev pub told : Option TableFault → List ℕ → Result Extent TableFault
told None t = Ok (record { states = states_of t; width = width_of t })
told (Some fault) t = Err fault

abbrev pub found : Kind → List ℕ → Result Extent TableFault
found kind t = told (checked kind t) t
