-- What a C caller is told: minus a refusal's number, or a number that is not negative.
use Rattle.std.specs.Prelude.{ℕ, ℤ, pos, neg_ℤ, Some, None, Ok, Err, Option, Result}
use Rattle.composing.specs.declared.fault.ComposeFault.{ComposeFault}
use Rattle.composing.specs.Composing.{compose_number}
use Rattle.table_format.specs.declared.fault.TableFault.{TableFault}
use Rattle.table_format.specs.Faults.{fault_number}

abbrev pub check_code : Option TableFault → ℤ
check_code None = pos 0
check_code (Some fault) = neg_ℤ (pos (fault_number fault))

abbrev pub length_code : Result ℕ ComposeFault → ℤ
length_code (Ok n) = pos n
length_code (Err fault) = neg_ℤ (pos (compose_number fault))
