-- How a kind of table and a fault are told, as the codes of their characters.
use Rattle.std.specs.Prelude.{ℕ, List, [], ◌++◌, Some, None, Option, codes}
use Rattle.std.specs.Fmt.{decimal}
use Rattle.table_format.specs.declared.kind.Kind.{Kind}
use Rattle.table_format.specs.declared.kind.Kind.TheVariants.{Pattern, Scope}
use Rattle.table_format.specs.declared.fault.TableFault.{TableFault}
use Rattle.table_format.specs.declared.fault.TableFault.TheVariants.{Length, States, Flag, Width, Entry}
use Rattle.table_format.specs.Faults.{fault_place}

abbrev pub kind_text : Kind → List ℕ
kind_text Pattern = codes "pattern table"
kind_text Scope = codes "scope table"

abbrev pub meaning_text : TableFault → List ℕ
meaning_text Length = codes "too few or too many bytes"
meaning_text States = codes "the number of states is 0 or above the limit"
meaning_text (Flag place) = codes "a flag is neither 0 nor 1"
meaning_text (Width place) = codes "the width is above 6"
meaning_text (Entry place) = codes "an entry names no state"

-- the byte to blame, if it is one byte
abbrev pub place_text : Option ℕ → List ℕ
place_text None = []
place_text (Some place) = codes ", byte " ++ decimal place

abbrev pub fault_text : TableFault → List ℕ
fault_text fault = meaning_text fault ++ place_text (fault_place fault)
