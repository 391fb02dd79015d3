-- How a fault of an input is told, as the codes of its characters.
use Rattle.std.specs.Prelude.{ℕ, List, codes}
use Rattle.framing.specs.declared.InputFault.{InputFault}
use Rattle.framing.specs.declared.InputFault.TheVariants.{CutShort, TooLong}

abbrev pub fault_text : InputFault → List ℕ
fault_text CutShort = codes "the input ends before a table does"
fault_text TooLong = codes "more than 60000 bytes"
