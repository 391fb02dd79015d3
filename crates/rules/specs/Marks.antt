-- The word by which each mark is printed.
use Rattle.std.specs.Prelude.{ℕ, List, codes}
use Rattle.rules.specs.declared.mark.Mark.{Mark}
use Rattle.rules.specs.declared.mark.Mark.TheVariants.{Out, In, Last, Anew}

abbrev pub mark_name : Mark → List ℕ
mark_name Out = codes "out"
mark_name In = codes "in"
mark_name Last = codes "last"
mark_name Anew = codes "anew"
