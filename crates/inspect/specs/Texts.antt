-- How a report on two tables reads, as the codes of its characters.
use Rattle.std.specs.Prelude.{ℕ, List, ◌++◌, Ok, Err, Result, codes, length, if◌then◌else◌, nat_eq}
use Rattle.std.specs.Fmt.{decimal}
use Rattle.framing.specs.Framed.{fault_number as input_number}
use Rattle.framing.specs.Texts.{fault_text as input_text}
use Rattle.framing.specs.declared.InputFault.{InputFault}
use Rattle.table_format.specs.declared.fault.TableFault.{TableFault}
use Rattle.table_format.specs.declared.kind.Kind.{Kind}
use Rattle.table_format.specs.declared.kind.Kind.TheVariants.{Pattern, Scope}
use Rattle.table_format.specs.Faults.{fault_number}
use Rattle.table_format.specs.Texts.{kind_text, fault_text}
use Rattle.inspect.specs.declared.finding.Extent.{Extent}
use Rattle.inspect.specs.Found.{found}

abbrev pub finding_text : Result Extent TableFault → List ℕ
finding_text (Ok extent) = codes "good, states " ++ decimal extent.states ++ codes ", width " ++ decimal extent.width
finding_text (Err fault) = codes "refused " ++ decimal (fault_number fault) ++ codes ", " ++ fault_text fault

abbrev pub line_text : Kind → ℕ → Result Extent TableFault → List ℕ
line_text kind len finding = kind_text kind ++ codes ", length " ++ decimal len ++ codes ": " ++ finding_text finding

-- the line of a table
abbrev pub table_text : Kind → List ℕ → List ℕ
table_text kind t = line_text kind (length t) (found kind t)

-- the end of a report on two tables: bytes after them are counted
abbrev pub end_text : ℕ → List ℕ
end_text len = if nat_eq len 0 then codes "\n" else codes "\nafter the tables, length " ++ (decimal len ++ codes ": not looked at\n")

-- a line for each table, or one that says why the input holds no two tables
abbrev pub report_text : Result (List ℕ × List ℕ × List ℕ) InputFault → List ℕ
report_text (Ok (pattern, scope, rest)) = table_text Pattern pattern ++ (codes "\n" ++ (table_text Scope scope ++ end_text (length rest)))
report_text (Err fault) = codes "input: refused " ++ (decimal (input_number fault) ++ (codes ", " ++ (input_text fault ++ codes "\n")))
