-- How a report on two tables ends.
use Rattle.std.proofs.Common.{◌≡◌, ◌≢◌, ℕ, ◌++◌, codes, ap, arith}
use Rattle.std.proofs.lemmas.Bool.Decides.{nat_tests}
use Rattle.std.specs.Fmt.{decimal}
use Rattle.inspect.specs.Texts.{end_text}

pub nothing_after : (len : ℕ) → len ≡ 0 → end_text len ≡ codes "\n"
nothing_after len e = ap end_text e

pub some_after : (len : ℕ) → len ≢ 0 → end_text len ≡ codes "\nafter the tables, length " ++ (decimal len ++ codes ": not looked at\n")
some_after len h = grind (arith, nat_tests)
