-- How many are right for t times.
use Rattle.std.specs.Prelude.{ℕ, Bool, ◌==◌, nat_le}
use Rattle.patterns.specs.declared.form.Form.{Form}
use Rattle.patterns.specs.declared.form.Form.TheVariants.{Exactly, AtLeast, AtMost}

abbrev pub suits : Form → ℕ → ℕ → Bool
suits Exactly t n = n == t
suits AtLeast t n = nat_le t n
suits AtMost t n = nat_le n t
