use Rattle.std.proofs.Common.{◌≡◌, ℕ, ◌<◌, get_or}
use Rattle.composing.specs.Composed.{entry_from}
use Rattle.composing.proofs.composer.Composer.write_row.Given as goal

abbrev pub invariant-loop-letter : goal.invariant-loop-letter
invariant-loop-letter l = (k : ℕ) → k < l.letter → get_or l.row k 0 ≡ entry_from l.self.pattern.bytes.now l.self.scope.bytes.now l.place k
