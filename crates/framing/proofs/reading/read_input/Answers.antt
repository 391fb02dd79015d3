use Rattle.std.proofs.Common.{◌+◌}
use Rattle.framing.specs.declared.TheConstants.{MOST_INPUT}
use Rattle.framing.proofs.Limits.{first_bytes}
use Rattle.framing.proofs.reading.read_input.Goals as goal

pub returns : goal.returns
returns g c =
    let was = c.in_ok-read_to_end.ensures.bytes in
    let read = rw (c.take.ensures.limit, c.take.ensures.inner, c.new-bytes.ensures.items) at was in
    first_bytes (MOST_INPUT + 1) (g.R.Read.remaining c.args.input) c.read_to_end.new.buf.items read
