use Rattle.std.proofs.Common.{length}
use Rattle.composing.proofs.Law.{result_decided, result_long, result_composes}
use Rattle.composing.proofs.compose.compose.Goals as goal

pub returns : goal.returns
returns c =
    let p = c.args.pattern.now in
    let s = c.args.scope.now in
    let room = length c.args.out.now in
    let value = c.compose_bytes.ensures.value in
    record {
      value = value;
      short = c.compose_bytes.ensures.short;
      bytes = c.compose_bytes.ensures.bytes;
      long = result_long p s room c.compose_bytes.result value;
      decided = result_decided p s room c.compose_bytes.result value;
      law = result_composes p s room c.compose_bytes.result value;
    }
