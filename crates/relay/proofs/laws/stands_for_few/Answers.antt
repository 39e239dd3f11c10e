use Rattle.std.proofs.Common.{arith}
use Rattle.relay.proofs.Going.{stream_columns}
use Rattle.relay.proofs.laws.stands_for_few.Goals as goal

pub returns : goal.returns
returns c relay reported s = grind (arith, stream_columns)
