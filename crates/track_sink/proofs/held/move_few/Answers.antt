use Rattle.std.proofs.Common.{arith}
use borrow.Rule.Slice.PartMut.{put_mid}
use Rattle.track_sink.proofs.Moving.{few_put, few_first}
use Rattle.track_sink.proofs.held.move_few.Goals as goal

pub returns-clause-before : goal.returns-clause-before
returns-clause-before c = grind (arith, few_first, put_mid)

pub returns-clause-bits : goal.returns-clause-bits
returns-clause-bits c = grind (arith, few_put, put_mid)
