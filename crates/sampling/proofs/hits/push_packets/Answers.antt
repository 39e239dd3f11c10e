use Rattle.std.proofs.Common.{arith, [], append-nil, append_assoc}
use Rattle.sampling.proofs.Struck.{struck_none, struck_append, no_packets, packets_more}
use Rattle.sampling.proofs.hits.push_packets.Goals as goal

pub loop-i-init : goal.loop-i-init
loop-i-init c = grind (arith, append-nil, no_packets, struck_none)

pub loop-i-preserved : goal.loop-i-preserved
loop-i-preserved c = grind (arith, append_assoc, struck_append, packets_more)
