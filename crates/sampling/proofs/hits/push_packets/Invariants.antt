use Rattle.std.proofs.Common.{◌≡◌, ◌++◌}
use Rattle.sampling.specs.Struck.{struck, packet_strikes}
use Rattle.sampling.proofs.hits.push_packets.Given as goal

abbrev pub invariant-loop-i : goal.invariant-loop-i
invariant-loop-i l = l.hits.items ≡ l.initial.hits.items ++ struck l.tap l.columns (packet_strikes l.at l.i)
