use Rattle.std.proofs.Common.{◌≡◌, ◌-◌, ◌*◌, ◌/◌, ◌%◌, ◌^◌, ◌≤◌, max, take, drop}
use Rattle.tmds_word.specs.Bits.{bytes_bits, number}
use Rattle.lane_edges.proofs.stretches.repeated_until.Given as goal

abbrev pub invariant-loop-at : goal.invariant-loop-at
invariant-loop-at l = record {
  after : l.from ≤ l.at;
  near : l.at ≤ max l.from l.end;
  repeated : l.repeated ≡ number (bytes_bits l.bytes) / 2 ^ (8 * (l.at - 5)) % 2 ^ 64;
  same : take (8 * (l.at - l.from)) (drop (8 * l.from) (bytes_bits l.bytes)) ≡ take (8 * (l.at - l.from)) (drop (8 * l.from - 40) (bytes_bits l.bytes));
}

abbrev pub decreases-loop-at : goal.decreases-loop-at
decreases-loop-at l = l.end - l.at
