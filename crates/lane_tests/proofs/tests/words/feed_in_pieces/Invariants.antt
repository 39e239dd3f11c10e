use Rattle.std.proofs.Common.{◌≡◌, ◌-◌, ◌≤◌, length}
use Rattle.lane_align.specs.Aligners.{fed_of}
use Rattle.lane_tests.proofs.tests.words.feed_in_pieces.Given as goal

abbrev pub invariant-loop-from : goal.invariant-loop-from
invariant-loop-from g l = record {
  within : l.from ≤ l.bits;
  fed : fed_of l.aligner ≡ l.from;
  room : length l.row.items ≡ 3290;
  turns : l.turn ≤ 2;
}

abbrev pub decreases-loop-from : goal.decreases-loop-from
decreases-loop-from g l = l.bits - l.from
