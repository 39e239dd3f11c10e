use Rattle.std.proofs.Common.{◌≡◌, ◌+◌, ◌-◌, ◌*◌, ◌/◌, ◌^◌, ◌++◌, take, length}
use Rattle.tmds_word.specs.Bits.{bytes_bits, number}
use Rattle.lane_align.specs.Words.{words_in}
use Rattle.lane_align.proofs.aligner.cut_fives.Given as goal

abbrev pub invariant-loop-i : goal.invariant-loop-i
invariant-loop-i l = record {
  written : take (l.at + 4 * (2 * l.i)) l.row ++ words_in (4 * (l.groups - 2 * l.i)) (number (bytes_bits l.bytes) / 2 ^ (l.from + 40 * (2 * l.i)))
      ≡ take l.at l.fn.row ++ words_in (4 * l.groups) (number (bytes_bits l.bytes) / 2 ^ l.from);
  same : length l.row ≡ length l.fn.row;
}
