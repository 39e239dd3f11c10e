use Rattle.std.proofs.Common.{◌≡◌, ◌*◌, length, map, take}
use Rattle.tmds_word.specs.Bits.{bytes_bits}
use Rattle.tmds_word.specs.Words.{all_words}
use Rattle.island_pack.specs.Periods.{pixels_of}
use Rattle.source_end.specs.LineCoding.{GoesOn, byte_of}
use Rattle.source_end.proofs.line_coding.code.Given as goal

abbrev pub invariant-loop-i : goal.invariant-loop-i
invariant-loop-i l = record {
  size : length l.into ≡ length l.fn.into;
  coded : GoesOn l.initial.coder l.coder (map (byte_of l.part) (take (4 * l.i) (pixels_of l.bytes))) (all_words (bytes_bits (take (5 * l.i) l.into)));
}
