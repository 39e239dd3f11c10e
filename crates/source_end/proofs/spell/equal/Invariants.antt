use Rattle.std.proofs.Common.{◌≡◌, ◌*◌, length, take, replicate}
use Rattle.tmds_word.specs.Bits.{bytes_bits}
use Rattle.tmds_word.specs.Words.{all_words}
use Rattle.source_end.proofs.spell.equal.Given as goal

abbrev pub invariant-loop-i : goal.invariant-loop-i
invariant-loop-i l = record {
  long : length l.bytes ≡ 80;
  packed : all_words (bytes_bits (take (5 * l.i) l.bytes)) ≡ replicate (4 * l.i) l.word;
}
