use Rattle.std.proofs.Common.{◌≡◌, ◌+◌, ◌*◌, take, drop}
use Rattle.tmds_word.specs.Bits.{bytes_bits}
use Rattle.track_sink.proofs.held.move_words.Given as goal

abbrev pub invariant-loop-i : goal.invariant-loop-i
invariant-loop-i l = record {
  rest : drop (8 * l.i) l.bytes ≡ drop (8 * l.i) l.initial.bytes;
  moved : bytes_bits (take (8 * l.i) l.bytes) ≡ take (8 * (8 * l.i)) (drop (8 * l.at + l.bit) (bytes_bits l.initial.bytes));
}
