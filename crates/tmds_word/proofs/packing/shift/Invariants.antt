use Rattle.std.proofs.Common.{◌≡◌, ◌<◌, ◌*◌, ◌^◌, ◌++◌, length, take}
use Rattle.tmds_word.specs.Bits.{bits_of, bytes_bits}
use Rattle.tmds_word.proofs.packing.shift.Given as goal

abbrev pub invariant-loop-i : goal.invariant-loop-i
invariant-loop-i l = record {
  narrow : l.left < 2 ^ l.held;
  size : length l.into ≡ length l.fn.into;
  bits : bytes_bits (take (8 * l.i) l.into) ++ bits_of l.held l.left ≡ bits_of l.held l.tail ++ bytes_bits (take (8 * l.i) l.bytes);
}
