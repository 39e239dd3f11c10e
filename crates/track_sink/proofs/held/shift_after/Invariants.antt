use Rattle.std.proofs.Common.{◌≡◌, ◌<◌, ◌^◌, ◌++◌, take}
use Rattle.tmds_word.specs.Bits.{bits_of, bytes_bits}
use Rattle.track_sink.proofs.held.shift_after.Given as goal

abbrev pub invariant-loop-i : goal.invariant-loop-i
invariant-loop-i l = record {
  narrow : l.left < 2 ^ l.few;
  bits : bytes_bits (take l.i l.into) ++ bits_of l.few l.left ≡ take l.few (bytes_bits l.fn.into) ++ bytes_bits (take l.i l.bytes);
}
