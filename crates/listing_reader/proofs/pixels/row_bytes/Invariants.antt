use Rattle.std.proofs.Common.{◌≡◌, ◌*◌, ◌/◌, length, min}
use Rattle.listing_reader.specs.HexValues.{AreBytesOf}
use Rattle.listing_reader.proofs.pixels.row_bytes.Given as goal

abbrev pub invariant-loop-i : goal.invariant-loop-i
invariant-loop-i l = record {
  size : length l.bytes.items ≡ min (length l.digits / 2) (512 * l.i);
  values : AreBytesOf l.digits l.bytes.items;
  room : length l.room ≡ 512;
}
