use Rattle.std.proofs.Common.{◌≡◌, ◌-◌, take, map, length}
use Rattle.listing_reader.proofs.packet.sync_values.Given as goal

abbrev pub invariant-loop-i : goal.invariant-loop-i
invariant-loop-i l = record {
  reported : take l.i l.values ≡ map (λ digit. digit - 48) (take l.i l.digits);
  size : length l.values ≡ 32;
}
