use Rattle.std.proofs.Common.{◌≡◌, take}
use Rattle.std.specs.Prelude.{nat_le}
use Rattle.std.specs.List.{list_any}
use Rattle.terc4.specs.Tables.{is_control}
use Rattle.island_pack.proofs.packet_columns.has_control.Given as goal

abbrev pub invariant-loop-i : goal.invariant-loop-i
invariant-loop-i l = record { any : nat_le 512 l.marks ≡ list_any is_control (take l.i l.words) }
