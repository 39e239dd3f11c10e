use Rattle.std.proofs.Common.{◌≡◌, ◌*◌, ◌==◌, ◌&&◌, length, take}
use Rattle.tmds_word.specs.Words.{packed_columns}
use Rattle.island_pack.specs.Spelling.{SpellsPackets}
use Rattle.source_end.proofs.spell.lay_each.Given as goal

abbrev pub invariant-loop-i : goal.invariant-loop-i
invariant-loop-i l = record {
  blue_size : length l.blue ≡ 40 * length l.packets;
  green_size : length l.green ≡ 40 * length l.packets;
  red_size : length l.red ≡ 40 * length l.packets;
  leads : l.leads ≡ (l.first && (l.i == 0));
  spelled : SpellsPackets l.first (take l.i l.packets) (packed_columns (take (40 * l.i) l.blue) (take (40 * l.i) l.green) (take (40 * l.i) l.red));
}
