use Rattle.std.proofs.Common.{sym, subst, map, List}
use Rattle.tmds_word.specs.Column.{Column}
use Rattle.tmds_word.specs.Words.{columns_of}
use Rattle.island_pack.specs.Packets.{Carries}
use Rattle.island_pack.specs.Spelling.{column_words}
use Rattle.island_pack.specs.declared.packet.Packet.{Packet}
use Rattle.island_pack.proofs.WordColumns.{carries_columns}
use Rattle.source_end.proofs.LineCodings.{lanes_columns}
use Rattle.column_rows.proofs.rows.lay_packet.Goals as goal

pub returns : goal.returns
returns c =
    subst (λ (p : Packet). Carries p c.args.first (map column_words (columns_of c.copy_lane.new.row c.copy_lane-2.new.row c.copy_lane-3.new.row))) c.read_packet.ensures
    (subst (λ (cs : List Column). Carries c.read_packet.result c.args.first (map column_words cs)) (sym (lanes_columns c.lay.new.out _ _ _ c.copy_lane.ensures c.copy_lane-2.ensures c.copy_lane-3.ensures))
    (carries_columns c.read_packet.result c.args.first c.lay.new.out c.lay.ensures))
