use Rattle.std.proofs.Common.{◌≡◌, List, map, subst, drop, length, arith}
use Rattle.std.proofs.lemmas.List.{length-take}
use Rattle.tmds_word.specs.Column.{Column}
use Rattle.island_pack.specs.Packets.{Carries}
use Rattle.island_pack.specs.Spelling.{column_words}
use Rattle.column_rows.specs.Laid.{IsPacket, packet_of}
use Rattle.column_rows.proofs.Filled.{alike_from, first_of, laid}
use Rattle.column_rows.proofs.calls.encode_packet.Goals as goal

pub returns : goal.returns
returns c =
    let bytes = c.args.bytes.now in
    let room = c.if-not-has_room.ensures.room in
    let blue : length c.lay_packet.new.blue ≡ 32 = omega (arith, c.lay_packet.auto.blue, length-take 32 c.args.blue.now, room.0) in
    let green : length c.lay_packet.new.green ≡ 32 = omega (arith, c.lay_packet.auto.green, length-take 32 c.args.green.now, room.1) in
    let red : length c.lay_packet.new.red ≡ 32 = omega (arith, c.lay_packet.auto.red, length-take 32 c.args.red.now, room.2) in
    laid (IsPacket bytes) (λ columns. Carries (packet_of bytes) c.args.first (map column_words columns)) 32 c.done.result.columns c.done.result.status _ _ c.done.ensures.status c.done.ensures.columns c.if-not-is_packet.ensures.packet
    (subst (λ (cs : List Column). Carries (packet_of bytes) c.args.first (map column_words cs))
    (first_of 32 c.lay_packet.new.blue c.lay_packet.new.green c.lay_packet.new.red (drop 32 c.args.blue.now) (drop 32 c.args.green.now) (drop 32 c.args.red.now) blue green red) c.lay_packet.ensures)
    (alike_from 32 c.lay_packet.new.blue c.lay_packet.new.green c.lay_packet.new.red c.args.blue.now c.args.green.now c.args.red.now blue green red)
