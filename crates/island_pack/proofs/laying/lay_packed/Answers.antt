use Rattle.std.proofs.Common.{arith}
use Rattle.island_pack.specs.Packets.{IsPacket}
use Rattle.island_pack.proofs.LaidColumns.{carried_packed}
use Rattle.island_pack.proofs.laying.lay_packed.Goals as goal

pub returns-clause-carried : goal.returns-clause-carried
returns-clause-carried c =
    let packet = c.args.packet.now in
    let blocks = c.blocks_of-blocks in
    let whole : IsPacket packet = grind arith in
    carried_packed packet c.args.first c.lay_header.new.into c.lay_bodies.new.green c.lay_bodies.new.red blocks.result.header blocks.result.bodies whole c.requires.sync
    c.lay_header.ensures.size c.lay_bodies.ensures.green_size c.lay_bodies.ensures.red_size blocks.ensures.header blocks.ensures.bodies
    c.lay_header.ensures.nibbles c.lay_bodies.ensures.green c.lay_bodies.ensures.red
