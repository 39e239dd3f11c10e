use Rattle.std.proofs.Common.{arith}
use Rattle.source_end.specs.Content.{with_packet}
use Rattle.source_end.proofs.Generated.{same_length, led, sounds_added}
use Rattle.source_end.proofs.generator.add_packets.Goals as goal

pub packet-requires-2 : goal.packet-requires-2
packet-requires-2 c =
    let one = same_length (with_packet c.args.avi.now) c.args.content.now c.packet.new.self c.in_ok-packet.ensures.ok in
    omega (arith, one, c.requires.some)

pub packet-requires-3 : goal.packet-requires-3
packet-requires-3 c =
    let one = same_length (with_packet c.args.avi.now) c.args.content.now c.packet.new.self c.in_ok-packet.ensures.ok in
    let two = same_length (with_packet c.clock.result) c.packet.new.self c.packet-2.new.self c.in_ok-packet-2.ensures.ok in
    omega (arith, one, two, c.requires.some)

pub loop-i-init : goal.loop-i-init
loop-i-init c =
    let one = same_length (with_packet c.args.avi.now) c.args.content.now c.packet.new.self c.in_ok-packet.ensures.ok in
    let two = same_length (with_packet c.clock.result) c.packet.new.self c.packet-2.new.self c.in_ok-packet-2.ensures.ok in
    grind (arith, same_length, led)

pub loop-i-preserved : goal.loop-i-preserved
loop-i-preserved c = grind (arith, same_length, sounds_added)
