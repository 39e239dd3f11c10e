use Rattle.std.proofs.Common.{ap, arith, length}
use Rattle.listing_writer.proofs.ShortLines.{body_short}
use Rattle.listing_writer.proofs.content_packets.other_line.Goals as goal

pub put_hex-requires-clause-few : goal.put_hex-requires-clause-few
put_hex-requires-clause-few c = omega (arith, ap length c.body-4.ensures, body_short c.args.packet.packet.now 3)

pub put_hex-requires-clause-room : goal.put_hex-requires-clause-room
put_hex-requires-clause-room c = omega (arith, ap length c.new-line.ensures, ap length c.body-4.ensures, body_short c.args.packet.packet.now 3)

pub put-requires-2 : goal.put-requires-2
put-requires-2 c = omega (arith, ap length c.new-line.ensures, ap length c.body-4.ensures, body_short c.args.packet.packet.now 3)
