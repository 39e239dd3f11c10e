use Rattle.std.proofs.Common.{refl, arith, replicate}
use Rattle.listing_reader.specs.Forms.{part}
use Rattle.listing_reader.proofs.PacketForms.{four_placed, part_size}
use Rattle.listing_reader.proofs.packet.body_digits.Goals as goal

pub returns : goal.returns
returns c =
    let rest = c.args.rest.now in
    four_placed (replicate 64 48) c.place.new.digits c.place-2.new.digits c.place-3.new.digits c.place-4.new.digits (part 7 14 rest) (part 22 14 rest) (part 37 14 rest) (part 52 14 rest) refl
    (part_size rest 7 (omega (arith, c.requires))) (part_size rest 22 (omega (arith, c.requires))) (part_size rest 37 (omega (arith, c.requires))) (part_size rest 52 (omega (arith, c.requires))) c.place.ensures c.place-2.ensures c.place-3.ensures c.place-4.ensures
