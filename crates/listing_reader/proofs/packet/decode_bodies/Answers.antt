use Rattle.std.proofs.Common.{◌≡◌, sym, ◌∙◌, arith, rules, length, length-take-le}
use Rattle.listing_reader.proofs.PacketForms.{bodies_read, bodies_bad}
use Rattle.listing_reader.proofs.packet.decode_bodies.Goals as goal

pub returns-then-not-are_digits : goal.returns-then-not-are_digits
returns-then-not-are_digits c = bodies_bad c.args.rest.now c.body_digits-digits.result c.args.bodies.now c.body_digits-digits.ensures (sym c.are_digits.ensures ∙ c.if-not-are_digits.true)

pub returns : goal.returns
returns c =
    bodies_read c.args.rest.now c.body_digits-digits.result c.put_bytes.new.into c.copy_from_slice.new.self c.requires c.body_digits-digits.ensures (sym c.are_digits.ensures ∙ c.if-not-are_digits.false) (omega (arith, c.put_bytes.ensures.size)) c.put_bytes.ensures.values c.copy_from_slice.ensures.after

pub copy_from_slice-requires : goal.copy_from_slice-requires
copy_from_slice-requires c =
    let room : length c.args.bodies.now ≡ 28 = search (rules, c.well_formed) in
    room ∙ sym (length-take-le 28 c.put_bytes.new.into (omega (arith, c.put_bytes.ensures.size)))

pub slice_bounds-copy_from_slice-end-2 : goal.slice_bounds-copy_from_slice-end-2
slice_bounds-copy_from_slice-end-2 c = sym (length-take-le 28 c.put_bytes.new.into (omega (arith, c.put_bytes.ensures.size)))
