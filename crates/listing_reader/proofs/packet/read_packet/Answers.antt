use Rattle.std.proofs.Common.{◌≡◌, length, sym, subst, ◌∙◌, refl, arith}
use Rattle.listing_reader.specs.FormSeen.{HasBodies}
use Rattle.listing_reader.proofs.PacketForms.{form_header, form_bodies, form_packet, header_none, header_read}
use Rattle.listing_reader.proofs.packet.read_packet.Goals as goal

pub returns-then-is_err : goal.returns-then-is_err
returns-then-is_err c =
    let rest = c.args.rest.now in
    form_header rest (header_none rest c.decode_to_slice.new.out _ c.decode_to_slice.result (c.is_laid_out.ensures.size c.if-not-is_laid_out.false) refl c.decode_to_slice.ensures.value (sym c.is_err.ensures.value ∙ c.if-is_err.true))

pub returns-then-not-decode_bodies : goal.returns-then-not-decode_bodies
returns-then-not-decode_bodies c =
    form_bodies c.args.rest.now c.decode_bodies.new.bodies (subst (HasBodies c.args.rest.now c.decode_bodies.new.bodies) c.if-not-decode_bodies.true c.decode_bodies.ensures)

pub returns : goal.returns
returns c =
    let rest = c.args.rest.now in
    let size = c.is_laid_out.ensures.size c.if-not-is_laid_out.false in
    let long : length c.decode_bodies.new.bodies ≡ 28 = omega arith in
    form_packet rest c.decode_to_slice.new.out c.decode_bodies.new.bodies c.sync_values.result (sym c.is_laid_out.ensures.value ∙ c.if-not-is_laid_out.false)
    (header_read rest c.decode_to_slice.new.out _ c.decode_to_slice.result size refl c.decode_to_slice.ensures.value (sym c.is_err.ensures.value ∙ c.if-is_err.false))
    long (subst (HasBodies rest c.decode_bodies.new.bodies) c.if-not-decode_bodies.false c.decode_bodies.ensures) c.sync_values.ensures
