use Rattle.std.proofs.Common.{◌≡◌, length, sym, subst, ◌∙◌, arith}
use Rattle.listing_reader.specs.FormSeen.{HasBodies}
use Rattle.listing_reader.specs.ContentFormSeen.{IsHexField}
use Rattle.listing_reader.specs.Forms.{part}
use Rattle.listing_reader.proofs.ContentLines.{packet_bad, packet_seen}
use Rattle.listing_reader.proofs.content_digits.packet.Goals as goal

pub returns-then-not-decode_bodies-clause-form : goal.returns-then-not-decode_bodies-clause-form
returns-then-not-decode_bodies-clause-form c =
    let rest = c.args.rest.now in
    packet_bad rest c.hex_field.new.into c.decode_bodies.new.bodies (sym c.is_laid_out.ensures.value ∙ c.if-not-is_laid_out.false)
    (subst (IsHexField (part 0 6 rest) c.hex_field.new.into) c.if-not-hex_field.false c.hex_field.ensures.value)
    (subst (HasBodies rest c.decode_bodies.new.bodies) c.if-not-decode_bodies.true c.decode_bodies.ensures)

pub returns-clause-form : goal.returns-clause-form
returns-clause-form c =
    let rest = c.args.rest.now in
    let long : length c.decode_bodies.new.bodies ≡ 28 = omega arith in
    packet_seen rest c.hex_field.new.into c.decode_bodies.new.bodies (sym c.is_laid_out.ensures.value ∙ c.if-not-is_laid_out.false)
    (subst (IsHexField (part 0 6 rest) c.hex_field.new.into) c.if-not-hex_field.false c.hex_field.ensures.value) long
    (subst (HasBodies rest c.decode_bodies.new.bodies) c.if-not-decode_bodies.false c.decode_bodies.ensures)
