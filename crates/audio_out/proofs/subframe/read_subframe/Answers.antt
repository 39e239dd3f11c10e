use Rattle.std.proofs.Common.{◌%◌, ◌^◌, ◌<◌, get_or, refl, ap₂, sym, ◌∙◌, subst, arith}
use Rattle.std.specs.Prelude.{MatchOption}
use Rattle.audio_packets.specs.Samples.{side_bits}
use Rattle.audio_out.specs.Subframes.{IsSubframe}
use Rattle.audio_out.specs.declared.subframe.Subframe.{Subframe}
use Rattle.audio_out.proofs.Fields.{turns_of}
use Rattle.audio_out.proofs.Halves.{before_first, bits_bordered, each_byte, four_are, four_of, halves_read, joined_below, joined_of}
use Rattle.audio_out.proofs.LastLevel.{ends_apart, ends_both, even_is, first_level, is_even}
use Rattle.audio_out.proofs.Joined.{eight, marked_first}
use Rattle.audio_out.proofs.ReadBack.{bits_read, read_is, value_back, flags_back, bits_of_value}
use Rattle.audio_out.proofs.subframe.read_subframe.Goals as goal

pub returns-in_err-mark : goal.returns-in_err-mark
returns-in_err-mark c =
    subst (λ r. MatchOption r ((sub : Subframe) → IsSubframe sub c.args.bytes.now → ⊥) (λ sub. IsSubframe sub c.args.bytes.now)) (sym c.from_residual.ensures)
    (λ sub h. let list = eight c.args.bytes.now c.told-bytes in c.in_err-mark.ensures sub.mark (marked_first sub _ _ (subst (IsSubframe sub) list h)))

pub returns-then-turns-ne-BORDERS : goal.returns-then-turns-ne-BORDERS
unfolding turns_of
returns-then-turns-ne-BORDERS c = λ sub h.
    let bytes = c.args.bytes.now in
    let n = c.from_le_bytes-halves.result in
    let list = eight bytes c.told-bytes in
    let eight_bytes = each_byte bytes c.fits-bytes in
    let joined = joined_of bytes n list c.from_le_bytes-halves.ensures in
    let read = halves_read n _ _ _ _ _ _ _ _ eight_bytes joined in
    let below = joined_below n _ _ _ _ _ _ _ _ eight_bytes joined in
    let first = first_level n (get_or bytes 0 0) c.in_ok-mark.mark eight_bytes.of_p (before_first n _ _ _ _ _ _ _ _ eight_bytes joined) c.in_ok-mark.ensures in
    let same = bits_read sub _ _ _ _ _ _ _ _ _ _ _ _ _ _ _ read (subst (IsSubframe sub) list h) in
    let all = bits_bordered sub n h.sound.flags same in
    let four = four_are n _ _ _ _ _ below all refl refl refl refl refl in
    let value = four.value_is ∙ value_back sub _ _ _ _ _ _ _ h.sound same in
    let side = four.side_is ∙ same.b6 in
    let flags = flags_back sub _ h.sound side in
    c.if-turns-ne-BORDERS.true (ends_both n below all (is_even n _ _ below four first (side ∙ sym (ap₂ side_bits value flags))))

pub returns : goal.returns
unfolding turns_of
returns c =
    let bytes = c.args.bytes.now in
    let n = c.from_le_bytes-halves.result in
    let list = eight bytes c.told-bytes in
    let eight_bytes = each_byte bytes c.fits-bytes in
    let joined = joined_of bytes n list c.from_le_bytes-halves.ensures in
    let read = halves_read n _ _ _ _ _ _ _ _ eight_bytes joined in
    let below = joined_below n _ _ _ _ _ _ _ _ eight_bytes joined in
    let first = first_level n (get_or bytes 0 0) c.in_ok-mark.mark eight_bytes.of_p (before_first n _ _ _ _ _ _ _ _ eight_bytes joined) c.in_ok-mark.ensures in
    let ends = ends_apart n below c.if-turns-ne-BORDERS.false in
    let four = four_of n c.every_other.result c.from_le_bytes.result c.to_le_bytes.result below ends.0 c.every_other.ensures c.to_le_bytes.ensures c.from_le_bytes.ensures in
    let value : c.from_le_bytes.result < 2 ^ 24 = omega (arith, four.value_is, four.l0, four.l1, four.l2, four.l3, four.l4, four.l5) in
    let flags : get_or c.to_le_bytes.result 6 0 % 8 < 8 = omega arith in
    let side = sym four.side_is ∙ even_is n _ _ below four first ends.1 in
    let bits = bits_of_value c.in_ok-mark.mark c.from_le_bytes.result (get_or c.to_le_bytes.result 6 0 % 8) _ _ _ _ _ _ _ four.l0 four.l1 four.l2 four.l3 four.l4 four.l5 four.value_is side in
    subst (IsSubframe _) (sym list) (read_is _ _ _ _ _ _ _ _ _ _ _ _ _ _ _ _ read (record { value = value; flags = flags }) c.in_ok-mark.ensures bits)
