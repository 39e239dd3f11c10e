use Rattle.std.proofs.Common.{◌-◌, ◌/◌, ◌^◌, ◌∙◌, ap, arith, sym}
use Rattle.std.proofs.lemmas.Nat.{shr_below}
use Rattle.tmds_word.specs.Bits.{bytes_bits}
use Rattle.tmds_word.proofs.Numbers.{number-drop}
use Rattle.lane_align.proofs.Fives.{two_number}
use Rattle.lane_align.proofs.whole_bytes.last_bits.Goals as goal

pub returns-clause-value : goal.returns-clause-value
returns-clause-value c =
    let e = two_number c.args.bytes.now c.requires.two (λ i. (c.type_inv.bytes i).fits) in
    ap (λ n. n / 2 ^ (16 - c.args.count)) (c.from.ensures ∙ c.from_le_bytes.ensures ∙ omega arith) ∙ sym (number-drop (16 - c.args.count) (bytes_bits c.args.bytes.now))

pub returns-clause-below : goal.returns-clause-below
returns-clause-below c = grind (arith, shr_below)
