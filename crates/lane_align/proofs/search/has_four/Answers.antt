use Rattle.std.proofs.Common.{◌≡◌, ◌==◌, bit_and, ap, sym, ◌∙◌, arith}
use Rattle.std.proofs.lemmas.Nat.{and_mask}
use Rattle.std.proofs.lemmas.Nat.Bits.{bit_at_lowest}
use Rattle.tmds_word.specs.Bits.{bit}
use Rattle.lane_align.proofs.search.has_four.Goals as goal

pub returns : goal.returns
returns c =
    let n = c.fours_at.result in
    let p = c.args.p in
    let low : (bit_and n 1 == 1) ≡ bit n 0 = ap (λ x. x == 1) (and_mask n 1 ∙ sym (bit_at_lowest n)) in
    grind arith
