use Rattle.std.proofs.Common.{◌≡◌, ◌+◌, ◌-◌, ◌*◌, ◌/◌, ◌%◌, ◌^◌, ap, ◌∙◌, sym, arith}
use Rattle.tmds_word.specs.Bits.{bytes_bits, number}
use Rattle.tmds_word.proofs.Lists.{length-bytes_bits}
use Rattle.lane_edges.proofs.Passing.{repeats_more}
use Rattle.lane_edges.proofs.stretches.repeated_until.Goals as goal

pub loop-at-preserved : goal.loop-at-preserved
loop-at-preserved c =
    let at = c.loop-at.at in
    let after = c.loop-at.invariant.after in
    let near = c.loop-at.invariant.near in
    let test = c.loop-at-test.true in
    let before = c.requires.before in
    let room = c.requires.room in
    let bits = bytes_bits c.args.bytes.now in
    let again : at ≡ at + 5 - 5 = omega arith in
    let long = length-bytes_bits c.args.bytes.now in
    record {
      after = omega arith;
      near = omega arith;
      repeated = sym c.if-eight_bytes-repeated.true ∙ c.eight_bytes.ensures ∙ ap (λ n. number bits / 2 ^ (8 * n) % 2 ^ 64) again;
      same = repeats_more bits c.args.from at before after (omega arith) (sym c.eight_bytes.ensures ∙ c.if-eight_bytes-repeated.true ∙ c.loop-at.invariant.repeated) c.loop-at.invariant.same;
    }
