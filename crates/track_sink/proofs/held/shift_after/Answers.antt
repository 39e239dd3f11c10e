use Rattle.std.proofs.Common.{◌≡◌, ◌<◌, ◌/◌, ◌%◌, ◌^◌, ◌∙◌, get_or, ap, sym, subst, arith}
use Rattle.track_sink.proofs.Shifting.{more_after, all_after, narrow_rest}
use Rattle.track_sink.proofs.held.shift_after.Goals as goal

pub joined-requires-clause-narrow : goal.joined-requires-clause-narrow
joined-requires-clause-narrow c = c.loop-i.invariant.narrow

pub loop-i-preserved : goal.loop-i-preserved
loop-i-preserved c =
    let was = c.loop-i.invariant in
    let n = c.joined.result in
    let low : get_or c.to_le_bytes.result 0 0 ≡ n % 256 = ap (λ bs. get_or bs 0 0) c.to_le_bytes.ensures in
    let high : get_or c.to_le_bytes.result 1 0 ≡ n / 256 = ap (λ bs. get_or bs 1 0) c.to_le_bytes.ensures ∙ omega (arith, c.joined.type_inv) in
    record {
      narrow = subst (λ m. m < 2 ^ c.args.few) (sym high) (narrow_rest c.loop-i.left c.args.few (get_or c.args.bytes.now c.loop-i.i 0) n was.narrow (c.type_inv.bytes c.loop-i.i).fits c.joined.ensures);
      bits = grind (arith, more_after);
    }

pub returns : goal.returns
returns c = grind (arith, all_after)
