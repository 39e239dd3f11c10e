use Rattle.std.proofs.Common.{◌≡◌, ◌*◌, ◌∙◌, ap, arith, slice_index, take_all}
use Rattle.island_pack.specs.Registers.{blue_of}
use Rattle.island_pack.proofs.NibblePairs.{none_yet, pairs_more, has_all, blue_below}
use Rattle.island_pack.proofs.laying.lay_header.Goals as goal

pub loop-r-init : goal.loop-r-init
loop-r-init c = record { size = c.requires.room; nibbles = none_yet c.args.into.now _ }

pub loop-r-preserved : goal.loop-r-preserved
loop-r-preserved c =
    let was = c.loop-r.invariant in
    let sync = c.args.sync.now in
    record {
      size = c.put_pairs.ensures.size ∙ was.size;
      nibbles = pairs_more c.loop-r.into c.put_pairs.new.into c.loop-r.r (5 * c.from.result) c.blue_pair-low.result c.blue_pair-high.result (λ i. blue_of c.args.header (slice_index sync i) c.args.first i) c.loop-r-test.true (ap (λ n. 5 * n) c.from.ensures) was.size
          (blue_below c.args.header sync c.args.first c.requires.sync) c.blue_pair-low.ensures c.blue_pair-high.ensures c.put_pairs.ensures.bits was.nibbles;
    }

pub returns-clause-nibbles : goal.returns-clause-nibbles
returns-clause-nibbles c =
    let was = c.loop-r.invariant in
    let all : c.loop-r.r ≡ 8 = omega (arith, c.loop-r-test.false, c.loop-r.auto) in
    has_all c.loop-r.into c.loop-r.r _ all (take_all (5 * c.loop-r.r) c.loop-r.into (omega (arith, all, was.size))) was.nibbles
