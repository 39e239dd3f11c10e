use Rattle.std.proofs.Common.{◌≡◌, ◌<◌, ◌+◌, ◌*◌, ℕ, subst, sym, ◌∙◌, arith, get_or-set_other, get_or-set_same, slice_index}
use Rattle.std.proofs.lemmas.List.{length-set}
use Rattle.std.proofs.lemmas.Grind.{get_or_default_zero}
use Rattle.island_pack.specs.Packets.{IsPacket}
use Rattle.island_pack.specs.Registers.{laid_nibbles, register_words}
use Rattle.island_pack.proofs.Apart.{green_is, red_is}
use Rattle.island_pack.proofs.Laid.{carried, crossed-lt, laid}
use Rattle.island_pack.proofs.laying.lay.Goals as goal

pub column_of-requires-clause-green : goal.column_of-requires-clause-green
column_of-requires-clause-green c =
    subst (λ (n : ℕ). n < 16) (sym (green_is c.rows_of-rows.result c.blocks_of-blocks.result.bodies c.loop-i.i _ (λ r i lr li. c.rows_of-rows.ensures r i lr li) c.loop-i-test.true c.pair_in-bodies.ensures.green)) (crossed-lt c.blocks_of-blocks.result.bodies (2 * c.loop-i.i))

pub column_of-requires-clause-red : goal.column_of-requires-clause-red
column_of-requires-clause-red c =
    subst (λ (n : ℕ). n < 16) (sym (red_is c.rows_of-rows.result c.blocks_of-blocks.result.bodies c.loop-i.i _ (λ r i lr li. c.rows_of-rows.ensures r i lr li) c.loop-i-test.true c.pair_in-bodies.ensures.red)) (crossed-lt c.blocks_of-blocks.result.bodies (2 * c.loop-i.i + 1))

pub loop-i-preserved : goal.loop-i-preserved
loop-i-preserved c =
    let i = c.loop-i.i in
    let blocks = c.blocks_of-blocks.result in
    let sync = c.args.packet.now.sync in
    let green = green_is c.rows_of-rows.result c.blocks_of-blocks.result.bodies c.loop-i.i _ (λ r i lr li. c.rows_of-rows.ensures r i lr li) c.loop-i-test.true c.pair_in-bodies.ensures.green in
    let red = red_is c.rows_of-rows.result c.blocks_of-blocks.result.bodies c.loop-i.i _ (λ r i lr li. c.rows_of-rows.ensures r i lr li) c.loop-i-test.true c.pair_in-bodies.ensures.red in
    let now : c.column_of.result ≡ register_words (laid_nibbles blocks.header blocks.bodies (slice_index sync i) c.args.first i) =
    laid blocks.header blocks.bodies _ (slice_index sync i) c.args.first i _ _ _ c.column_of.ensures (get_or_default_zero sync i _ (omega arith)) green red in
    record {
      long = length-set c.loop-i.out i _ ∙ c.loop-i.invariant.long;
      laid = grind (arith, get_or-set_other, get_or-set_same);
    }

pub returns : goal.returns
returns c =
    let packet = c.args.packet.now in
    let blocks = c.blocks_of-blocks in
    let whole : IsPacket packet = grind arith in
    carried packet c.args.first c.loop-i.out blocks.result.header blocks.result.bodies whole c.requires c.loop-i.invariant.long blocks.ensures.header blocks.ensures.bodies
    (λ k lt. c.loop-i.invariant.laid k (omega arith))
