use Rattle.std.proofs.Common.{◌<◌, List, length, take, ap, sym, subst, ◌∙◌, arith}
use Rattle.std.specs.Prelude.{All}
use Rattle.island_pack.specs.Periods.{columns_of}
use Rattle.source_end.specs.ItemPeriods.{period_of}
use Rattle.capture_file.specs.BlockDamage.{AllFitLanes}
use Rattle.capture_file.specs.Taps.{tap_counts}
use Rattle.capture_file.specs.declared.damaging.Hit.{Hit}
use Rattle.sampling.proofs.Struck.{no_columns, no_strikes, room_at, taken_more, columns_more, struck_more, walked, hits_lanes, hits_few, hits_fit}
use Rattle.sampling.proofs.hits.hits_of.Goals as goal

pub loop-item-init : goal.loop-item-init
loop-item-init c = record { at_is = sym no_columns; hits_are = c.new-hits.ensures.items ∙ sym (no_strikes c.args.tap.now c.columns-columns.result) }

pub push_item-requires-clause-within : goal.push_item-requires-clause-within
push_item-requires-clause-within c =
    room_at c.items-item-items.result.now c.args.stream.now c.loop-item.item-index c.item-item.result c.loop-item.at c.columns-columns.result
    c.items-item-items.ensures c.loop-item-test.true c.item-item.is c.loop-item.invariant.at_is c.columns-columns.ensures.value

pub columns_of-at-requires : goal.columns_of-at-requires
columns_of-at-requires c = grind (arith, room_at)

pub overflow_add-at : goal.overflow_add-at
overflow_add-at c = grind (arith, room_at)

pub loop-item-preserved : goal.loop-item-preserved
loop-item-preserved c =
    let ps = c.args.stream.now in
    let i = c.loop-item.item-index in
    let p = period_of c.item-item.result in
    let more = taken_more c.items-item-items.result.now ps i c.item-item.result c.items-item-items.ensures c.loop-item-test.true c.item-item.is in
    record {
      at_is = omega (arith, c.loop-item.invariant.at_is, c.columns_of-at.ensures, columns_more (take i ps) p, ap columns_of more);
      hits_are = grind (arith, struck_more);
    }

pub returns-clause-hits : goal.returns-clause-hits
returns-clause-hits c =
    walked c.args.tap.now c.columns-columns.result c.items-item-items.result.now c.args.stream.now c.loop-item.item-index c.loop-item.hits.items
    c.items-item-items.ensures c.loop-item-test.false c.columns-columns.ensures.value c.loop-item.invariant.hits_are

pub returns-clause-lanes : goal.returns-clause-lanes
returns-clause-lanes c =
    let is = walked c.args.tap.now c.columns-columns.result c.items-item-items.result.now c.args.stream.now c.loop-item.item-index c.loop-item.hits.items
    c.items-item-items.ensures c.loop-item-test.false c.columns-columns.ensures.value c.loop-item.invariant.hits_are in
    subst (λ (hs : List Hit). All (λ (h : Hit). h.lane < 3) hs) (sym is) (hits_lanes c.args.tap.now c.args.stream.now)

pub returns-clause-few : goal.returns-clause-few
returns-clause-few c =
    let is = walked c.args.tap.now c.columns-columns.result c.items-item-items.result.now c.args.stream.now c.loop-item.item-index c.loop-item.hits.items
    c.items-item-items.ensures c.loop-item-test.false c.columns-columns.ensures.value c.loop-item.invariant.hits_are in
    omega (arith, ap length is, hits_few c.args.tap.now c.args.stream.now, c.columns-columns.ensures.value, c.columns-columns.ensures.few)

pub returns-clause-fits : goal.returns-clause-fits
returns-clause-fits c =
    let is = walked c.args.tap.now c.columns-columns.result c.items-item-items.result.now c.args.stream.now c.loop-item.item-index c.loop-item.hits.items
    c.items-item-items.ensures c.loop-item-test.false c.columns-columns.ensures.value c.loop-item.invariant.hits_are in
    λ columns e. subst (AllFitLanes (tap_counts c.args.tap.now columns)) (sym is) (hits_fit c.args.tap.now c.args.stream.now columns e)
