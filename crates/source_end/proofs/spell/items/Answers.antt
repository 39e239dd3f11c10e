use Rattle.std.proofs.Common.{◌≡◌, ◌<◌, ◌++◌, List, length, map, true, [], ◌∷◌, arith, ap, refl, sym, ◌∙◌, subst, take, append-nil, length-append}
use Rattle.std.proofs.lemmas.List.{take_more}
use Rattle.island_pack.specs.Periods.{Period}
use Rattle.source_end.specs.ItemPeriods.{period_of}
use Rattle.source_end.proofs.Spellings.{joined}
use Rattle.source_end.proofs.Streams.{passed_at, item_at, item_within}
use Rattle.source_end.proofs.Framed.{framed_room, spelled-more, spelled-length, spelled_front}
use Rattle.source_end.proofs.Fronts.{on_err}
use Rattle.source_end.proofs.spell.items.Goals as goal

pub loop-item-init : goal.loop-item-init
loop-item-init g c = record { columns = []; taken = sym (append-nil (g.C.ColumnSink.taken c.args.out.now)); spelled = c.lawful.ensures.none_spelled; later = omega arith }

pub spell-requires : goal.spell-requires
spell-requires g c =
    let framing = c.lawful.ensures in
    let rules = g.F.Framing.rules in
    let xs = c.args.list.now in
    let ps = map period_of xs in
    let x = c.item-item.result in
    let i = c.loop-item.item-index in
    let was = c.loop-item.invariant in
    let lt : i < length ps = item_within xs ps i refl c.loop-item-test.true in
    let is = item_at xs ps i x refl c.loop-item-test.true c.item-item.is in
    let long = ap length was.taken ∙ length-append (g.C.ColumnSink.taken c.args.out.now) was.columns in
    record {
      sendable = subst (λ (p : Period). rules.is_sendable p ≡ true) is (passed_at rules.is_sendable ps i (period_of x) c.requires.sendable lt);
      room = omega (arith, ap rules.columns is, long, spelled-length _ _ _ framing (take i ps) was.columns was.spelled, framed_room _ _ _ framing ps i (period_of x) lt, c.requires.room);
    }

pub loop-item-preserved : goal.loop-item-preserved
loop-item-preserved g c =
    let xs = c.args.list.now in
    let ps = map period_of xs in
    let x = c.item-item.result in
    let i = c.loop-item.item-index in
    let was = c.loop-item.invariant in
    let own = c.in_ok-spell.ensures.ok in
    let lt : i < length ps = item_within xs ps i refl c.loop-item-test.true in
    let more = take_more ps i (period_of x) lt ∙ ap (λ (p : Period). take i ps ++ p ∷ []) (item_at xs ps i x refl c.loop-item-test.true c.item-item.is) in
    record {
      columns = was.columns ++ own.0;
      taken = joined (g.C.ColumnSink.taken c.args.out.now) (g.C.ColumnSink.taken c.loop-item.out) (g.C.ColumnSink.taken c.spell.new.out) was.columns own.0 was.taken own.1;
      spelled = subst (λ (qs : List Period). g.F.Framing.spells qs (was.columns ++ own.0)) (sym more) (spelled-more _ _ _ c.lawful.ensures (take i ps) (period_of x) was.columns own.0 was.spelled own.2);
      later = omega (arith, was.later, c.in_ok-spell.ensures.cause.later);
    }

pub returns-in_err-spell-clause-part : goal.returns-in_err-spell-clause-part
returns-in_err-spell-clause-part g c =
    let xs = c.args.list.now in
    let ps = map period_of xs in
    let x = c.item-item.result in
    let i = c.loop-item.item-index in
    let was = c.loop-item.invariant in
    let lt : i < length ps = item_within xs ps i refl c.loop-item-test.true in
    on_err c.from_residual.result
    (spelled_front _ _ _ c.lawful.ensures ps i (period_of x) (g.C.ColumnSink.taken c.args.out.now) (g.C.ColumnSink.taken c.loop-item.out) (g.C.ColumnSink.taken c.spell.new.out) was.columns c.requires.sendable lt
    (item_at xs ps i x refl c.loop-item-test.true c.item-item.is) was.spelled was.taken c.in_err-spell.ensures.part)
