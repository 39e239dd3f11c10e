use Rattle.std.proofs.Common.{map, ap}
use Rattle.source_end.specs.ItemPeriods.{period_of}
use Rattle.source_end.proofs.Framed.{none_kept}
use Rattle.source_end.proofs.items.FramedItems.new.Goals as goal

pub invariant_of-result : goal.invariant_of-result
invariant_of-result g c =
    let kept = none_kept _ _ _ c.lawful.ensures (map period_of c.new.result.items) (ap (map period_of) c.new.ensures.items) in
    (kept.conforming, kept.columns, kept.few)
