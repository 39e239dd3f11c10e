use Rattle.std.proofs.Common.{map, ap, sym, ◌∙◌}
use Rattle.source_end.specs.ItemPeriods.{period_of}
use Rattle.source_end.specs.Refusals.{close_fault}
use Rattle.source_end.proofs.items.FramedItems.close.Goals as goal

pub new-requires-clause-conforming : goal.new-requires-clause-conforming
new-requires-clause-conforming g c =
    c.lawful.ensures.ended (map period_of c.self.inside.list.items) c.self.invariant.0
    (ap (λ xs. close_fault (map period_of xs)) (sym c.as_slice.ensures.value) ∙ sym c.end_fault.ensures ∙ c.in_default.is)
