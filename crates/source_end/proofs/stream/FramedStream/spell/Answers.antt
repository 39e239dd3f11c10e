use Rattle.std.proofs.Common.{map, ap, ◌∙◌}
use Rattle.std.specs.List.{list_all}
use Rattle.source_end.specs.ItemPeriods.{period_of}
use Rattle.source_end.proofs.stream.FramedStream.spell.Goals as goal

pub items-requires-clause-sendable : goal.items-requires-clause-sendable
items-requires-clause-sendable g c =
    ap (λ xs. list_all g.F.Framing.rules.is_sendable (map period_of xs)) c.as_slice.ensures.value
    ∙ c.lawful.ensures.sendable (map period_of c.self.inside.list.items) c.self.invariant.0
