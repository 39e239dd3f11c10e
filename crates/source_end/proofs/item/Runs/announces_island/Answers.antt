use Rattle.std.proofs.Common.{ap, sym, ◌∙◌}
use Rattle.island_pack.specs.Periods.{values_of, has_preamble, ISLAND_PREAMBLE}
use Rattle.source_end.specs.Kept.{led_by}
use Rattle.source_end.proofs.Leads.{preamble_is_led, capped_eight}
use Rattle.source_end.proofs.item.Runs.announces_island.Goals as goal

pub returns : goal.returns
returns c =
    capped_eight (led_by ISLAND_PREAMBLE c.self.inside.list.items) c.self.inside.before_island c.self.invariant.2 ∙ sym (preamble_is_led ISLAND_PREAMBLE c.self.inside.list.items) ∙ ap (λ rs. has_preamble ISLAND_PREAMBLE (values_of rs)) c.self.view_is
