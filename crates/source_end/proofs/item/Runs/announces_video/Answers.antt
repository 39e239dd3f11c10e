use Rattle.std.proofs.Common.{ap, sym, ◌∙◌}
use Rattle.island_pack.specs.Periods.{values_of, has_preamble, VIDEO_PREAMBLE}
use Rattle.source_end.specs.Kept.{led_by}
use Rattle.source_end.proofs.Leads.{preamble_is_led, capped_eight}
use Rattle.source_end.proofs.item.Runs.announces_video.Goals as goal

pub returns : goal.returns
returns c =
    capped_eight (led_by VIDEO_PREAMBLE c.self.inside.list.items) c.self.inside.before_video c.self.invariant.1 ∙ sym (preamble_is_led VIDEO_PREAMBLE c.self.inside.list.items) ∙ ap (λ rs. has_preamble VIDEO_PREAMBLE (values_of rs)) c.self.view_is
