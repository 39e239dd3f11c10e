use Rattle.std.proofs.Common.{length, ap, sym, ◌∙◌}
use Rattle.std.specs.Option.{option_copied}
use Rattle.island_pack.specs.Periods.{values_of}
use Rattle.source_end.specs.declared.item.Item.TheVariants.{Control, Video, Island}
use Rattle.source_end.specs.Refusals.{is_long_enough}
use Rattle.source_end.proofs.Leads.{capped_twelve}
use Rattle.source_end.proofs.Follows.{last_is}
use Rattle.source_end.proofs.follow.is_long_enough.Goals as goal

pub returns-in-Some-Control : goal.returns-in-Some-Control
returns-in-Some-Control c =
    let last = last_is c.args.items.now c.in-Some-Control.field-0.now (Control c.in-Some-Control.runs) (sym (ap option_copied c.in-Some-Control.is) ∙ c.last.ensures.value) c.in-Some-Control.field-0-is in
    c.is_control_in_range.ensures ∙ capped_twelve (length (values_of c.in-Some-Control.runs)) c.columns.result c.columns.ensures ∙ ap is_long_enough (sym last)

pub returns-in-Some-Video : goal.returns-in-Some-Video
returns-in-Some-Video c =
    let last = last_is c.args.items.now c.in-Some-Video.field-0.now (Video c.in-Some-Video.field-0-0) (sym (ap option_copied c.in-Some-Video.is) ∙ c.last.ensures.value) c.in-Some-Video.field-0-is in
    ap is_long_enough (sym last)

pub returns-in-Some-Island : goal.returns-in-Some-Island
returns-in-Some-Island c =
    let last = last_is c.args.items.now c.in-Some-Island.field-0.now (Island c.in-Some-Island.field-0-0) (sym (ap option_copied c.in-Some-Island.is) ∙ c.last.ensures.value) c.in-Some-Island.field-0-is in
    ap is_long_enough (sym last)
