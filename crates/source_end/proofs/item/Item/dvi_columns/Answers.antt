use Rattle.std.proofs.Common.{ap, sym, ◌∙◌}
use Rattle.source_end.specs.ItemPeriods.{period_of}
use Rattle.source_end.specs.DviPeriods.{dvi_columns}
use Rattle.source_end.specs.Kept.{capped}
use Rattle.source_end.proofs.Follows.{clamped, dvi_video_columns, dvi_island_columns, dvi_control_columns}
use Rattle.source_end.proofs.item.Item.dvi_columns.Goals as goal

pub returns-in-Control : goal.returns-in-Control
returns-in-Control c =
    c.columns.ensures ∙ ap capped (dvi_control_columns c.in-Control.runs) ∙ ap (λ x. capped (dvi_columns (period_of x))) (sym c.in-Control.is)

pub returns-in-Video : goal.returns-in-Video
returns-in-Video c =
    let n = c.unwrap_or.ensures ∙ clamped c.try_from.result c.len.result c.try_from.ensures in
    n ∙ dvi_video_columns c.in-Video.pixels c.len.result c.len.ensures.count ∙ ap (λ x. capped (dvi_columns (period_of x))) (sym c.in-Video.is)

pub returns-in-Island : goal.returns-in-Island
returns-in-Island c = dvi_island_columns c.in-Island.field-0 ∙ ap (λ x. capped (dvi_columns (period_of x))) (sym c.in-Island.is)
