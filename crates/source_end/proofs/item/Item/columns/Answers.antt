use Rattle.std.proofs.Common.{ap, sym, ◌∙◌}
use Rattle.island_pack.specs.Periods.{period_columns}
use Rattle.source_end.specs.ItemPeriods.{period_of}
use Rattle.source_end.specs.Kept.{capped}
use Rattle.source_end.proofs.Follows.{clamped, video_columns, island_columns, control_columns}
use Rattle.source_end.proofs.item.Item.columns.Goals as goal

pub returns-in-Control : goal.returns-in-Control
returns-in-Control c =
    c.columns.ensures ∙ ap capped (control_columns c.in-Control.runs) ∙ ap (λ x. capped (period_columns (period_of x))) (sym c.in-Control.is)

pub returns-in-Video : goal.returns-in-Video
returns-in-Video c =
    let n = c.unwrap_or.ensures ∙ clamped c.try_from.result c.len.result c.try_from.ensures in
    c.saturating_add.ensures ∙ video_columns c.in-Video.pixels c.len.result c.unwrap_or.result c.len.ensures.count n ∙ ap (λ x. capped (period_columns (period_of x))) (sym c.in-Video.is)

pub returns-in-Island : goal.returns-in-Island
returns-in-Island c =
    let n = c.unwrap_or-in-Island.ensures ∙ clamped c.try_from-in-Island.result c.len-in-Island.result c.try_from-in-Island.ensures in
    c.saturating_add-in-Island.ensures ∙ island_columns c.in-Island.island c.len-in-Island.result c.unwrap_or-in-Island.result c.saturating_mul.result c.len-in-Island.ensures n c.saturating_mul.ensures ∙ ap (λ x. capped (period_columns (period_of x))) (sym c.in-Island.is)
