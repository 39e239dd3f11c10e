use Rattle.std.proofs.Common.{ap, sym, ◌∙◌}
use Rattle.source_end.specs.ItemPeriods.{period_of}
use Rattle.source_end.specs.Kept.{is_run_in_range}
use Rattle.std.specs.List.{list_all}
use Rattle.source_end.specs.Refusals.{is_in_range}
use Rattle.source_end.proofs.Follows.{pixels_in_range, runs_in_range, island_in_range}
use Rattle.source_end.proofs.follow.is_in_range.Goals as goal

pub returns-in-Video-clause-answer : goal.returns-in-Video-clause-answer
returns-in-Video-clause-answer c =
    c.is_line_in_range.ensures ∙ pixels_in_range c.in-Video.pixels c.len.result c.len.ensures.count ∙ ap (λ x. is_in_range (period_of x)) (sym c.in-Video.is)

pub returns-in-Control-clause-answer : goal.returns-in-Control-clause-answer
returns-in-Control-clause-answer c =
    c.are_in_range.ensures ∙ ap (list_all is_run_in_range) c.as_slice.ensures ∙ runs_in_range c.in-Control.runs ∙ ap (λ x. is_in_range (period_of x)) (sym c.in-Control.is)

pub returns-in-Island-clause-answer : goal.returns-in-Island-clause-answer
returns-in-Island-clause-answer c =
    c.is_in_range.ensures ∙ island_in_range c.in-Island.island ∙ ap (λ x. is_in_range (period_of x)) (sym c.in-Island.is)
