use Rattle.std.proofs.Common.{map}
use Rattle.source_end.specs.ItemPeriods.{period_of}
use Rattle.source_end.proofs.Gathered.{on_ok, few_values, holds_columns}
use Rattle.source_end.proofs.gathering.Gathering.columns.Goals as goal

pub returns : goal.returns
returns c parts h few =
    let periods = map period_of c.args.self.now.items.items in
    let runs = c.args.self.now.period in
    on_ok c.push.result _ _ (holds_columns periods runs c.push.new.self parts c.args.value c.args.count h) (c.push.ensures h.values h.runs_are (few_values periods runs parts c.args.count h few))
