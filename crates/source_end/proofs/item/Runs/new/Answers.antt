use Rattle.source_end.proofs.Leads.{none_kept}
use Rattle.source_end.proofs.item.Runs.new.Goals as goal

pub invariant_of-result : goal.invariant_of-result
invariant_of-result c = none_kept c.new.result.items c.new.ensures.items
