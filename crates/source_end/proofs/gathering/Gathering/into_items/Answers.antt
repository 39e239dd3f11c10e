use Rattle.std.proofs.Common.{map}
use Rattle.source_end.specs.ItemPeriods.{period_of}
use Rattle.source_end.proofs.Gathered.{all_held}
use Rattle.source_end.proofs.gathering.Gathering.into_items.Goals as goal

pub returns : goal.returns
returns c parts h = all_held (map period_of c.args.self.items.items) (map period_of c.close.new.self.items.items) c.args.self.period parts h c.in_ok-close.ensures.items
