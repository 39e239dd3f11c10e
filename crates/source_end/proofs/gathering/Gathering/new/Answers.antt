use Rattle.source_end.proofs.Gathered.{new_holds}
use Rattle.source_end.proofs.gathering.Gathering.new.Goals as goal

pub returns : goal.returns
returns c = new_holds c.new.result.items c.new-2.result c.new.ensures.items c.new-2.ensures
