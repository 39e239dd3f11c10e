use Rattle.capture_file.proofs.Columns.{no_lanes}
use Rattle.capture_file.proofs.lanes.LaneRows.new.Goals as goal

pub returns : goal.returns
returns c = no_lanes c.new.result c.new-2.result c.new-3.result c.new.ensures c.new-2.ensures c.new-3.ensures
