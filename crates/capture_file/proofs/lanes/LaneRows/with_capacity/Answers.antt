use Rattle.capture_file.proofs.Columns.{no_lanes}
use Rattle.capture_file.proofs.lanes.LaneRows.with_capacity.Goals as goal

pub returns : goal.returns
returns c = no_lanes c.in_ok-with_capacity.field-0 c.in_ok-with_capacity-2.field-0 c.in_ok-with_capacity-3.field-0 c.in_ok-with_capacity.ensures c.in_ok-with_capacity-2.ensures c.in_ok-with_capacity-3.ensures
