use Rattle.link_laws.proofs.LaneEnds.{control_columns}
use Rattle.link_laws.proofs.deskew.control_columns.Goals as goal

pub returns : goal.returns
returns c = control_columns
