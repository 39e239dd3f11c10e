use Rattle.lane_deskew.proofs.Fed.{past_columns_are}
use Rattle.link_laws.proofs.deskew.past_columns.Goals as goal

pub returns : goal.returns
returns c = past_columns_are
