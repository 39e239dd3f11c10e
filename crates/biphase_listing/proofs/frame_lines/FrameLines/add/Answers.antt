use Rattle.std.proofs.Common.{arith, append-nil}
use Rattle.biphase_listing.proofs.Joining.{frame_lines_more, no_status}
use Rattle.biphase_listing.proofs.frame_lines.FrameLines.add.Goals as goal
use Rattle.biphase_listing.proofs.frame_lines.FrameLines.add.Goals.{then-take, else-take}

pub returns-clause-text : goal.returns-clause-text
returns-clause-text c = grind (arith, then-take, else-take, append-nil, no_status, frame_lines_more)
