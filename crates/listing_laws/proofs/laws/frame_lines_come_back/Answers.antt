use Rattle.listing_laws.proofs.PictureLines.{frame_lines_come_back}
use Rattle.listing_laws.proofs.laws.frame_lines_come_back.Goals as goal

pub returns : goal.returns
returns c = frame_lines_come_back
