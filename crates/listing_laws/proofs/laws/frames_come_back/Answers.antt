use Rattle.listing_laws.proofs.Law.{frames_come_back}
use Rattle.listing_laws.proofs.laws.frames_come_back.Goals as goal

pub returns : goal.returns
returns c = frames_come_back
