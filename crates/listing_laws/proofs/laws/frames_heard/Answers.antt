use Rattle.listing_laws.proofs.Law.{frames_heard}
use Rattle.listing_laws.proofs.laws.frames_heard.Goals as goal

pub returns : goal.returns
returns c = frames_heard
