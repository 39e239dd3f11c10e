use Rattle.biphase_listing.proofs.Streams.{stream_is_faultless}
use Rattle.biphase_listing.proofs.laws.stream_is_faultless.Goals as goal

pub returns : goal.returns
returns c = stream_is_faultless
