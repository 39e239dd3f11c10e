use Rattle.biphase_listing.proofs.Streams.{stream_is_read}
use Rattle.biphase_listing.proofs.laws.stream_is_read.Goals as goal

pub returns : goal.returns
returns c = stream_is_read
