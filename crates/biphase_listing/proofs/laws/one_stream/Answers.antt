use Rattle.biphase_listing.proofs.Streams.{one_stream}
use Rattle.biphase_listing.proofs.laws.one_stream.Goals as goal

pub returns : goal.returns
returns c = one_stream
