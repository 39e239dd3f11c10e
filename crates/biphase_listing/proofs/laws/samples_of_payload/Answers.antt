use Rattle.biphase_listing.proofs.Payload.{samples_of_payload}
use Rattle.biphase_listing.proofs.laws.samples_of_payload.Goals as goal

pub returns : goal.returns
returns c = samples_of_payload
