use Rattle.listing_laws.proofs.PacketLines.{lines_of_payload}
use Rattle.listing_laws.proofs.laws.lines_of_payload.Goals as goal

pub returns : goal.returns
returns c = lines_of_payload
