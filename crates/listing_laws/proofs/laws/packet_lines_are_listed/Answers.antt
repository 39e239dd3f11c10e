use Rattle.listing_laws.proofs.PacketsListed.{packet_lines_are_listed}
use Rattle.listing_laws.proofs.laws.packet_lines_are_listed.Goals as goal

pub returns : goal.returns
returns c = packet_lines_are_listed
