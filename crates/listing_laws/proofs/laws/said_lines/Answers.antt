use Rattle.listing_laws.proofs.Said.{said_lines}
use Rattle.listing_laws.proofs.laws.said_lines.Goals as goal

pub returns : goal.returns
returns c = said_lines
