use Rattle.link_laws.proofs.CleanReceived.{clean_received}
use Rattle.link_laws.proofs.link.clean_received.Goals as goal

pub returns : goal.returns
returns c = clean_received
