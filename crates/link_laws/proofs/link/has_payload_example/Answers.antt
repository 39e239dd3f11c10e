use Rattle.link_laws.proofs.Example.{payload_aligned}
use Rattle.link_laws.proofs.link.has_payload_example.Goals as goal

pub returns : goal.returns
returns c = payload_aligned
