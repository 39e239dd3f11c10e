use Rattle.link_laws.proofs.LocalLanes.{aligned_whatever_follows}
use Rattle.link_laws.proofs.link.aligned_whatever_follows.Goals as goal

pub returns : goal.returns
returns c = aligned_whatever_follows
