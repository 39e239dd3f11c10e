use Rattle.link_laws.proofs.exact.Law.{clean_is_front}
use Rattle.link_laws.proofs.link.clean_is_front.Goals as goal

pub returns : goal.returns
returns c = clean_is_front
