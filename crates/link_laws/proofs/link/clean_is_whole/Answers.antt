use Rattle.link_laws.proofs.exact.Wholes.{clean_is_whole}
use Rattle.link_laws.proofs.link.clean_is_whole.Goals as goal

pub returns : goal.returns
returns c = clean_is_whole
