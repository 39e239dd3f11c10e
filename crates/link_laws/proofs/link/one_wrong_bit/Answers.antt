use Rattle.link_laws.proofs.WrongBits.{one_wrong_bit}
use Rattle.link_laws.proofs.link.one_wrong_bit.Goals as goal

pub returns : goal.returns
returns c = one_wrong_bit
