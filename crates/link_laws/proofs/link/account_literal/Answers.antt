use Rattle.link_laws.proofs.Literal.{account_literal}
use Rattle.link_laws.proofs.link.account_literal.Goals as goal

pub returns : goal.returns
returns c = account_literal
