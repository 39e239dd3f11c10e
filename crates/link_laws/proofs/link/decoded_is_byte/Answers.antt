use Rattle.period_grammar.proofs.Bytes.{decoded_below}
use Rattle.link_laws.proofs.link.decoded_is_byte.Goals as goal

pub returns : goal.returns
returns c = decoded_below
