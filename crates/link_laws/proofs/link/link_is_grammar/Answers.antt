use Rattle.link_sink.specs.LinkHearing.{link_is_grammar}
use Rattle.link_laws.proofs.link.link_is_grammar.Goals as goal

pub returns : goal.returns
returns c = link_is_grammar
