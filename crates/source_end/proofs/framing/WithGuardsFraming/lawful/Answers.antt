use Rattle.source_end.proofs.FramingLaws.{link_is_framing}
use Rattle.source_end.proofs.framing.WithGuardsFraming.lawful.Goals as goal

pub returns : goal.returns
returns c = link_is_framing
