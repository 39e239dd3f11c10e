use Rattle.source_end.proofs.FramingLaws.{dvi_is_framing}
use Rattle.source_end.proofs.framing.WithoutGuardsFraming.lawful.Goals as goal

pub returns : goal.returns
returns c = dvi_is_framing
