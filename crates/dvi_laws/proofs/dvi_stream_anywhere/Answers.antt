use Rattle.dvi_laws.proofs.LocalStream.{dvi_stream_anywhere}
use Rattle.dvi_laws.proofs.dvi_stream_anywhere.Goals as goal

pub returns : goal.returns
returns c = dvi_stream_anywhere
