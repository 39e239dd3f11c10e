use Rattle.link_laws.proofs.LocalStream.{stream_anywhere}
use Rattle.link_laws.proofs.link.stream_anywhere.Goals as goal

pub returns : goal.returns
returns c = stream_anywhere
