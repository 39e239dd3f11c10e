use Rattle.hdmi_cli.proofs.RelockAmid.{local_whole_stream}
use Rattle.hdmi_cli.proofs.laws.local_whole_stream.Goals as goal

pub returns : goal.returns
returns c = local_whole_stream
