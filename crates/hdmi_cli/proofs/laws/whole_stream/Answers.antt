use Rattle.hdmi_cli.proofs.WholeStream.{whole_stream}
use Rattle.hdmi_cli.proofs.laws.whole_stream.Goals as goal

pub returns : goal.returns
returns c = whole_stream
