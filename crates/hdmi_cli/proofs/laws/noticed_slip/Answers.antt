use Rattle.hdmi_cli.proofs.TrackExamples.{noticed}
use Rattle.hdmi_cli.proofs.laws.noticed_slip.Goals as goal

pub returns : goal.returns
returns c = noticed
