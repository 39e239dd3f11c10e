use Rattle.hdmi_cli.proofs.TrackExamples.{short}
use Rattle.hdmi_cli.proofs.laws.short_slip.Goals as goal

pub returns : goal.returns
returns c = short
