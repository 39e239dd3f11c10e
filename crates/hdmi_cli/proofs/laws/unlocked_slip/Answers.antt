use Rattle.hdmi_cli.proofs.TrackExamples.{unlocked}
use Rattle.hdmi_cli.proofs.laws.unlocked_slip.Goals as goal

pub returns : goal.returns
returns c = unlocked
