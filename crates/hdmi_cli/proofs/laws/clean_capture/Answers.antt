use Rattle.hdmi_cli.proofs.RelayExamples.{clean_capture}
use Rattle.hdmi_cli.proofs.laws.clean_capture.Goals as goal

pub returns : goal.returns
returns c = clean_capture
