use Rattle.hdmi_cli.proofs.BurstExample.{burst}
use Rattle.hdmi_cli.proofs.laws.burst.Goals as goal

pub returns : goal.returns
returns c = burst
