use Rattle.hdmi_cli.proofs.RelockLocal as laws
use Rattle.hdmi_cli.proofs.laws.clear_is_uncontended.Goals as goal

pub returns : goal.returns
returns c = laws.clear_is_uncontended
