use Rattle.hdmi_cli.proofs.RelayChecked as laws
use Rattle.hdmi_cli.proofs.laws.relay_is_clean.Goals as goal

pub returns : goal.returns
returns c = laws.relay_is_clean
