use Rattle.hdmi_cli.proofs.RelayChecked as laws
use Rattle.hdmi_cli.proofs.laws.checked_relay.Goals as goal

pub returns : goal.returns
returns c = laws.checked_relay
