use Rattle.hdmi_cli.proofs.ChainExample as laws
use Rattle.hdmi_cli.proofs.laws.chain_example.Goals as goal

pub returns : goal.returns
returns c = laws.chain_example
