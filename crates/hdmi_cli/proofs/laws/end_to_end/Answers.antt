use Rattle.hdmi_cli.proofs.EndToEnd as laws
use Rattle.hdmi_cli.proofs.laws.end_to_end.Goals as goal

pub returns : goal.returns
returns c = record { link = laws.end_to_end; content = laws.content_end_to_end }
