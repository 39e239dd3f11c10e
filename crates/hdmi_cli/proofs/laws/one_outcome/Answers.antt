use Rattle.hdmi_cli.proofs.OneOutcome.{one_outcome}
use Rattle.hdmi_cli.proofs.laws.one_outcome.Goals as goal

pub returns : goal.returns
returns c = one_outcome
