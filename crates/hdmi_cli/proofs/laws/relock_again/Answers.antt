use Rattle.hdmi_cli.proofs.RelockAgain as laws
use Rattle.hdmi_cli.proofs.laws.relock_again.Goals as goal

pub returns-clause-link : goal.returns-clause-link
returns-clause-link c = laws.relocked_again

pub returns-clause-content : goal.returns-clause-content
returns-clause-content c = laws.content_relocked_again
