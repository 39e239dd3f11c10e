use Rattle.hdmi_cli.proofs.NoticedOrNot.{noticed_or_not}
use Rattle.hdmi_cli.proofs.laws.noticed_or_not.Goals as goal

pub returns : goal.returns
returns c = λ t s y slipped. noticed_or_not t s
