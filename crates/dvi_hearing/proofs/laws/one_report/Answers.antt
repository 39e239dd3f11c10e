use Rattle.dvi_hearing.proofs.OneAnswer.{one_report}
use Rattle.dvi_hearing.proofs.laws.one_report.Goals as goal

pub returns : goal.returns
returns c = one_report
