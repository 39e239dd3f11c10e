use Rattle.link_laws.proofs.PeriodLaws.{video_law}
use Rattle.link_laws.proofs.link.video_law.Goals as goal

pub returns : goal.returns
returns c = video_law
