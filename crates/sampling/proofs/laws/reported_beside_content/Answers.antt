use Rattle.sampling.proofs.Beside.{reported_beside_content}
use Rattle.sampling.proofs.laws.reported_beside_content.Goals as goal

pub returns : goal.returns
returns c = reported_beside_content
