use Rattle.island_pack.proofs.Repaired.{packet_is, verdicts_are}
use Rattle.island_pack.proofs.laws.taken_is_one.Goals as goal

pub returns : goal.returns
returns c = λ packet verdicts columns long t. (packet_is columns packet verdicts long t, verdicts_are columns packet verdicts long t)
