use Rattle.lane_track.proofs.Sevens.{beside_bit, beside_few}
use Rattle.lane_track.proofs.ahead.beside.Goals as goal

pub returns-clause-masked : goal.returns-clause-masked
returns-clause-masked c = λ k lt apart. beside_bit c.args.phase k c.requires lt apart

pub returns-clause-few : goal.returns-clause-few
returns-clause-few c = beside_few c.args.phase c.requires
