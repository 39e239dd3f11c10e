use Rattle.tmds_code.proofs.Sums.{sums_are}
use Rattle.tmds_code.proofs.sixteen.sums.Goals as goal

pub returns : goal.returns
returns c = λ k l. sums_are c.args.v c.fits-v.0 k l
