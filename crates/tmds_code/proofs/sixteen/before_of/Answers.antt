use Rattle.std.proofs.Common.{refl}
use Rattle.tmds_code.specs.Vectors.{fives}
use Rattle.tmds_code.proofs.Vectors.{own, zipped, add, sub}
use Rattle.tmds_code.proofs.sixteen.before_of.Goals as goal

pub returns : goal.returns
returns c = zipped add (zipped add (own c.args.carry c.fits-carry.0) (own fives refl)) (zipped sub (own c.args.sums c.fits-sums.0) (own c.args.ones c.fits-ones.0))
