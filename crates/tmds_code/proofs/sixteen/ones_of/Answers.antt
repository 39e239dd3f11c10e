use Rattle.std.proofs.Common.{ltb, bit_and}
use Rattle.tmds_code.proofs.Vectors.{own, splat, zipped, chosen, add, sub}
use Rattle.tmds_code.proofs.sixteen.ones_of.Goals as goal

pub returns : goal.returns
returns c =
    let counts = own c.args.counts c.fits-counts.0 in
    let high = own c.args.high c.fits-high.0 in
    zipped sub (zipped add (zipped bit_and counts (splat 15)) (zipped bit_and high (splat 1))) (chosen ltb 255 0 (splat 1) high)
