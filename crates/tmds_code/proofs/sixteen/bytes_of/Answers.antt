use Rattle.std.proofs.Common.{◌+◌, ◌-◌, ◌%◌, ◌^◌, ltb, bit_and, bit_xor}
use Rattle.tmds_code.proofs.Vectors.{own, splat, zipped, chosen}
use Rattle.tmds_code.proofs.sixteen.bytes_of.Goals as goal

pub returns : goal.returns
returns c =
    let low = own c.args.low c.fits-low.0 in
    let high = own c.args.high c.fits-high.0 in
    let x = zipped bit_xor low (chosen ltb 255 0 (splat 1) high) in
    let y = zipped bit_xor x (zipped (λ a b. (a + b) % 2 ^ 8) x x) in
    zipped bit_xor y (zipped bit_and (zipped (λ a b. (a + (2 ^ 8 - b)) % 2 ^ 8) (zipped bit_and high (splat 1)) (splat 1)) (splat 254))
