use Rattle.std.proofs.Common.{◌/◌, ◌^◌, ltb, eqb, bit_and, bit_xor}
use Rattle.tmds_code.proofs.Vectors.{own, splat, zipped, chosen, add, sub}
use Rattle.tmds_code.proofs.sixteen.rights_of.Goals as goal

pub returns : goal.returns
returns c =
    let low = own c.args.low c.fits-low.0 in
    let high = own c.args.high c.fits-high.0 in
    let counts = own c.args.counts c.fits-counts.0 in
    let before = own c.args.before c.fits-before.0 in
    let x = zipped bit_xor low (chosen ltb 255 0 (splat 1) high) in
    let y = zipped bit_xor x (zipped add x x) in
    let many = zipped add (zipped add counts (zipped bit_and y (splat 16))) (splat 64) in
    let u = zipped sub (zipped bit_and counts (splat 15)) (splat 4) in
    let minus = chosen ltb 255 0 before (splat 128) in
    let some = chosen eqb 0 255 before (splat 128) in
    let signed = zipped bit_and (zipped sub (zipped bit_xor u minus) minus) some in
    let e = zipped bit_and (zipped bit_xor high (zipped (λ a b. a / 2 ^ b) high (splat 1))) (splat 1) in
    zipped bit_and (zipped sub signed e) (zipped bit_xor many (splat 255))
