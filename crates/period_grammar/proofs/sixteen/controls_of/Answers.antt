use Rattle.std.proofs.Common.{eqb, bit_and, bit_xor}
use Rattle.tmds_code.proofs.Vectors.{own, splat, zipped, chosen, sub}
use Rattle.period_grammar.proofs.Controls.{controls_are}
use Rattle.period_grammar.proofs.sixteen.controls_of.Goals as goal

pub returns : goal.returns
returns c = λ ws words.
    let low = own c.args.low c.fits-low.0 in
    let high = own c.args.high c.fits-high.0 in
    controls_are ws c.args.low c.args.high _ words
    (chosen eqb 255 0 (zipped bit_xor (zipped bit_xor low (splat 171)) (zipped sub (splat 0) (zipped bit_and high (splat 1)))) (splat 0))
