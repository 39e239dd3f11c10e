use Rattle.std.proofs.Common.{bit_and, bit_or}
use Rattle.tmds_code.proofs.Vectors.{own, zipped}
use Rattle.period_grammar.proofs.Controls.{column_mask}
use Rattle.period_grammar.proofs.sixteen.control_columns.Goals as goal

pub returns : goal.returns
returns c = λ bs gs rs blue green red.
    let b = own c.args.blue c.fits-blue.0 in
    let g = own c.args.green c.fits-green.0 in
    let r = own c.args.red c.fits-red.0 in
    column_mask c.args.blue c.args.green c.args.red _ bs gs rs blue green red
    (zipped bit_or (zipped bit_and b g) (zipped bit_and (zipped bit_or b g) r))
