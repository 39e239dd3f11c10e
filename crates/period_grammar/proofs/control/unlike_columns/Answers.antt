use Rattle.std.proofs.Common.{◌∙◌}
use Rattle.period_grammar.proofs.Eights.{unlike_mask}
use Rattle.period_grammar.proofs.control.unlike_columns.Goals as goal

pub returns : goal.returns
returns c =
    unlike_mask (record { blue = c.value-b.result; green = c.value-g.result; red = c.value-r.result }) _ c.args.blue c.args.green c.args.red c.fits-blue.0 c.fits-green.0 c.fits-red.0
    (λ i. record { blue = (c.value-b.ensures.value ∙ c.blue.ensures) i; green = (c.value-g.ensures.value ∙ c.green.ensures) i; red = (c.value-r.ensures.value ∙ c.red.ensures) i })
