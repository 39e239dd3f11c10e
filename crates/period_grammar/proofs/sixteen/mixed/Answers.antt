use Rattle.period_grammar.proofs.Mixing.{pixels_are}
use Rattle.period_grammar.proofs.sixteen.mixed.Goals as goal

pub returns : goal.returns
returns c = pixels_are c.args.r c.args.g c.args.b c.fits-r.0 c.fits-g.0 c.fits-b.0
