use Rattle.std.proofs.Common.{refl}
use Rattle.period_grammar.specs.Cut.{stretches}
use Rattle.dvi_hearing.proofs.hearing.DviHearing.open.Goals as goal

pub returns-clause-heard : goal.returns-clause-heard
unfolding stretches
returns-clause-heard c = record { columns = refl; stretch = (c.new.ensures.heard, tt) }
