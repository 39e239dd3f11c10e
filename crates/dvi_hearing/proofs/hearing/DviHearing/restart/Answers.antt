use Rattle.std.proofs.Common.{refl}
use Rattle.period_grammar.specs.Cut.{stretches}
use Rattle.dvi_hearing.proofs.hearing.DviHearing.restart.Goals as goal

pub returns-clause-heard : goal.returns-clause-heard
unfolding stretches
returns-clause-heard c = record { columns = refl; stretch = (c.new-self-inside.ensures.heard, tt) }
