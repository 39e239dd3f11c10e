-- One column more in a stream without guard columns.
use Rattle.std.proofs.Common.{[], refl}
use Rattle.period_grammar.specs.Gains.{Gain, GrowsBy}
use Rattle.dvi_hearing.specs.DviHeard.{dvi_gaps}

abbrev pub no_gain : Gain
no_gain b n c control gap = []

pub dvi_grows : GrowsBy dvi_gaps no_gain
dvi_grows = record { one = λ b control c. refl; more = λ b n control x gap c e. refl }
