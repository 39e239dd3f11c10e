use Rattle.std.proofs.Common.{arith}
use Rattle.std.proofs.lemmas.Option.{slice_get-map}
use Rattle.dvi_hearing.proofs.hearing.DviHearing.reported.Goals as goal

pub returns : goal.returns
returns c = grind (arith, slice_get-map)
