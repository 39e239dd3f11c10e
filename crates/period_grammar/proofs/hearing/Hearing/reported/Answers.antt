use Rattle.std.proofs.Common.{arith}
use Rattle.std.proofs.lemmas.Option.{slice_get-map}
use Rattle.period_grammar.proofs.hearing.Hearing.reported.Goals as goal

pub returns : goal.returns
returns c = grind (arith, slice_get-map)
