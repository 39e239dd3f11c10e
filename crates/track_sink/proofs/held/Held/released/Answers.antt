use Rattle.std.proofs.Common.{length-drop, arith}
use Rattle.std.proofs.lemmas.List.{length-take-le}
use Rattle.track_sink.proofs.Shifting.{released_bits, length_held}
use Rattle.track_sink.proofs.held.Held.released.Goals as goal

pub returns-clause-bits : goal.returns-clause-bits
returns-clause-bits c = grind (arith, released_bits)

pub returns-clause-size : goal.returns-clause-size
returns-clause-size c = grind (arith, length_held, length-take-le, length-drop)
