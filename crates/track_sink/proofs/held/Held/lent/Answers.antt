use Rattle.std.proofs.Common.{arith}
use Rattle.std.proofs.lemmas.List.{take_rest}
use Rattle.track_sink.proofs.Shifting.{lent_bits, length_held}
use Rattle.track_sink.proofs.held.Held.lent.Goals as goal

pub returns-clause-bits : goal.returns-clause-bits
returns-clause-bits c = grind (arith, length_held, take_rest, lent_bits)

pub returns-clause-many : goal.returns-clause-many
returns-clause-many c = grind (arith, length_held)
