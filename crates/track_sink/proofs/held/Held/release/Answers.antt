use Rattle.std.proofs.Common.{arith}
use Rattle.std.proofs.lemmas.List.{with_items_is}
use Rattle.track_sink.proofs.Shifting.{length_held, less_held, settled_first, settled_rest, front_held}
use Rattle.track_sink.proofs.held.Held.release.Goals as goal

pub returns-clause-bits : goal.returns-clause-bits
returns-clause-bits c = grind (arith, length_held, with_items_is, settled_rest, less_held)

pub returns-clause-released : goal.returns-clause-released
returns-clause-released c = grind (arith, length_held, with_items_is, settled_first, front_held)
