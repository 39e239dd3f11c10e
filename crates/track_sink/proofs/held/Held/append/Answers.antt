use Rattle.std.proofs.Common.{arith}
use Rattle.std.proofs.lemmas.List.{with_items_is}
use Rattle.track_sink.proofs.Shifting.{length_held, moved_first}
use Rattle.track_sink.proofs.held.Held.append.Goals as goal

pub put_at-requires-clause-room : goal.put_at-requires-clause-room
put_at-requires-clause-room c = grind (arith, length_held)

pub invariant_of-self : goal.invariant_of-self
invariant_of-self c = grind (arith, with_items_is, length_held)

pub returns : goal.returns
returns c = grind (arith, with_items_is, moved_first)
