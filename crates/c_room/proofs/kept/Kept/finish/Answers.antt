use Rattle.std.proofs.Common.{refl}
use Rattle.c_room.proofs.kept.Kept.finish.Goals as goal

pub returns-then-not-is_open-clause-refused : goal.returns-then-not-is_open-clause-refused
returns-then-not-is_open-clause-refused c = λ _. (refl, refl, c.refused.ensures.counts)

pub returns-then-not-can_finish-clause-refused : goal.returns-then-not-can_finish-clause-refused
returns-then-not-can_finish-clause-refused c = λ _. (refl, refl, c.refused-then-not-can_finish.ensures.counts)
