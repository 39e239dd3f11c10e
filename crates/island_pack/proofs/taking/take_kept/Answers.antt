use Rattle.island_pack.proofs.Repaired.{packet_is, verdicts_are}
use Rattle.island_pack.proofs.taking.take_kept.Goals as goal

pub returns-clause-packet : goal.returns-clause-packet
returns-clause-packet c = packet_is c.args.columns.now _ _ c.taken.ensures.columns c.taken.ensures.taken

pub returns-clause-verdicts : goal.returns-clause-verdicts
returns-clause-verdicts c = verdicts_are c.args.columns.now _ _ c.taken.ensures.columns c.taken.ensures.taken
