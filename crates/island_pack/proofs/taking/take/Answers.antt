use Rattle.std.proofs.Common.{ap, ◌∙◌}
use Rattle.island_pack.specs.Repaired.{packet_in, verdicts_in}
use Rattle.island_pack.proofs.taking.take.Goals as goal

pub returns-clause-packet : goal.returns-clause-packet
returns-clause-packet c = c.take_kept.ensures.packet ∙ ap packet_in c.of.ensures

pub returns-clause-verdicts : goal.returns-clause-verdicts
returns-clause-verdicts c = c.take_kept.ensures.verdicts ∙ ap verdicts_in c.of.ensures
