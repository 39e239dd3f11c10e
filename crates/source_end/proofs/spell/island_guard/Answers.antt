use Rattle.terc4.specs.Tables.{island_guard}
use Rattle.source_end.proofs.spell.island_guard.Goals as goal

pub returns : goal.returns
unfolding island_guard
returns c = λ i. record { blue = c.terc.ensures i; green = c.of.ensures i; red = c.of-2.ensures i }
