use Rattle.std.proofs.Common.{arith, eq-eqb}
use Rattle.audio_out.proofs.Entries.{level_is, cells_are}
use Rattle.audio_out.proofs.tables.cells.Goals as goal

pub returns : goal.returns
returns c = grind (arith, level_is, cells_are, eq-eqb)
