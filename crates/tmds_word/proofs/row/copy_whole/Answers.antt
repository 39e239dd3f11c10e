use Rattle.std.proofs.Common.{arith, ◌-◌}
use Rattle.std.proofs.lemmas.List.{take_rest}
use Rattle.tmds_word.proofs.Bytes.{whole_byte, shifted_byte}
use Rattle.tmds_word.proofs.Rows.{AreBytes}
use Rattle.tmds_word.proofs.row.copy_whole.Goals as goal

pub returns-then-from-eq0-clause-copied : goal.returns-then-from-eq0-clause-copied
returns-then-from-eq0-clause-copied c = grind (arith, AreBytes, whole_byte, take_rest)

pub returns-else-from-eq0-clause-copied : goal.returns-else-from-eq0-clause-copied
returns-else-from-eq0-clause-copied c = grind (arith, AreBytes, shifted_byte, take_rest)
