use Rattle.std.proofs.Common.{◌-◌, arith, length-drop}
use Rattle.std.proofs.lemmas.List.{take_all}
use Rattle.lane_align.proofs.Keeping.{last_written}
use Rattle.lane_align.proofs.seeking.last_of.Goals as goal

pub returns : goal.returns
returns c = grind (arith, last_written, take_all, length-drop)
