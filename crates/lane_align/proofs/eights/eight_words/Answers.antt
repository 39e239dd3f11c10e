use Rattle.std.proofs.Common.{arith}
use Rattle.std.proofs.Math.Nat.{div-le_self}
use Rattle.lane_align.proofs.TwoGroups.{eight_are}
use Rattle.lane_align.proofs.eights.eight_words.Goals as goal

pub returns : goal.returns
returns c = grind (arith, div-le_self, eight_are)
