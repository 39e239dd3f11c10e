use Rattle.std.proofs.Common.{arith}
use Rattle.biphase_listing.proofs.LineDigits.{last_is}
use Rattle.biphase_listing.proofs.frame_line.last_part.Goals as goal

pub returns : goal.returns
returns c = grind (arith, last_is)
