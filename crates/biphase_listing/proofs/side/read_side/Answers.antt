use Rattle.std.proofs.Common.{arith}
use Rattle.audio_out.proofs.Spelled.{one_reading}
use Rattle.biphase_listing.proofs.side.read_side.Goals as goal

pub returns-else-is_right-right : goal.returns-else-is_right-right
returns-else-is_right-right c = grind (arith, one_reading)
