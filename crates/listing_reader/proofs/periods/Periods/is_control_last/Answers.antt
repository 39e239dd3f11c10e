use Rattle.std.proofs.Common.{arith}
use Rattle.listing_reader.proofs.OpenPeriods.{control_last}
use Rattle.listing_reader.proofs.periods.Periods.is_control_last.Goals as goal

pub returns : goal.returns
returns g c = grind (arith, control_last)
