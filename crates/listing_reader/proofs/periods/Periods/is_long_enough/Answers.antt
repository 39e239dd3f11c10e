use Rattle.std.proofs.Common.{arith}
use Rattle.listing_reader.proofs.OpenPeriods.{long_enough}
use Rattle.listing_reader.proofs.periods.Periods.is_long_enough.Goals as goal

pub returns : goal.returns
returns g c = grind (arith, long_enough)
