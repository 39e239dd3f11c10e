use Rattle.std.proofs.Common.{arith}
use Rattle.listing_reader.proofs.OpenPeriods.{announces}
use Rattle.listing_reader.proofs.periods.Periods.announces_island.Goals as goal

pub returns : goal.returns
returns g c = grind (arith, announces)
