use Rattle.std.proofs.Common.{arith}
use Rattle.listing_reader.proofs.HexPairs.{near_digits}
use Rattle.listing_reader.proofs.digits.distance.Goals as goal

pub returns : goal.returns
returns c = near_digits c.args.byte c.saturating_add-letter.result c.min.result (omega (arith, c.ranges.byte.fits)) c.saturating_add-letter.ensures c.min.ensures
