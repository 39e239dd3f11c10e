use Rattle.std.proofs.Common.{arith}
use Rattle.listing_reader.proofs.ContentLines.{spd_seen}
use Rattle.listing_reader.proofs.content_digits.spd.Goals as goal

pub returns-clause-form : goal.returns-clause-form
returns-clause-form c = grind (arith, spd_seen)
