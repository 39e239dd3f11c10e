use Rattle.std.proofs.Common.{◌/◌, bit_and}
use Rattle.listing_reader.proofs.HexPairs.{letters, two_values}
use Rattle.listing_reader.proofs.digits.byte_of.Goals as goal

pub returns : goal.returns
returns c = two_values c.args.digits (bit_and (c.args.digits / 64) 257) c.requires.high c.requires.low (letters c.args.digits c.requires.high c.requires.low)
