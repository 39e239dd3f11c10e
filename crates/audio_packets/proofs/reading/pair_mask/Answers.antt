use Rattle.std.proofs.Common.{◌∙◌, sym}
use Rattle.audio_packets.proofs.Pairs.{masked_pair}
use Rattle.audio_packets.proofs.reading.pair_mask.Goals as goal

pub returns-then-has_bit : goal.returns-then-has_bit
returns-then-has_bit c =
    masked_pair c.args.present c.args.pair c.ranges.present.fits c.requires (sym c.has_bit.ensures ∙ c.if-has_bit.true)
