use Rattle.std.proofs.Common.{◌*◌, ◌^◌, ◌%◌, ap₂, ◌∙◌, bit_or}
use Rattle.track_sink.proofs.Shifting.{or_is_sum}
use Rattle.track_sink.proofs.held.joined.Goals as goal

pub returns : goal.returns
returns c =
    ap₂ (λ x y. bit_or (x * 2 ^ c.args.few % 65536) y) c.from.ensures c.from-2.ensures
    ∙ or_is_sum c.args.left c.args.few c.args.byte c.requires.narrow c.ranges.byte.fits c.requires.few
