use Rattle.std.proofs.Common.{arith}
use Rattle.tmds_word.specs.Bits.{bytes_bits}
use Rattle.lane_edges.proofs.Passing.{has_repeated}
use Rattle.lane_edges.proofs.stretches.passed_controls.Goals as goal

pub returns-clause-repeated : goal.returns-clause-repeated
returns-clause-repeated c =
    has_repeated (bytes_bits c.args.bytes.now) c.args.place c.repeated_until-at.result _ c.requires.before c.repeated_until-at.ensures.after c.repeated_until-at.ensures.same
    (omega (arith, c.saturating_sub.ensures))
