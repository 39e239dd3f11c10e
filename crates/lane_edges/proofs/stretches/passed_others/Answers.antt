use Rattle.tmds_word.specs.Bits.{bytes_bits}
use Rattle.lane_edges.proofs.Passing.{has_fewer}
use Rattle.lane_edges.proofs.stretches.passed_others.Goals as goal

pub returns-clause-others : goal.returns-clause-others
returns-clause-others c =
    has_fewer (bytes_bits c.args.bytes.now) c.args.place c.spread_others-spread.result c.until_three_others.result c.until_three_others.ensures.within c.until_three_others.ensures.ends
    c.spread_others-spread.ensures.others
