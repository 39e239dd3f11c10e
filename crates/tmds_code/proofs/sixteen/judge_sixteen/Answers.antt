use Rattle.tmds_code.proofs.Decoded.{bytes_are}
use Rattle.tmds_code.proofs.Following.{wrong_mask, sums_are_ones}
use Rattle.tmds_code.proofs.sixteen.judge_sixteen.Goals as goal

pub returns-clause-bytes : goal.returns-clause-bytes
returns-clause-bytes c = λ ws words. bytes_are ws c.args.low c.args.high _ words c.bytes_of.ensures

pub returns-clause-wrong : goal.returns-clause-wrong
returns-clause-wrong c = λ ws words.
    wrong_mask ws c.args.low c.args.high c.counts_of-counts.result c.ones_of-ones.result c.sums-total.result c.before_of-before.result c.rights_of-rights.result c.args.step
    words c.requires c.counts_of-counts.ensures c.ones_of-ones.ensures c.sums-total.ensures c.before_of-before.ensures c.rights_of-rights.ensures

pub returns-clause-ones : goal.returns-clause-ones
returns-clause-ones c = λ ws words k l.
    sums_are_ones ws c.args.low c.args.high c.counts_of-counts.result c.ones_of-ones.result c.sums-total.result words c.counts_of-counts.ensures c.ones_of-ones.ensures c.sums-total.ensures k l
