use Rattle.std.proofs.Common.{arith, ap, ◌∙◌, ◌+◌}
use Rattle.tmds_word.specs.Bits.{bit}
use Rattle.lane_align.proofs.Quick.{all_left}
use Rattle.lane_align.proofs.Others.{others_bit}
use Rattle.lane_align.proofs.search.marks_of.Goals as goal

pub returns : goal.returns
returns c = λ k lt apart one ten twenty.
    let places = c.control_places-controls.ensures in
    all_left c.control_places-controls.result c.others.result k
    (places k (omega arith) ∙ one) (places (k + 10) (omega arith) ∙ ten) (places (k + 20) (omega arith) ∙ twenty)
    (ap (λ m. bit m k) c.others.ensures ∙ others_bit c.args.phase k c.requires lt apart)
