use Rattle.std.proofs.Common.{arith, refl}
use Rattle.tmds_code.specs.Lanes.{disparity_of}
use Rattle.tmds_code.proofs.coder.VideoCoder.new.Goals as goal

pub returns : goal.returns
unfolding disparity_of
returns c = record { lane = record { same_length = refl; coded = λ j lt. absurd (omega arith) }; disparity = refl }
