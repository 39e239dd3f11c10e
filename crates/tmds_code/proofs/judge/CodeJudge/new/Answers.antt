use Rattle.std.proofs.Common.{refl}
use Rattle.tmds_code.specs.Lanes.{disparity_of}
use Rattle.tmds_code.proofs.judge.CodeJudge.new.Goals as goal

pub returns : goal.returns
unfolding disparity_of
returns c = record { count = refl; disparity = refl }
