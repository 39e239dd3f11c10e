use Rattle.frame_build.proofs.FrameLaws.{EndsFrame-reported, frame_at-ends}
use Rattle.frame_build.proofs.laws.frames_lie_between_changes.Goals as goal

pub returns-clause-reported : goal.returns-clause-reported
returns-clause-reported c = EndsFrame-reported

pub returns-clause-all : goal.returns-clause-all
returns-clause-all c = frame_at-ends
