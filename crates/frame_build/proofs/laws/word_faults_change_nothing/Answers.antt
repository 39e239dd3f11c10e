use Rattle.frame_build.proofs.FrameLaws.{word_fault-stands}
use Rattle.frame_build.proofs.WordFaults.{frame_at-fault, line_at-fault}
use Rattle.frame_build.proofs.laws.word_faults_change_nothing.Goals as goal

pub returns-clause-frames : goal.returns-clause-frames
returns-clause-frames c = frame_at-fault

pub returns-clause-lines : goal.returns-clause-lines
returns-clause-lines c = line_at-fault

pub returns-clause-states : goal.returns-clause-states
returns-clause-states c = word_fault-stands
