use Rattle.std.proofs.Common.{List, ◌+◌, ◌-◌, length}
use Rattle.audio_packets.specs.declared.sample.Sample.{Sample}
use Rattle.biphase_listing.proofs.Stepping.{ListedTo}
use Rattle.biphase_listing.proofs.frame_lines.FrameLines.list.Given as goal

abbrev pub invariant-loop-place : goal.invariant-loop-place
invariant-loop-place l = (samples : List Sample) × ListedTo l.piece l.place l.initial.self l.self samples

abbrev pub decreases-loop-place : goal.decreases-loop-place
decreases-loop-place l = length l.piece + 1 - l.place
