use Rattle.std.proofs.Common.{◌≡◌, ◌*◌, ◌-◌, ◌++◌, take, replicate}
use Rattle.std.specs.List.{flat_map}
use Rattle.audio_packets.specs.Samples.{sample_body}
use Rattle.audio_packets.proofs.writing.bodies_of.Given as goal

abbrev pub invariant-loop-place : goal.invariant-loop-place
invariant-loop-place l = l.bodies ≡ flat_map sample_body (take l.place l.samples) ++ replicate (28 - 7 * l.place) 0
