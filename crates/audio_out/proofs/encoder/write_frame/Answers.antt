use Rattle.std.proofs.Common.{arith}
use Rattle.audio_out.specs.Frames.{frame_bytes}
use Rattle.audio_out.proofs.Frames.{put_joined, length-subframe}
use Rattle.audio_out.proofs.encoder.write_frame.Goals as goal

pub returns : goal.returns
unfolding frame_bytes
returns c = grind (arith, put_joined, length-subframe)
