use Rattle.std.proofs.Common.{arith}
use Rattle.audio_out.proofs.Frames.{stream_more}
use Rattle.audio_out.proofs.encoder.Encoder.push.Goals as goal
use Rattle.audio_out.proofs.encoder.Encoder.push.Goals.{then-self, else-self}

pub returns-clause-written : goal.returns-clause-written
returns-clause-written c = grind (arith, then-self, else-self, stream_more)
