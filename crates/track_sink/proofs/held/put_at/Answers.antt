use Rattle.std.proofs.Common.{length-drop, arith}
use Rattle.std.proofs.lemmas.List.{length-take-le}
use Rattle.track_sink.proofs.Shifting.{put_into}
use Rattle.track_sink.proofs.held.put_at.Goals as goal

pub returns : goal.returns
returns c = grind (arith, length-drop, put_into, length-take-le)
