use Rattle.std.proofs.Common.{◌∙◌, sym, ap, length}
use Rattle.capture_file.proofs.Rooms.{length-front}
use Rattle.capture_file.proofs.chunk.Chunk.len.Goals as goal

pub returns : goal.returns
returns c = sym (ap length (sym c.self.view_is) ∙ length-front c.self.inside.bytes c.self.inside.count c.self.invariant.size c.self.invariant.few)
