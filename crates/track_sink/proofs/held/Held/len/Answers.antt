use Rattle.std.proofs.Common.{◌∙◌, ap, sym, length, arith}
use Rattle.track_sink.specs.Buffers.{HeldSeen}
use Rattle.track_sink.proofs.Shifting.{length_held}
use Rattle.track_sink.proofs.held.Held.len.Goals as goal

pub returns-clause-len : goal.returns-clause-len
returns-clause-len c =
    let v = c.self.inside in
    sym (length_held v.bytes.items v.start v.count (omega (arith, c.self.invariant))) ∙ ap (λ (h : HeldSeen). length h.bits) c.self.view_is
