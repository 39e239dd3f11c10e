use Rattle.std.proofs.Common.{◌≡◌, ℕ, ◌*◌, ◌+◌, ◌<◌, get_or, ap, sym, ◌∙◌, arith}
use Rattle.island_pack.specs.Packets.{body_of}
use Rattle.audio_packets.specs.Samples.{packet_with}
use Rattle.audio_packets.proofs.BodyBytes.{get_or-body_of}
use Rattle.audio_packets.proofs.Notes.{flags_low, flags_high, parity_low, parity_high, note_is}
use Rattle.audio_packets.proofs.reading.note_at.Goals as goal

pub returns : goal.returns
returns c =
    let packet = packet_with c.args.header.now c.args.bodies.now in
    let place = c.args.place in
    let at : c.from-at.result ≡ place = c.from-at.ensures in
    let byte : (n i : ℕ) → i < 7 → n ≡ 7 * place + i → get_or c.args.bodies.now n 0 ≡ get_or (body_of packet place) i 0 =
    λ n i lt e. ap (λ k. get_or c.args.bodies.now k 0) e ∙ sym (get_or-body_of packet place i lt) in
    let b0 = byte (7 * c.from-at.result) 0 (omega arith) (omega arith) in
    let b1 = byte (7 * c.from-at.result + 1) 1 (omega arith) (omega arith) in
    grind (arith, note_is, flags_low, flags_high, parity_low, parity_high)
