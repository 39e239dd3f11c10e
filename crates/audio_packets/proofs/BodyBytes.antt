-- The bytes of a packet's bodies.
use Rattle.std.proofs.Common.{◌≡◌, ℕ, ◌+◌, ◌*◌, ◌<◌, drop, get_or, ◌∙◌}
use Rattle.std.proofs.lemmas.List.{get_or-drop, get_or-take}
use Rattle.island_pack.specs.Packets.{body_of}
use Rattle.island_pack.specs.declared.packet.Packet.{Packet}

pub get_or-body_of : (packet : Packet) (b i : ℕ) → i < 7 → get_or (body_of packet b) i 0 ≡ get_or packet.bodies (7 * b + i) 0
get_or-body_of packet b i lt = get_or-take 7 (drop (7 * b) packet.bodies) i 0 lt ∙ get_or-drop (7 * b) packet.bodies i 0
