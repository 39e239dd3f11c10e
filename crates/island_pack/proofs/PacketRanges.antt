-- What a packet's types give: its header and its bodies are bytes, so that its sync values decide.
use Rattle.std.proofs.Common.{◌≡◌, ℕ, suc, ◌<◌, All, Bool, true, ◌&&◌, List, [], ◌∷◌, length, refl, ap₂, arith, lt-ltb, eq-eqb}
use Rattle.std.specs.Prelude.{nat_lt}
use Rattle.std.specs.List.{list_all}
use Rattle.island_pack.specs.Conforming.{are_bytes, is_packet}
use Rattle.island_pack.specs.declared.packet.Packet.{Packet}

all_bytes : (bytes : List ℕ) → All (λ byte. byte < 256) bytes → are_bytes bytes ≡ true
all_bytes [] h = refl
all_bytes (b ∷ bytes) h = ap₂ (λ a c. a && c) (lt-ltb b 256 (h 0 0 (omega arith))) (all_bytes bytes (λ k d lt. h (suc k) d (omega arith)))

pub packet_is : (p : Packet) (v : Bool) → length p.header ≡ 3 → All (λ byte. byte < 256) p.header → length p.bodies ≡ 28 → All (λ byte. byte < 256) p.bodies → length p.sync ≡ 32 → v ≡ list_all (λ value. nat_lt value 4) p.sync → v ≡ is_packet p
unfolding is_packet
packet_is p v header header_bytes bodies body_bytes sync e = grind (arith, eq-eqb, all_bytes)
