-- Packets of audio clock regeneration: HDMI 1.4, section 5.3.3.
use Rattle.std.specs.Prelude.{◌≡◌, ℕ, ◌+◌, ◌*◌, ◌/◌, ◌%◌, ◌^◌, ◌<◌, Bool, List, [], ◌∷◌, ◌++◌, Result, Ok, Err, slice_index, if◌then◌else◌}
use Rattle.std.specs.List.{list_all}
use Rattle.std.specs.Str.{bytes_eq}
use Rattle.island_pack.specs.Packets.{body_of}
use Rattle.island_pack.specs.declared.packet.Packet.{Packet}
use Rattle.island_pack.specs.declared.packet.PacketVerdicts.{PacketVerdicts}
use Rattle.island_pack.specs.Taken.{first_lost}
use Rattle.audio_packets.specs.Faults.{unless_lost}
use Rattle.audio_packets.specs.declared.clock.Acr.{Acr}
use Rattle.audio_packets.specs.declared.fault.AudioFault.{AudioFault}
use Rattle.audio_packets.specs.declared.fault.AudioFault.TheVariants.{Uneven}

abbrev pub IsClockPacket : Packet → Type 0
IsClockPacket packet = slice_index packet.header 0 ≡ 1

-- both numbers have 20 bits
pub record IsAcr (acr : Acr) : Type 0 where
  pub n : acr.n < 2 ^ 20
  pub cts : acr.cts < 2 ^ 20

-- a number of 20 bits in three bytes: the first has the highest four bits, and its own highest four say nothing
abbrev pub twenty_bits : ℕ → ℕ → ℕ → ℕ
twenty_bits high middle low = 65536 * (high % 16) + 256 * middle + low

-- CTS is in bytes 1 to 3 of a body, N in bytes 4 to 6
abbrev pub clock_in : List ℕ → Acr
clock_in body = record {
  n = twenty_bits (slice_index body 4) (slice_index body 5) (slice_index body 6);
  cts = twenty_bits (slice_index body 1) (slice_index body 2) (slice_index body 3);
}

-- whether the four bodies are alike
abbrev pub are_alike : Packet → Bool
are_alike packet = list_all (λ place. bytes_eq (body_of packet place) (body_of packet 0)) (1 ∷ 2 ∷ 3 ∷ [])

-- what a packet of audio clock regeneration is read as
abbrev pub acr_of : Packet → PacketVerdicts → Result Acr AudioFault
acr_of packet verdicts =
    unless_lost (first_lost verdicts) (if are_alike packet then Ok (clock_in (body_of packet 0)) else Err Uneven)

-- the three bytes of a number of 20 bits
abbrev pub twenty_bit_bytes : ℕ → List ℕ
twenty_bit_bytes number = number / 65536 ∷ number / 256 % 256 ∷ number % 256 ∷ []

abbrev pub clock_body : Acr → List ℕ
clock_body acr = 0 ∷ (twenty_bit_bytes acr.cts ++ twenty_bit_bytes acr.n)

-- the packet of clock numbers: four bodies that are alike
abbrev pub acr_packet : Acr → List ℕ → Packet
acr_packet acr sync = record {
  header = 1 ∷ 0 ∷ 0 ∷ [];
  bodies = clock_body acr ++ clock_body acr ++ clock_body acr ++ clock_body acr;
  sync = sync;
}
