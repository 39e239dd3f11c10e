-- What is read of packets that were written.
use Rattle.std.specs.Prelude.{◌≡◌, ℕ, ◌≤◌, List, None, Ok, length, All}
use Rattle.island_pack.specs.Packets.{IsPacket}
use Rattle.island_pack.specs.declared.packet.Packet.{Packet}
use Rattle.island_pack.specs.declared.packet.PacketVerdicts.{PacketVerdicts}
use Rattle.island_pack.specs.Taken.{first_lost}
use Rattle.audio_packets.specs.Clock.{IsAcr, acr_of, acr_packet}
use Rattle.audio_packets.specs.Samples.{IsSample, samples_from, samples_of, samples_packet, written_notes}
use Rattle.audio_packets.specs.declared.clock.Acr.{Acr}
use Rattle.audio_packets.specs.declared.sample.Sample.{Sample}

-- clock numbers that were written are read, where no block is lost
abbrev pub WrittenAcrIsRead : Type 0
WrittenAcrIsRead =
    (acr : Acr) (sync : List ℕ) (verdicts : PacketVerdicts)
    → IsAcr acr → first_lost verdicts ≡ None → acr_of (acr_packet acr sync) verdicts ≡ Ok acr

-- samples that were written are read, each at its own place and both its sides even, where no block is lost
abbrev pub WrittenSamplesAreRead : Type 0
WrittenSamplesAreRead =
    (samples : List Sample) (sync : List ℕ) (verdicts : PacketVerdicts)
    → 1 ≤ length samples → length samples ≤ 4 → All IsSample samples → first_lost verdicts ≡ None
    → samples_of (samples_packet samples sync) verdicts ≡ Ok (written_notes samples)

-- what is read of a packet can be written: values of 24 bits and flags of three
abbrev pub ReadSamplesFit : Type 0
ReadSamplesFit = (packet : Packet) (place : ℕ) → IsPacket packet → All (λ note. IsSample note.sample) (samples_from packet place)
