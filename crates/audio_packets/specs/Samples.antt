-- Packets of two-channel audio samples: HDMI 1.4, section 5.3.4. The bits of a side are those of time slots 4 to 31 of a
-- subframe of IEC 60958-1, section 4.1: 24 of the value, then validity (V), user data (U), channel status (C), parity (P).
use Rattle.std.specs.Prelude.{◌≡◌, ℕ, ◌+◌, ◌-◌, ◌*◌, ◌/◌, ◌%◌, ◌^◌, ◌<◌, Bool, true, List, [], ◌∷◌, ◌++◌, Result, Ok, Err, length, map, filter, replicate, slice_index, drop, count_ones, ◌&&◌, ◌==◌, if◌then◌else◌}
use Rattle.std.specs.Int.{bit_at}
use Rattle.std.specs.List.{flat_map, enumerate_from}
use Rattle.tmds_word.specs.Bits.{number}
use Rattle.bch_block.specs.Bits.{bit}
use Rattle.island_pack.specs.Packets.{body_of}
use Rattle.island_pack.specs.declared.packet.Packet.{Packet}
use Rattle.island_pack.specs.declared.packet.PacketVerdicts.{PacketVerdicts}
use Rattle.island_pack.specs.Taken.{first_lost}
use Rattle.audio_packets.specs.Faults.{unless_lost}
use Rattle.audio_packets.specs.declared.sample.Sample.{Sample}
use Rattle.audio_packets.specs.declared.sample.SampleNote.{SampleNote}
use Rattle.audio_packets.specs.declared.fault.AudioFault.{AudioFault}
use Rattle.audio_packets.specs.declared.fault.AudioFault.TheVariants.{Layout}

abbrev pub IsSamplePacket : Packet → Type 0
IsSamplePacket packet = slice_index packet.header 0 ≡ 2

-- values of 24 bits, and V, U and C of each side
pub record IsSample (sample : Sample) : Type 0 where
  pub left : sample.left < 2 ^ 24
  pub right : sample.right < 2 ^ 24
  pub left_flags : sample.left_flags < 8
  pub right_flags : sample.right_flags < 8

-- bits 0 to 3 of header byte 1 say which bodies are present
abbrev pub is_present : Packet → ℕ → Bool
is_present packet place = bit (slice_index packet.header 1) place

-- bit 4 of header byte 1 is the layout: 0 of two channels, 1 of up to eight
abbrev pub has_many_channels : Packet → Bool
has_many_channels packet = bit (slice_index packet.header 1) 4

-- a value of 24 bits, its lowest byte first
abbrev pub value_at : List ℕ → ℕ → ℕ
value_at body i = slice_index body i + 256 * slice_index body (i + 1) + 65536 * slice_index body (i + 2)

-- V plus 2U plus 4C of the side whose four bits begin at a bit of a byte
abbrev pub flags_at : ℕ → ℕ → ℕ
flags_at byte i = bit_at byte i + 2 * bit_at byte (i + 1) + 4 * bit_at byte (i + 2)

-- P is the bit after them
abbrev pub parity_at : ℕ → ℕ → ℕ
parity_at byte i = bit_at byte (i + 3)

-- whether the number of ones among the 24 value bits, V, U, C and P is even
abbrev pub is_even : ℕ → ℕ → ℕ → Bool
is_even value flags parity = (count_ones value + count_ones flags + parity) % 2 == 0

-- the sample of a body: the left value is in bytes 0 to 2, the right one in bytes 3 to 5; byte 6 has V, U, C and P of the
-- left side in bits 0 to 3 and of the right one in bits 4 to 7; bit 4 + i of header byte 2 is set where body i starts a
-- block of channel status, bit i where it is flat
abbrev pub sample_at : Packet → ℕ → Sample
sample_at packet place = record {
  left = value_at (body_of packet place) 0;
  right = value_at (body_of packet place) 3;
  left_flags = flags_at (slice_index (body_of packet place) 6) 0;
  right_flags = flags_at (slice_index (body_of packet place) 6) 4;
  start = bit (slice_index packet.header 2) (4 + place);
  flat = bit (slice_index packet.header 2) place;
}

-- and whether each side is even
abbrev pub note_at : Packet → ℕ → SampleNote
note_at packet place = record {
  place = place;
  sample = sample_at packet place;
  left_even = is_even (sample_at packet place).left (sample_at packet place).left_flags (parity_at (slice_index (body_of packet place) 6) 0);
  right_even = is_even (sample_at packet place).right (sample_at packet place).right_flags (parity_at (slice_index (body_of packet place) 6) 4);
}

-- a packet of these header bytes and bodies: what it is read as does not depend on its sync values
abbrev pub packet_with : List ℕ → List ℕ → Packet
packet_with header bodies = record { header = header; bodies = bodies; sync = [] }

-- the samples of the bodies whose bits a mask has, from a body on
abbrev pub notes_from : Packet → ℕ → ℕ → List SampleNote
notes_from packet mask place = map (note_at packet) (filter (bit mask) (drop place (0 ∷ 1 ∷ 2 ∷ 3 ∷ [])))

-- the samples of the present bodies, from a body on
abbrev pub samples_from : Packet → ℕ → List SampleNote
samples_from packet place = notes_from packet (slice_index packet.header 1) place

-- what an audio sample packet is read as
abbrev pub samples_of : Packet → PacketVerdicts → Result (List SampleNote) AudioFault
samples_of packet verdicts =
    unless_lost (first_lost verdicts) (if has_many_channels packet then Err Layout else Ok (samples_from packet 0))

-- whether a body is present and has samples of a pair of channels, by header byte 1: with layout 0 all bodies have those of
-- pair 0, with layout 1 each body those of the pair of its number (which pair it has is own)
abbrev pub has_pair : ℕ → ℕ → ℕ → Bool
has_pair present pair place = bit present place && (if bit present 4 then place == pair else pair == 0)

-- what an audio sample packet is read as for one pair of channels
abbrev pub pair_of : Packet → PacketVerdicts → ℕ → Result (List SampleNote) AudioFault
pair_of packet verdicts pair =
    unless_lost (first_lost verdicts)
    (Ok (map (note_at packet) (filter (has_pair (slice_index packet.header 1) pair) (0 ∷ 1 ∷ 2 ∷ 3 ∷ []))))

-- V, U, C and the P that makes a side even
abbrev pub side_bits : ℕ → ℕ → ℕ
side_bits value flags = flags + 8 * ((count_ones value + count_ones flags) % 2)

-- the three bytes of a value, the lowest first
abbrev pub value_bytes : ℕ → List ℕ
value_bytes value = value % 256 ∷ value / 256 % 256 ∷ value / 65536 ∷ []

abbrev pub sample_body : Sample → List ℕ
sample_body sample =
    value_bytes sample.left ++ value_bytes sample.right
    ++ (side_bits sample.left sample.left_flags + 16 * side_bits sample.right sample.right_flags) ∷ []

-- each sample is in a body, from body 0 on
abbrev pub samples_header : List Sample → List ℕ
samples_header samples =
    2 ∷ number (map (λ _. true) samples) ∷ (number (map (λ s. s.flat) samples) + 16 * number (map (λ s. s.start) samples)) ∷ []

-- absent bodies are zeros
abbrev pub samples_bodies : List Sample → List ℕ
samples_bodies samples = flat_map sample_body samples ++ replicate (28 - 7 * length samples) 0

abbrev pub samples_packet : List Sample → List ℕ → Packet
samples_packet samples sync = record { header = samples_header samples; bodies = samples_bodies samples; sync = sync }

-- the sample at its place, both sides even
abbrev pub even_note : ℕ × Sample → SampleNote
even_note (place, sample) = record { place = place; sample = sample; left_even = true; right_even = true }

-- what is read of samples that were written
abbrev pub written_notes : List Sample → List SampleNote
written_notes samples = map even_note (enumerate_from 0 samples)
