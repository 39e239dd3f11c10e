-- Rows that were worked out by hand: packets of a Null packet, an AVI InfoFrame, clock numbers and a sample.
use Rattle.std.specs.Prelude.{◌≡◌, ℕ, ◌++◌, true, false, List, [], ◌∷◌, map, replicate, Ok, Err}
use Rattle.tmds_word.specs.Column.{Column}
use Rattle.bch_block.specs.Bits.{bits_of_bytes}
use Rattle.bch_block.specs.Block.{IsBlock}
use Rattle.island_pack.specs.Packets.{Carries}
use Rattle.island_pack.specs.Repaired.{packet_of, verdicts_of}
use Rattle.island_pack.specs.Spelling.{column_words}
use Rattle.island_pack.specs.Taken.{spotless}
use Rattle.island_pack.specs.declared.packet.Packet.{Packet}
use Rattle.infoframe.specs.Frames.{Frame, frame_of}
use Rattle.infoframe.specs.Written.{info_of}
use Rattle.infoframe.specs.declared.content.Info.TheVariants.{Avi}
use Rattle.infoframe.specs.declared.content.Avi.{Avi as AviFields}
use Rattle.infoframe.specs.declared.content.InfoFault.TheVariants.{Checksum}
use Rattle.audio_packets.specs.Clock.{acr_of, acr_packet}
use Rattle.audio_packets.specs.Samples.{samples_of, samples_packet}
use Rattle.audio_packets.specs.declared.clock.Acr.{Acr}
use Rattle.audio_packets.specs.declared.fault.AudioFault.TheVariants.{Uneven}
use Rattle.audio_packets.specs.declared.sample.Sample.{Sample}
use Rattle.audio_packets.specs.declared.sample.SampleNote.{SampleNote}
use Rattle.listing_reader.specs.InfoPackets.{info_packet, no_sync}

abbrev pub packet : List ℕ → List ℕ → Packet
packet header bodies = record { header = header; bodies = bodies; sync = no_sync }

abbrev pub zeros : ℕ → List ℕ
zeros n = replicate n 0

-- ---- a Null packet

abbrev pub null : Packet
null = packet (zeros 3) (zeros 28)

unfoldable pub null_columns : List Column
null_columns = record { blue = 0x29c; green = 0x29c; red = 0x29c } ∷ replicate 31 (record { blue = 0x2cc; green = 0x29c; red = 0x29c })

-- these 32 columns carry the first packet of an island, and that is taken of them with no fault
pub record IsNull : Type 0 where
  pub carries : Carries null true (map column_words null_columns)
  pub taken : packet_of null_columns ≡ null
  pub spotless_is : verdicts_of null_columns ≡ spotless

-- ---- an AVI InfoFrame: R is 8 and VIC is 1

abbrev pub avi : AviFields
avi = record { s = 0; b = 0; a = 0; y = 0; r = 8; m = 0; c = 0; sc = 0; q = 0; ec = 0; itc = 0; vic = 1; pr = 0; bars = zeros 4 }

abbrev pub avi_packet : ℕ → Packet
avi_packet checksum = packet (0x82 ∷ 2 ∷ 0x0d ∷ []) (checksum ∷ 0 ∷ 8 ∷ 0 ∷ 1 ∷ zeros 23)

abbrev pub avi_frame : Frame
avi_frame = record { type_code = 0x82; version = 2; payload = 0 ∷ 8 ∷ 0 ∷ 1 ∷ zeros 9 }

-- the packet that says it, its parity bytes, what it is read as, and what the same with PB0 67 is read as
pub record IsAvi : Type 0 where
  pub written : info_packet (Avi avi) ≡ avi_packet 0x66
  pub header : IsBlock (bits_of_bytes (0x82 ∷ 2 ∷ 0x0d ∷ 0xe4 ∷ []))
  pub body : IsBlock (bits_of_bytes (0x66 ∷ 0 ∷ 8 ∷ 0 ∷ 1 ∷ 0 ∷ 0 ∷ 0x35 ∷ []))
  pub read : frame_of (avi_packet 0x66) spotless ≡ Ok avi_frame
  pub says : info_of avi_frame ≡ Avi avi
  pub refused : frame_of (avi_packet 0x67) spotless ≡ Err (Checksum 1)

-- ---- clock numbers: N is 6144 and CTS is 25200

abbrev pub clock_body : ℕ → List ℕ
clock_body low = 0 ∷ 0 ∷ 0x62 ∷ low ∷ 0 ∷ 0x18 ∷ 0 ∷ []

abbrev pub clock_packet : ℕ → Packet
clock_packet low = packet (1 ∷ 0 ∷ 0 ∷ []) (clock_body 0x70 ++ clock_body 0x70 ++ clock_body 0x70 ++ clock_body low)

pub record IsClock : Type 0 where
  pub written : acr_packet (record { n = 6144; cts = 25200 }) no_sync ≡ clock_packet 0x70
  pub header : IsBlock (bits_of_bytes (1 ∷ 0 ∷ 0 ∷ 0x4a ∷ []))
  pub body : IsBlock (bits_of_bytes (0 ∷ 0 ∷ 0x62 ∷ 0x70 ∷ 0 ∷ 0x18 ∷ 0 ∷ 0x1d ∷ []))
  pub read : acr_of (clock_packet 0x70) spotless ≡ Ok (record { n = 6144; cts = 25200 })
  pub refused : acr_of (clock_packet 0x71) spotless ≡ Err Uneven

-- ---- one sample: left 123456, which has nine ones, right 000000

abbrev pub sample : Sample
sample = record { left = 0x123456; right = 0; left_flags = 0; right_flags = 0; start = true; flat = false }

abbrev pub sample_packet : ℕ → Packet
sample_packet flags = packet (2 ∷ 1 ∷ 0x10 ∷ []) (0x56 ∷ 0x34 ∷ 0x12 ∷ 0 ∷ 0 ∷ 0 ∷ flags ∷ zeros 21)

-- with byte 6 of the body set to 0 the left side is not even
pub record IsSampleRow : Type 0 where
  pub written : samples_packet (sample ∷ []) no_sync ≡ sample_packet 8
  pub read : samples_of (sample_packet 8) spotless ≡ Ok (record { place = 0; sample = sample; left_even = true; right_even = true } ∷ [])
  pub uneven : samples_of (sample_packet 0) spotless ≡ Ok (record { place = 0; sample = sample; left_even = false; right_even = true } ∷ [])
