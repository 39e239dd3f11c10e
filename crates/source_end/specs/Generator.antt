-- The content of the generator: frames of video format 1, each byte, packet and sample of which is determined by its
-- place. Its pictures and its sound are this project's own.
use Rattle.std.specs.Prelude.{◌≡◌, ℕ, ◌+◌, ◌-◌, ◌*◌, ◌/◌, ◌%◌, ◌==◌, false, List, [], ◌∷◌, ◌++◌, map, replicate}
use Rattle.island_pack.specs.declared.packet.Packet.{Packet}
use Rattle.infoframe.specs.declared.content.Info.{Info}
use Rattle.infoframe.specs.declared.content.Info.TheVariants.{Avi, Audio}
use Rattle.infoframe.specs.Written.{IsWritten}
use Rattle.audio_packets.specs.declared.sample.Sample.{Sample}
use Rattle.audio_packets.specs.Samples.{samples_packet}
use Rattle.audio_packets.specs.Clock.{acr_packet}
use Rattle.source_end.specs.Content.{Frame}
use Rattle.source_end.specs.Raster.{up_from}

-- the byte of a lane, 0 of blue, 1 of green and 2 of red, in pixel x of row y of frame f
abbrev pub lane_byte : ℕ → ℕ → ℕ → ℕ → ℕ
lane_byte f y x lane = (31 * f + 7 * y + 3 * x + 85 * lane) % 256

-- byte k of a row: red, green and blue of each pixel
abbrev pub row_byte : ℕ → ℕ → ℕ → ℕ
row_byte f y k = lane_byte f y (k / 3) (2 - k % 3)

-- the first bytes of a row
unfoldable pub row_bytes : ℕ → ℕ → ℕ → List ℕ
row_bytes f y n = map (row_byte f y) (up_from 0 n)

-- the first rows of a frame, of 640 pixels each
unfoldable pub first_rows : ℕ → ℕ → List (List ℕ)
first_rows f n = map (λ y. row_bytes f y 1920) (up_from 0 n)

-- sample k, counted over all frames
abbrev pub sound_sample : ℕ → Sample
sound_sample k = record { left = 256 * k; right = k; left_flags = 0; right_flags = 0; start = k % 192 == 0; flat = false }

-- packet i of four samples, counted over all frames
unfoldable pub sound_packet : ℕ → Packet
sound_packet i =
    samples_packet (sound_sample (4 * i) ∷ (sound_sample (4 * i + 1) ∷ (sound_sample (4 * i + 2) ∷ (sound_sample (4 * i + 3) ∷ [])))) (replicate 32 0)

-- the first packets of samples of frame f, which has 200
unfoldable pub first_sounds : ℕ → ℕ → List Packet
first_sounds f n = map sound_packet (up_from (200 * f) n)

-- scan information 2, an active format of 8, video format 1
abbrev pub picture_info : Info
picture_info = Avi (record { s = 2; b = 0; a = 1; y = 0; r = 8; m = 0; c = 0; sc = 0; q = 0; ec = 0; itc = 0; vic = 1; pr = 0; bars = 0 ∷ (0 ∷ (0 ∷ (0 ∷ []))) })

-- two channels
abbrev pub sound_info : Info
sound_info = Audio (record { cc = 1; ct = 0; ss = 0; sf = 0; ca = 0; lsv = 0; dm = 0 })

unfoldable pub clock_packet : Packet
clock_packet = acr_packet (record { n = 6144; cts = 25200 }) (replicate 32 0)

-- frame f, with packets of the two InfoFrames
unfoldable pub frame_at : Packet → Packet → ℕ → Frame
frame_at avi audio f = record { packets = avi ∷ (clock_packet ∷ (audio ∷ first_sounds f 200)); rows = first_rows f 480 }

unfoldable pub first_frames : Packet → Packet → ℕ → List Frame
first_frames avi audio n = map (frame_at avi audio) (up_from 0 n)

-- so many frames, with the packets of the two InfoFrames
pub record IsGenerated (n : ℕ) (content : List Frame) : Type 0 where
  pub avi : Packet
  pub audio : Packet
  pub avi_is : IsWritten picture_info avi
  pub audio_is : IsWritten sound_info audio
  pub content_is : content ≡ first_frames avi audio n

-- a content whose last frame has these packets and rows more
pub record Adds (old new : List Frame) (packets : List Packet) (rows : List (List ℕ)) : Type 0 where
  pub added : (earlier : List Frame) (f : Frame) → old ≡ earlier ++ f ∷ [] → new ≡ earlier ++ record { packets = f.packets ++ packets; rows = f.rows ++ rows } ∷ []
