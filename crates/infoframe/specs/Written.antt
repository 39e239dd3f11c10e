-- What an InfoFrame says, and the packets that say it with nothing else set.
use Rattle.std.specs.Prelude.{◌≡◌, ℕ, ◌+◌, ◌-◌, ◌/◌, Bool, true, false, ◌==◌, ◌&&◌, List, [], ◌∷◌, ◌++◌, length, drop, replicate, All, slice_index, nat_le}
use Rattle.std.specs.List.{list_all}
use Rattle.island_pack.specs.Packets.{IsPacket}
use Rattle.island_pack.specs.declared.packet.Packet.{Packet}
use Rattle.infoframe.specs.Fields.{field, avi_of, avi_reserved, avi_fits, audio_of, audio_reserved, audio_fits, spd_of}
use Rattle.infoframe.specs.Frames.{Frame, frame_in, length_in, sum_of, kind_of}
use Rattle.infoframe.specs.declared.content.InfoKind.{InfoKind}
use Rattle.infoframe.specs.declared.content.InfoKind.TheVariants.{Avi as AviKind, Audio as AudioKind, Spd as SpdKind, Raw as RawKind}
use Rattle.infoframe.specs.declared.content.Info.{Info}
use Rattle.infoframe.specs.declared.content.Info.TheVariants.{Avi, Audio, Spd, Raw}

-- a payload, and zeros after it up to 27 bytes
abbrev pub padded : List ℕ → List ℕ
padded payload = payload ++ replicate (27 - length payload) 0

unfoldable pub info_as : InfoKind → Frame → Info
info_as AviKind frame = Avi (avi_of frame.payload)
info_as AudioKind frame = Audio (audio_of frame.payload)
info_as SpdKind frame = Spd (spd_of frame.payload)
info_as RawKind frame = Raw frame.type_code frame.version (length frame.payload) (padded frame.payload)

-- what a frame says: the fields of a known layout, else its bytes
unfoldable pub info_of : Frame → Info
info_of frame = info_as (kind_of frame.type_code frame.version) frame

abbrev pub type_of : Info → ℕ
type_of (Avi fields) = 0x82
type_of (Audio fields) = 0x84
type_of (Spd fields) = 0x83
type_of (Raw kind version length bytes) = kind

abbrev pub version_of : Info → ℕ
version_of (Avi fields) = 2
version_of (Audio fields) = 1
version_of (Spd fields) = 1
version_of (Raw kind version length bytes) = version

abbrev pub length_of : Info → ℕ
length_of (Avi fields) = 13
length_of (Audio fields) = 10
length_of (Spd fields) = 25
length_of (Raw kind version length bytes) = length

abbrev pub is_raw : InfoKind → Bool
is_raw RawKind = true
is_raw _ = false

-- whether there is a frame that says it: each field fits its bits; raw bytes are of an InfoFrame's type, which starts at
-- 0x80, and of no known layout, are 27 at most, and 0 after their length
unfoldable pub fits : Info → Bool
fits (Avi fields) = avi_fits fields
fits (Audio fields) = audio_fits fields
fits (Spd fields) = true
fits (Raw kind version length bytes) =
    nat_le 0x80 kind && (is_raw (kind_of kind version) && (nat_le length 27 && list_all (λ b. b == 0) (drop length bytes)))

-- the bits of a payload that have no field
unfoldable pub reserved_of : InfoKind → List ℕ → List ℕ
reserved_of AviKind payload = avi_reserved (field payload)
reserved_of AudioKind payload = audio_reserved (field payload)
reserved_of _ payload = []

-- HB2 bits 5 to 7, and the bits of the payload that have no field
unfoldable pub reserved_in : Packet → List ℕ
reserved_in p =
    let frame = frame_in p in
    (slice_index p.header 2 / 32) ∷ reserved_of (kind_of frame.type_code frame.version) frame.payload

-- the header and the bodies of a packet say it: reserved bits and the bytes after the length are 0
pub record IsWritten (info : Info) (p : Packet) : Type 0 where
  pub whole : IsPacket p
  pub header : p.header ≡ type_of info ∷ version_of info ∷ length_of info ∷ []
  pub checksum : sum_of p ≡ 0
  pub says : info_of (frame_in p) ≡ info
  pub reserved : All (λ bits. bits ≡ 0) (reserved_in p)
  pub after : drop (length_in p + 1) p.bodies ≡ replicate (27 - length_in p) 0
