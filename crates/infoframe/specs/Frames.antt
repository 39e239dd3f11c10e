-- What of a packet is read as an InfoFrame: HDMI 1.4, section 5.3.5, and CTA-861, section 6.
use Rattle.std.specs.Prelude.{ℕ, zero, suc, ◌+◌, ◌%◌, Bool, true, false, ◌==◌, ◌&&◌, if◌then◌else◌, List, [], ◌∷◌, take, drop, sum, slice_index, nat_le, Option, Some, None, Result, Ok, Err}
use Rattle.island_pack.specs.Taken.{first_lost}
use Rattle.island_pack.specs.declared.packet.Packet.{Packet}
use Rattle.island_pack.specs.declared.packet.PacketVerdicts.{PacketVerdicts}
use Rattle.infoframe.specs.Fields.{avi_of, audio_of, spd_of}
use Rattle.infoframe.specs.declared.content.Avi.{Avi as AviFields}
use Rattle.infoframe.specs.declared.content.AudioInfo.{AudioInfo}
use Rattle.infoframe.specs.declared.content.Spd.{Spd as SpdFields}
use Rattle.infoframe.specs.declared.content.InfoKind.{InfoKind}
use Rattle.infoframe.specs.declared.content.InfoKind.TheVariants.{Avi, Audio, Spd, Raw}
use Rattle.infoframe.specs.declared.content.InfoFault.{InfoFault}
use Rattle.infoframe.specs.declared.content.InfoFault.TheVariants.{Lost, Length, Checksum}

-- HB0, HB1, and PB1 to PB(length)
pub record Frame : Type 0 where
  pub type_code : ℕ
  pub version : ℕ
  pub payload : List ℕ

-- the length is HB2 bits 0 to 4; bits 5 to 7 are reserved
unfoldable pub length_in : Packet → ℕ
length_in p = slice_index p.header 2 % 32

unfoldable pub frame_in : Packet → Frame
frame_in p = record {
  type_code = slice_index p.header 0;
  version = slice_index p.header 1;
  payload = take (length_in p) (drop 1 p.bodies);
}

-- HB0 + HB1 + HB2 + PB0 + .. + PB(length), which the checksum PB0 makes 0 modulo 256
unfoldable pub sum_of : Packet → ℕ
sum_of p = (sum p.header + sum (take (length_in p + 1) p.bodies)) % 256

-- the layout that a type code and a version name
unfoldable pub kind_of : ℕ → ℕ → InfoKind
kind_of type_code version =
    if (type_code == 0x82) && (version == 2) then Avi
    else (if (type_code == 0x84) && (version == 1) then Audio
    else (if (type_code == 0x83) && (version == 1) then Spd
    else Raw))

-- a known layout has one length; any other has what 28 bytes hold beside the checksum
unfoldable pub has_length : InfoKind → ℕ → Bool
has_length Avi n = n == 13
has_length Audio n = n == 10
has_length Spd n = n == 25
has_length Raw n = nat_le n 27

-- the first cause of a refusal, or else the frame
unfoldable pub answer : Option ℕ → Bool → ℕ → Frame → Result Frame InfoFault
answer (Some block) fits_length total frame = Err (Lost block)
answer None false total frame = Err Length
answer None true zero frame = Ok frame
answer None true (suc n) frame = Err (Checksum (suc n))

-- the frame that a packet is read as, or why it is read as none
unfoldable pub frame_of : Packet → PacketVerdicts → Result Frame InfoFault
frame_of p verdicts =
    let frame = frame_in p in
    answer (first_lost verdicts) (has_length (kind_of frame.type_code frame.version) (length_in p)) (sum_of p) frame

-- the fields of a frame of each kind, and of no other
unfoldable pub avi_in : InfoKind → List ℕ → Option AviFields
avi_in Avi payload = Some (avi_of payload)
avi_in _ payload = None

unfoldable pub audio_in : InfoKind → List ℕ → Option AudioInfo
audio_in Audio payload = Some (audio_of payload)
audio_in _ payload = None

unfoldable pub spd_in : InfoKind → List ℕ → Option SpdFields
spd_in Spd payload = Some (spd_of payload)
spd_in _ payload = None
