-- What holds of every InfoFrame.
use Rattle.std.specs.Prelude.{◌≡◌, ◌+◌, ◌-◌, ◌≤◌, length, take, drop, replicate, All, slice_index, None, Ok, IsTrue}
use Rattle.island_pack.specs.Packets.{IsPacket}
use Rattle.island_pack.specs.declared.packet.Packet.{Packet}
use Rattle.island_pack.specs.declared.packet.PacketVerdicts.{PacketVerdicts}
use Rattle.island_pack.specs.Taken.{first_lost}
use Rattle.infoframe.specs.Frames.{Frame, frame_in, frame_of, length_in}
use Rattle.infoframe.specs.Written.{info_of, type_of, version_of, length_of, fits, reserved_in, IsWritten}
use Rattle.infoframe.specs.declared.content.Info.{Info}

-- a packet is read, and what is read has the type code, the version, the length and the fields of a content
pub record IsReadBack (info : Info) (p : Packet) (verdicts : PacketVerdicts) : Type 0 where
  pub read : frame_of p verdicts ≡ Ok (frame_in p)
  pub type_code : (frame_in p).type_code ≡ type_of info
  pub version : (frame_in p).version ≡ version_of info
  pub long : length (frame_in p).payload ≡ length_of info
  pub says : info_of (frame_in p) ≡ info

-- what is written is read, where no block is lost, and says what was to be written
abbrev pub WrittenIsRead : Type 0
WrittenIsRead =
    (info : Info) (p : Packet) (verdicts : PacketVerdicts)
    → IsTrue (fits info) → IsWritten info p → first_lost verdicts ≡ None → IsReadBack info p verdicts

-- packets that are read, say the same and have the same reserved bits have the same header and the same bytes PB0 to
-- PB(length)
abbrev pub OneSpelling : Type 0
OneSpelling =
    (p q : Packet) (of_p of_q : PacketVerdicts) (f g : Frame)
    → IsPacket p → IsPacket q → frame_of p of_p ≡ Ok f → frame_of q of_q ≡ Ok g
    → info_of f ≡ info_of g → reserved_in p ≡ reserved_in q
    → (p.header ≡ q.header) × (take (length_in p + 1) p.bodies ≡ take (length_in q + 1) q.bodies)

-- what is written for one content is one header and four bodies
abbrev pub OneWriting : Type 0
OneWriting =
    (info : Info) (p q : Packet) → IsTrue (fits info) → IsWritten info p → IsWritten info q
    → (p.header ≡ q.header) × (p.bodies ≡ q.bodies)

-- what is read may be written
abbrev pub ReadFits : Type 0
ReadFits =
    (p : Packet) (verdicts : PacketVerdicts) (f : Frame)
    → IsPacket p → 0x80 ≤ slice_index p.header 0 → frame_of p verdicts ≡ Ok f → IsTrue (fits (info_of f))

-- what is read is written so, if no reserved bit is set and each byte after the length is 0
abbrev pub ReadIsWritten : Type 0
ReadIsWritten =
    (p : Packet) (verdicts : PacketVerdicts) (f : Frame)
    → IsPacket p → frame_of p verdicts ≡ Ok f
    → All (λ bits. bits ≡ 0) (reserved_in p) → drop (length_in p + 1) p.bodies ≡ replicate (27 - length_in p) 0
    → IsWritten (info_of f) p
