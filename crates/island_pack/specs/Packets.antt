-- How 32 columns carry a packet of a data island: HDMI 1.4, sections 5.2.3 and 5.2.3.4.
use Rattle.std.specs.Prelude.{◌≡◌, ℕ, ◌+◌, ◌*◌, ◌<◌, Bool, true, not, ◌&&◌, ◌==◌, List, length, take, drop, All, slice_index}
use Rattle.terc4.specs.Tables.{is_terc}
use Rattle.bch_block.specs.Bits.{bit, bits_of_bytes}
use Rattle.bch_block.specs.Block.{IsBlock}
use Rattle.island_pack.specs.Nibbles.{nibbles_of, sync_values, header_bits, body_bits}
use Rattle.island_pack.specs.declared.packet.Packet.{Packet}

-- three header bytes, four bodies of seven bytes, and a sync value for each of 32 columns
pub record IsPacket (packet : Packet) : Type 0 where
  pub header : length packet.header ≡ 3
  pub header_bytes : All (λ byte. byte < 256) packet.header
  pub bodies : length packet.bodies ≡ 28
  pub body_bytes : All (λ byte. byte < 256) packet.bodies
  pub sync : length packet.sync ≡ 32

-- the seven bytes of body b
abbrev pub body_of : Packet → ℕ → List ℕ
body_of packet b = take 7 (drop (7 * b) packet.bodies)

-- a block that begins with the bits of bytes and has eight bits more
pub record BeginsWith (x : List Bool) (bytes : List ℕ) : Type 0 where
  pub bits : length x ≡ 8 * length bytes + 8
  pub begins : take (8 * length bytes) x ≡ bits_of_bytes bytes
  pub block : IsBlock x

-- each word of a lane is a TERC4 word
abbrev pub AreTerc : List (List ℕ) → ℕ → Type 0
AreTerc columns lane = All (λ words. is_terc (slice_index words lane) ≡ true) columns

-- 32 columns of TERC4 words carry a packet, whatever bit 3 of lane 0 is
pub record CarriesFreely (packet : Packet) (columns : List (List ℕ)) : Type 0 where
  pub whole : IsPacket packet
  pub count : length columns ≡ 32
  pub terc : (lane : ℕ) → lane < 3 → AreTerc columns lane
  pub sync : sync_values columns ≡ packet.sync
  pub header : BeginsWith (header_bits columns) packet.header
  pub bodies : (b : ℕ) → b < 4 → BeginsWith (body_bits columns b) (body_of packet b)

-- and bit 3 of lane 0 is 0 exactly in column 0 of an island's first packet
pub record Carries (packet : Packet) (first : Bool) (columns : List (List ℕ)) : Type 0 where
  pub free : CarriesFreely packet columns
  pub mark : (i : ℕ) → i < 32 → bit (slice_index (nibbles_of columns 0) i) 3 ≡ not (first && (i == 0))
