-- What is taken from 32 columns of a data island, some of whose words may be wrong.
use Rattle.std.specs.Prelude.{◌≡◌, ℕ, ◌*◌, ◌<◌, Bool, List, [], ◌∷◌, length, take, slice_index_or, Option}
use Rattle.std.specs.List.{find}
use Rattle.bch_block.specs.Bits.{bits_of_bytes, flipped}
use Rattle.bch_block.specs.Repair.{IsVerdict, is_lost}
use Rattle.bch_block.specs.declared.Verdict.{Verdict}
use Rattle.bch_block.specs.declared.Verdict.TheVariants.{Clean, Mended, Lost}
use Rattle.island_pack.specs.Nibbles.{sync_values, header_bits, body_bits, foreign_words}
use Rattle.island_pack.specs.Packets.{IsPacket, body_of, CarriesFreely}
use Rattle.island_pack.specs.declared.packet.Packet.{Packet}
use Rattle.island_pack.specs.declared.packet.PacketVerdicts.{PacketVerdicts}

-- a list of bits once its verdict is found: the bit that was mended is turned over
abbrev pub after : List Bool → Verdict → List Bool
after x Clean = x
after x (Mended i) = flipped x i
after x Lost = x

-- bytes, and the verdict under which the bits begin with them
pub record IsTaken (x : List Bool) (bytes : List ℕ) (verdict : Verdict) : Type 0 where
  pub found : IsVerdict x verdict
  pub begins : bits_of_bytes bytes ≡ take (8 * length bytes) (after x verdict)

-- the verdict on a block: blocks 0 to 3 are the bodies, block 4 is the header
abbrev pub verdict_on : PacketVerdicts → ℕ → Verdict
verdict_on verdicts block = slice_index_or verdicts.blocks block Clean

-- the least block that is lost
unfoldable pub first_lost : PacketVerdicts → Option ℕ
first_lost verdicts = find (λ block. is_lost (verdict_on verdicts block)) (0 ∷ 1 ∷ 2 ∷ 3 ∷ 4 ∷ [])

-- the packet and the verdicts that 32 columns give
pub record Taken (columns : List (List ℕ)) (packet : Packet) (verdicts : PacketVerdicts) : Type 0 where
  pub whole : IsPacket packet
  pub sync : packet.sync ≡ sync_values columns
  pub bodies : (b : ℕ) → b < 4 → IsTaken (body_bits columns b) (body_of packet b) (verdict_on verdicts b)
  pub header : IsTaken (header_bits columns) packet.header (verdict_on verdicts 4)
  pub blocks : length verdicts.blocks ≡ 5
  pub symbols : verdicts.symbols ≡ foreign_words columns

-- five blocks without a fault, and no word that is no TERC4 word
abbrev pub spotless : PacketVerdicts
spotless = record { blocks = Clean ∷ Clean ∷ Clean ∷ Clean ∷ Clean ∷ []; symbols = 0 }

-- from columns that carry a packet, that packet is taken and nothing else
abbrev pub CarriedIsTaken : Type 0
CarriedIsTaken =
    (packet taken : Packet) (verdicts : PacketVerdicts) (columns : List (List ℕ))
    → CarriesFreely packet columns → Taken columns taken verdicts → (taken ≡ packet) × (verdicts ≡ spotless)
