-- How 32 columns carry a packet, from tests that compute.
use Rattle.std.proofs.Common.{◌≡◌, ℕ, zero, suc, ◌+◌, ◌*◌, ◌<◌, ◌≤◌, Bool, true, false, not, ◌&&◌, ◌==◌, List, [], ◌∷◌, ◌++◌, length, take, get_or, All, refl, ap, sym, subst, ◌∙◌, arith}
use Rattle.std.specs.Prelude.{nat_lt, slice_index}
use Rattle.std.specs.List.{list_all}
use Rattle.std.proofs.lemmas.Bool.{ltb-true}
use Rattle.std.proofs.lemmas.List.Sums.{AllPass-from_list_all}
use Rattle.tmds_word.proofs.Below.{passes_below, passes_at}
use Rattle.terc4.specs.Tables.{is_terc}
use Rattle.bch_block.specs.Bits.{xor, bit, bits_of_bytes}
use Rattle.bch_block.specs.Block.{IsBlock}
use Rattle.island_pack.specs.Nibbles.{nibbles_of, sync_values, header_bits, body_bits}
use Rattle.island_pack.specs.Packets.{IsPacket, BeginsWith, AreTerc, Carries, body_of}
use Rattle.island_pack.specs.declared.packet.Packet.{Packet}
use Rattle.island_pack.proofs.Registers.{begins}

bytes_below : (bytes : List ℕ) → list_all (λ b. nat_lt b 256) bytes ≡ true → All (λ b. b < 256) bytes
bytes_below bytes test k d lt = ltb-true (get_or bytes k d) 256 (AllPass-from_list_all (λ b. nat_lt b 256) bytes test k d lt)

-- header, bodies and sync values of a packet
pub packet_whole : (p : Packet) → length p.header ≡ 3 → list_all (λ b. nat_lt b 256) p.header ≡ true → length p.bodies ≡ 28 → list_all (λ b. nat_lt b 256) p.bodies ≡ true → length p.sync ≡ 32 → IsPacket p
packet_whole p header header_bytes bodies body_bytes sync =
    record { header = header; header_bytes = bytes_below p.header header_bytes; bodies = bodies; body_bytes = bytes_below p.bodies body_bytes; sync = sync }

abbrev pub all_terc : ℕ → List (List ℕ) → Bool
all_terc lane words = list_all (λ ws. is_terc (slice_index ws lane)) words

terc_lane : (words : List (List ℕ)) → all_terc 0 words ≡ true → all_terc 1 words ≡ true → all_terc 2 words ≡ true → (lane : ℕ) → lane < 3 → AreTerc words lane
terc_lane words a b c zero lt = AllPass-from_list_all (λ ws. is_terc (slice_index ws 0)) words a
terc_lane words a b c (suc zero) lt = AllPass-from_list_all (λ ws. is_terc (slice_index ws 1)) words b
terc_lane words a b c (suc (suc zero)) lt = AllPass-from_list_all (λ ws. is_terc (slice_index ws 2)) words c
terc_lane words a b c (suc (suc (suc lane))) lt = absurd (omega arith)

-- the bits of a block are those of its bytes and of one byte more, which makes a block
pub record IsCarried (bits : List Bool) (bytes : List ℕ) (parity : ℕ) : Type 0 where
  pub bits_are : bits ≡ bits_of_bytes (bytes ++ parity ∷ [])
  pub block : IsBlock (bits_of_bytes (bytes ++ parity ∷ []))

carried : (bits : List Bool) (bytes : List ℕ) (parity : ℕ) → IsCarried bits bytes parity → BeginsWith bits bytes
carried bits bytes parity h = begins bits bytes parity h.bits_are h.block

each_body : (P : ℕ → Type 0) → P 0 → P 1 → P 2 → P 3 → (b : ℕ) → b < 4 → P b
each_body P p q r s zero lt = p
each_body P p q r s (suc zero) lt = q
each_body P p q r s (suc (suc zero)) lt = r
each_body P p q r s (suc (suc (suc zero))) lt = s
each_body P p q r s (suc (suc (suc (suc b)))) lt = absurd (omega arith)

same_bits : (a b : Bool) → not (xor a b) ≡ true → a ≡ b
same_bits true true h = refl
same_bits true false h = absurd cc
same_bits false true h = absurd cc
same_bits false false h = refl

-- bit 3 of lane 0 is 0 exactly in column 0 of an island's first packet
abbrev pub is_marked : Bool → List (List ℕ) → ℕ → Bool
is_marked first words i = not (xor (bit (slice_index (nibbles_of words 0) i) 3) (not (first && (i == 0))))

pub carries : (p : Packet) (first : Bool) (words : List (List ℕ)) (header a b c d : ℕ) → IsPacket p → length words ≡ 32 → all_terc 0 words ≡ true → all_terc 1 words ≡ true → all_terc 2 words ≡ true → sync_values words ≡ p.sync
    → IsCarried (header_bits words) p.header header → IsCarried (body_bits words 0) (body_of p 0) a → IsCarried (body_bits words 1) (body_of p 1) b
    → IsCarried (body_bits words 2) (body_of p 2) c → IsCarried (body_bits words 3) (body_of p 3) d → passes_below 32 (is_marked first words) ≡ true → Carries p first words
carries p first words header a b c d whole count blue green red sync head body0 body1 body2 body3 marks = record {
  free = record {
    whole = whole;
    count = count;
    terc = terc_lane words blue green red;
    sync = sync;
    header = carried (header_bits words) p.header header head;
    bodies =
        each_body (λ i. BeginsWith (body_bits words i) (body_of p i)) (carried (body_bits words 0) (body_of p 0) a body0) (carried (body_bits words 1) (body_of p 1) b body1) (carried (body_bits words 2) (body_of p 2) c body2)
        (carried (body_bits words 3) (body_of p 3) d body3);
  };
  mark = λ i lt. same_bits _ _ (passes_at 32 (is_marked first words) i marks lt);
}
