use Rattle.std.proofs.Common.{◌≡◌, ℕ, List, Option, Some, None, Ok, [], ◌∷◌, map, slice_index, refl, ap, sym, ◌∙◌}
use Rattle.std.specs.Prelude.{filter}
use Rattle.bch_block.specs.Bits.{bit}
use Rattle.island_pack.specs.declared.packet.Packet.{Packet}
use Rattle.island_pack.specs.declared.packet.PacketVerdicts.{PacketVerdicts}
use Rattle.island_pack.specs.Taken.{first_lost}
use Rattle.audio_packets.specs.Faults.{unless_lost}
use Rattle.audio_packets.specs.Samples.{packet_with, note_at, notes_from, has_pair, pair_of}
use Rattle.audio_packets.proofs.reading.pair.Goals as goal

no_block : (found : Option ℕ) → ((block : ℕ) → found ≡ Some block → ⊥) → found ≡ None
no_block None h = refl
no_block (Some block) h = absurd (h block refl)

-- what is read of the bodies that a mask has, where no block is lost
of_mask : (packet : Packet) (verdicts : PacketVerdicts) (header bodies : List ℕ) (mask pair : ℕ) → header ≡ packet.header → bodies ≡ packet.bodies
    → first_lost verdicts ≡ None
    → filter (bit mask) (0 ∷ 1 ∷ 2 ∷ 3 ∷ []) ≡ filter (has_pair (slice_index header 1) pair) (0 ∷ 1 ∷ 2 ∷ 3 ∷ [])
    → Ok (notes_from (packet_with header bodies) mask 0) ≡ pair_of packet verdicts pair
of_mask packet verdicts header bodies mask pair h b none m =
    let places = m ∙ ap (λ bytes. filter (has_pair (slice_index bytes 1) pair) (0 ∷ 1 ∷ 2 ∷ 3 ∷ [])) h in
    let back = sym none in
    λ i. unless_lost (back i) (Ok (map (note_at (packet_with (h i) (b i))) (places i)))

pub returns-in-Some : goal.returns-in-Some
returns-in-Some c =
    let packet = c.args.packet.packet.now in
    let present = slice_index packet.header 1 in
    ap (λ found. unless_lost found (Ok (map (note_at packet) (filter (has_pair present c.args.pair) (0 ∷ 1 ∷ 2 ∷ 3 ∷ []))))) (sym c.in-Some.is ∙ c.first_lost.ensures)

pub returns : goal.returns
returns c =
    let verdicts = c.args.packet.verdicts.now in
    of_mask c.args.packet.packet.now verdicts _ _ c.pair_mask.result c.args.pair c.header-header.ensures c.bodies.ensures (sym c.first_lost.ensures ∙ no_block _ c.in_default.not-Some) c.pair_mask.ensures
