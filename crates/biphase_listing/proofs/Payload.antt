-- The samples of a packet that has lost no block are those of its header and its bodies.
use Rattle.std.proofs.Common.{◌≡◌, ℕ, ◌<◌, Bool, false, if◌then◌else◌, List, [], ◌∷◌, map, filter, Option, None, Ok, refl, slice_index, arith}
use Rattle.std.specs.Prelude.{◌==◌}
use Rattle.island_pack.specs.Taken.{first_lost}
use Rattle.island_pack.proofs.Losses.{none_lost, none_spotless}
use Rattle.island_pack.specs.declared.packet.Packet.{Packet}
use Rattle.island_pack.specs.declared.packet.PacketVerdicts.{PacketVerdicts}
use Rattle.audio_packets.specs.Faults.{unless_lost}
use Rattle.audio_packets.specs.Samples.{has_pair, note_at, packet_with}
use Rattle.audio_packets.specs.declared.sample.Sample.{Sample}
use Rattle.period_grammar.specs.Events.{packet}
use Rattle.biphase_listing.specs.Laws.{SamplesOfPayload}
use Rattle.biphase_listing.specs.StreamText.{samples_at, samples_in}

-- the samples of a packet of which this block is lost, or none
abbrev samples_by : ℕ → Option ℕ → Packet → List Sample
samples_by pair lost p =
    if slice_index p.header 0 == 2
    then samples_in (unless_lost lost (Ok (map (note_at p) (filter (has_pair (slice_index p.header 1) pair) (0 ∷ 1 ∷ 2 ∷ 3 ∷ [])))))
    else []

samples_are : (pair : ℕ) (p : Packet) (v : PacketVerdicts) (x : ℕ) → samples_at pair (packet p v x) ≡ samples_by pair (first_lost v) (packet_with p.header p.bodies)
unfolding samples_at
samples_are pair p v x = refl

pub samples_of_payload : SamplesOfPayload
samples_of_payload pair p q v x y header bodies kept = grind (arith, samples_are, none_lost, none_spotless)
