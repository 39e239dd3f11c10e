-- What a packet carries, by its type.
use Rattle.std.proofs.Common.{◌≡◌, ℕ, ◌<◌, ◌≤◌, Bool, true, false, List, [], ◌∷◌, Option, Some, None, Result, Ok, Err, refl, ap, sym, ◌∙◌, arith}
use Rattle.std.specs.Prelude.{◌==◌, if◌then◌else◌, is_some, slice_index, nat_le}
use Rattle.std.proofs.lemmas.Bool.{ne_eqb, le-leb, lt-leb}
use Rattle.island_pack.specs.declared.packet.Packet.{Packet}
use Rattle.island_pack.specs.declared.packet.PacketVerdicts.{PacketVerdicts}
use Rattle.island_pack.specs.Taken.{first_lost}
use Rattle.infoframe.specs.Frames.{Frame, frame_of, answer}
use Rattle.audio_packets.specs.Faults.{unless_lost}
use Rattle.audio_packets.specs.declared.fault.AudioFault.{AudioFault}
use Rattle.audio_packets.specs.declared.clock.Acr.{Acr}
use Rattle.audio_packets.specs.declared.sample.SampleNote.{SampleNote}
use Rattle.audio_packets.specs.Clock.{acr_of}
use Rattle.audio_packets.specs.Samples.{samples_of}
use Rattle.listing_writer.specs.ContentText.{clock_lines, sample_lines, control_lines, info_lines, other_words, carried_lines, packet_lines}
use Rattle.listing_writer.specs.ContentSeen.{Seen}
use Rattle.listing_writer.specs.ContentAdded.{Adds}
use Rattle.listing_writer.proofs.ContentAdding.{adds_as, adds_none}

-- a packet of audio clock regeneration, and one of samples, has no line where a block is lost
clock_unless : (column : ℕ) (lost : Option ℕ) (answer : Result Acr AudioFault)
    → clock_lines column (unless_lost lost answer) ≡ (if is_some lost then [] else clock_lines column (unless_lost lost answer))
unfolding clock_lines
clock_unless column None answer = refl
clock_unless column (Some block) answer = refl

pub clock_packet : (t : ℕ) (p : Packet) (v : PacketVerdicts) (column : ℕ) → t ≡ 1 → t ≡ slice_index p.header 0 → clock_lines column (acr_of p v) ≡ packet_lines p v column
unfolding packet_lines carried_lines
clock_packet t p v column one is =
    clock_unless column (first_lost v) _
    ∙ ap (λ (t : ℕ). if is_some (first_lost v) then [] else carried_lines t p v column) (sym one ∙ is)

samples_unless : (column : ℕ) (lost : Option ℕ) (answer : Result (List SampleNote) AudioFault)
    → sample_lines column (unless_lost lost answer) ≡ (if is_some lost then [] else sample_lines column (unless_lost lost answer))
unfolding sample_lines
samples_unless column None answer = refl
samples_unless column (Some block) answer = refl

pub samples_packet : (t : ℕ) (p : Packet) (v : PacketVerdicts) (column : ℕ) → t ≡ 2 → t ≡ slice_index p.header 0 → sample_lines column (samples_of p v) ≡ packet_lines p v column
unfolding packet_lines carried_lines
samples_packet t p v column two is =
    samples_unless column (first_lost v) _
    ∙ ap (λ (t : ℕ). if is_some (first_lost v) then [] else carried_lines t p v column) (sym two ∙ is)

-- no block is lost
pub adds_carried : (a b : Seen) (p : Packet) (v : PacketVerdicts) (column : ℕ) → is_some (first_lost v) ≡ false
    → Adds a b (carried_lines (slice_index p.header 0) p v column) → Adds a b (packet_lines p v column)
unfolding packet_lines
adds_carried a b p v column none adds = adds_as (λ (lost : Bool). if lost then [] else carried_lines (slice_index p.header 0) p v column) a b false _ (sym none) adds

pub adds_lost : (a : Seen) (p : Packet) (v : PacketVerdicts) (column : ℕ) → is_some (first_lost v) ≡ true → Adds a a (packet_lines p v column)
unfolding packet_lines
adds_lost a p v column lost = adds_as (λ (lost : Bool). if lost then [] else carried_lines (slice_index p.header 0) p v column) a a true _ (sym lost) (adds_none a)

by_kind : (t : ℕ) (p : Packet) (v : PacketVerdicts) (column : ℕ) (b0 b1 b2 b3 info : Bool)
    → (t == 0) ≡ b0 → (t == 1) ≡ b1 → (t == 2) ≡ b2 → (t == 3) ≡ b3 → nat_le 0x80 t ≡ info
    → carried_lines t p v column ≡
    (if b0 then [] else (if b1 then clock_lines column (acr_of p v) else (if b2 then sample_lines column (samples_of p v)
    else (if b3 then control_lines column p.bodies else (if info then info_lines column (frame_of p v) else other_words p ∷ [])))))
unfolding carried_lines
by_kind t p v column b0 b1 b2 b3 info e0 e1 e2 e3 e4 = λ i.
    if e0 i then [] else (if e1 i then clock_lines column (acr_of p v) else (if e2 i then sample_lines column (samples_of p v)
    else (if e3 i then control_lines column p.bodies else (if e4 i then info_lines column (frame_of p v) else other_words p ∷ []))))

pub carried_info : (t : ℕ) (p : Packet) (v : PacketVerdicts) (column : ℕ) → 128 ≤ t → info_lines column (frame_of p v) ≡ carried_lines t p v column
carried_info t p v column high = grind (arith, by_kind, ne_eqb, le-leb)

pub carried_other : (t : ℕ) (p : Packet) (v : PacketVerdicts) (column : ℕ) → 3 < t → t < 128 → other_words p ∷ [] ≡ carried_lines t p v column
carried_other t p v column low high = grind (arith, by_kind, ne_eqb, lt-leb)

info_unless : (column : ℕ) (lost : Option ℕ) (fits : Bool) (total : ℕ) (frame : Frame)
    → info_lines column (answer lost fits total frame) ≡ (if is_some lost then [] else info_lines column (answer lost fits total frame))
unfolding info_lines answer
info_unless column None fits total frame = refl
info_unless column (Some block) fits total frame = refl

-- nor has one of an InfoFrame
pub info_packet : (t : ℕ) (p : Packet) (v : PacketVerdicts) (column : ℕ) → 128 ≤ t → t ≡ slice_index p.header 0 → info_lines column (frame_of p v) ≡ packet_lines p v column
unfolding packet_lines frame_of
info_packet t p v column high is =
    info_unless column (first_lost v) _ _ _
    ∙ ap (λ (lines : List (List ℕ)). if is_some (first_lost v) then [] else lines) (carried_info t p v column high ∙ ap (λ (t : ℕ). carried_lines t p v column) is)
