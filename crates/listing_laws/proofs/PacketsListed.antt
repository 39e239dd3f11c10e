-- The lines of a content listing that give packets are those of the packets that are reported.
use Rattle.std.proofs.Common.{arith, ◌≡◌, ℕ, Bool, true, false, if◌then◌else◌, List, [], ◌∷◌, ◌++◌, Option, refl, sym, ap₂, ◌∙◌, append-nil}
use Rattle.std.specs.Prelude.{Result, is_some, slice_index, codes}
use Rattle.std.specs.List.{filter, flat_map}
use Rattle.std.proofs.lemmas.List.Elements.{filter-append}
use Rattle.std.proofs.lemmas.Grind.{flat_map-append}
use Rattle.island_pack.specs.declared.packet.Packet.{Packet}
use Rattle.island_pack.specs.declared.packet.PacketVerdicts.{PacketVerdicts}
use Rattle.period_grammar.specs.Events.{Event}
use Rattle.frame_build.specs.declared.FrameNote.{FrameNote}
use Rattle.frame_build.specs.declared.LineNote.{LineNote}
use Rattle.island_pack.specs.Taken.{first_lost}
use Rattle.infoframe.specs.Frames.{Frame}
use Rattle.infoframe.specs.declared.content.InfoKind.{InfoKind}
use Rattle.infoframe.specs.declared.content.InfoFault.{InfoFault}
use Rattle.audio_packets.specs.declared.clock.Acr.{Acr}
use Rattle.audio_packets.specs.declared.sample.SampleNote.{SampleNote}
use Rattle.audio_packets.specs.declared.fault.AudioFault.{AudioFault}
use Rattle.listing_writer.specs.Texts.{line_words}
use Rattle.listing_writer.specs.ContentText.{row_lines, vic_lines, frame_lines, clock_lines, sample_words, parity_words, side_lines, note_lines, sample_lines, depth_lines, control_words, control_lines, avi_words, audio_words, spd_words, raw_words, info_words, checksum_words, info_lines, other_words, carried_lines, packet_lines, lines_at, lines_after, content_lines}
use Rattle.listing_laws.specs.PacketLaws.{ReportedPacket, reported_packet, reported_packets}
use Rattle.listing_laws.specs.ListingLaws.{tells_packet, reported_lines, PacketLinesAreListed}

-- each of these lines gives a packet, or none does
abbrev AllPackets : List (List ℕ) → Type 0
AllPackets lines = filter tells_packet lines ≡ lines

abbrev NoPackets : List (List ℕ) → Type 0
NoPackets lines = filter tells_packet lines ≡ []

both_all : (xs ys : List (List ℕ)) → AllPackets xs → AllPackets ys → AllPackets (xs ++ ys)
both_all xs ys h k = filter-append tells_packet xs ys ∙ ap₂ (λ (a b : List (List ℕ)). a ++ b) h k

choice_all : (t : Bool) (xs ys : List (List ℕ)) → AllPackets xs → AllPackets ys → AllPackets (if t then xs else ys)
choice_all t xs ys h k = grind arith

choice_none : (t : Bool) (xs ys : List (List ℕ)) → NoPackets xs → NoPackets ys → NoPackets (if t then xs else ys)
choice_none t xs ys h k = grind arith

-- Packets.

all_clock : (column : ℕ) (r : Result Acr AudioFault) → AllPackets (clock_lines column r)
unfolding clock_lines
all_clock column r = grind arith

all_left : (column place : ℕ) (even : Bool) → AllPackets (side_lines column place (codes "l") even)
unfolding parity_words
all_left column place even = grind arith

all_right : (column place : ℕ) (even : Bool) → AllPackets (side_lines column place (codes "r") even)
unfolding parity_words
all_right column place even = grind arith

all_notes : (column : ℕ) (notes : List SampleNote) → AllPackets (flat_map (note_lines column) notes)
unfolding note_lines sample_words
all_notes column [] = refl
all_notes column (note ∷ notes) = grind (arith, both_all, all_left, all_right, all_notes column notes)

all_samples : (column : ℕ) (r : Result (List SampleNote) AudioFault) → AllPackets (sample_lines column r)
unfolding sample_lines
all_samples column r = grind (arith, all_notes)

all_info_words : (kind : InfoKind) (f : Frame) → AllPackets (info_words kind f ∷ [])
unfolding info_words avi_words audio_words spd_words raw_words
all_info_words kind f = grind arith

all_info : (column : ℕ) (r : Result Frame InfoFault) → AllPackets (info_lines column r)
unfolding info_lines checksum_words
all_info column r = grind (arith, all_info_words)

all_carried : (type_code : ℕ) (p : Packet) (v : PacketVerdicts) (column : ℕ) → AllPackets (carried_lines type_code p v column)
unfolding carried_lines other_words control_lines control_words depth_lines
all_carried type_code p v column = grind (arith, choice_all, all_clock, all_samples, all_info, both_all)

all_packet : (p : Packet) (v : PacketVerdicts) (column : ℕ) → AllPackets (packet_lines p v column)
unfolding packet_lines
all_packet p v column = choice_all (is_some (first_lost v)) [] (carried_lines (slice_index p.header 0) p v column) refl (all_carried (slice_index p.header 0) p v column)

-- Rows and frames.

no_row : (pixels : List ℕ) (note : LineNote) → NoPackets (row_lines pixels note)
unfolding row_lines
no_row pixels note = grind (arith, choice_none)

no_vic : (vic : Option ℕ) (note : FrameNote) → NoPackets (vic_lines vic note)
unfolding vic_lines
no_vic vic note = grind (arith, choice_none)

no_frame : (vic : Option ℕ) (o : Option FrameNote) → NoPackets (frame_lines vic o)
unfolding frame_lines
no_frame vic o = grind (arith, no_vic)

-- what is listed at an event
event_lines : (reported : List Event) (event : Event) → filter tells_packet (lines_at reported event) ≡ flat_map reported_lines (reported_packet event)
unfolding lines_at line_words
event_lines reported event = grind (arith, no_row, no_frame, all_packet, append-nil)

all_lines : (reported events : List Event) → filter tells_packet (lines_after reported events) ≡ flat_map reported_lines (reported_packets events)
unfolding lines_after reported_packets
all_lines reported [] = refl
all_lines reported (event ∷ events) =
    filter-append tells_packet (lines_at reported event) (lines_after (reported ++ event ∷ []) events)
    ∙ ap₂ (λ (xs ys : List (List ℕ)). xs ++ ys) (event_lines reported event) (all_lines (reported ++ event ∷ []) events)
    ∙ sym (flat_map-append reported_lines (reported_packet event) (reported_packets events))

pub packet_lines_are_listed : PacketLinesAreListed
unfolding content_lines
packet_lines_are_listed events = all_lines [] events
