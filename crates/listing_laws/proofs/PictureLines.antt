-- The lines `row ..`, `frame ..` and `! ragged ..` of a content listing are those of the rows and frames that are listed.
use Rattle.std.proofs.Common.{arith, ◌≡◌, ℕ, suc, ◌+◌, Bool, true, false, if◌then◌else◌, cond, List, [], ◌∷◌, ◌++◌, map, take, drop, Option, refl, sym, ap, ap₂, ◌∙◌}
use Rattle.std.specs.Prelude.{nat_lt, Result, codes}
use Rattle.std.specs.List.{filter, flat_map}
use Rattle.std.proofs.lemmas.List.{map-append}
use Rattle.std.proofs.lemmas.List.Elements.{filter-append}
use Rattle.std.proofs.lemmas.Grind.{flat_map-append}
use Rattle.island_pack.specs.declared.packet.Packet.{Packet}
use Rattle.island_pack.specs.declared.packet.PacketVerdicts.{PacketVerdicts}
use Rattle.period_grammar.specs.Events.{Event}
use Rattle.period_grammar.specs.Heard.{heard}
use Rattle.frame_build.specs.FrameEvent.{FrameEvent}
use Rattle.frame_build.specs.declared.FrameNote.{FrameNote}
use Rattle.infoframe.specs.Frames.{Frame}
use Rattle.infoframe.specs.declared.content.InfoKind.{InfoKind}
use Rattle.infoframe.specs.declared.content.InfoFault.{InfoFault}
use Rattle.audio_packets.specs.declared.clock.Acr.{Acr}
use Rattle.audio_packets.specs.declared.sample.SampleNote.{SampleNote}
use Rattle.audio_packets.specs.declared.fault.AudioFault.{AudioFault}
use Rattle.tmds_word.specs.Column.{Column}
use Rattle.source_end.specs.declared.mode.Mode.{Mode}
use Rattle.source_end.specs.Content.{Frame as Content}
use Rattle.source_end.specs.Raster.{total}
use Rattle.listing_writer.specs.Texts.{line_words}
use Rattle.listing_writer.specs.Fields.{with_fields}
use Rattle.listing_writer.specs.ContentText.{row_lines, vic_lines, frame_lines, clock_lines, sample_words, parity_words, side_lines, note_lines, sample_lines, depth_lines, control_words, control_lines, avi_words, audio_words, spd_words, raw_words, info_words, checksum_words, info_lines, other_words, carried_lines, packet_lines, frame_event_of, frame_events, lines_at, lines_after, content_lines}
use Rattle.listing_writer.specs.Listed.{Listed, row, frame, listed_at, listed_from}
use Rattle.listing_writer.specs.Listed as pictures
use Rattle.listing_laws.specs.FrameLaws.{active_at, counts, frames_received, is_reported, next_at, row_at, row_bytes, row_end, rows_received, whole_frame}
use Rattle.listing_laws.specs.ListingLaws.{tells_picture, line_of, FrameLinesComeBack}
use Rattle.listing_laws.proofs.Law.{frames_heard}

-- no line of these gives a row or a frame
abbrev NoPictures : List (List ℕ) → Type 0
NoPictures lines = filter tells_picture lines ≡ []

both_none : (xs ys : List (List ℕ)) → NoPictures xs → NoPictures ys → NoPictures (xs ++ ys)
both_none xs ys h k = filter-append tells_picture xs ys ∙ ap₂ (λ (a b : List (List ℕ)). a ++ b) h k

choice_none : (t : Bool) (xs ys : List (List ℕ)) → NoPictures xs → NoPictures ys → NoPictures (if t then xs else ys)
choice_none t xs ys h k = grind arith

-- Packets.

no_clock : (column : ℕ) (r : Result Acr AudioFault) → NoPictures (clock_lines column r)
unfolding clock_lines
no_clock column r = grind arith

no_left : (column place : ℕ) (even : Bool) → NoPictures (side_lines column place (codes "l") even)
unfolding parity_words
no_left column place even = grind arith

no_right : (column place : ℕ) (even : Bool) → NoPictures (side_lines column place (codes "r") even)
unfolding parity_words
no_right column place even = grind arith

no_notes : (column : ℕ) (notes : List SampleNote) → NoPictures (flat_map (note_lines column) notes)
unfolding note_lines sample_words
no_notes column [] = refl
no_notes column (note ∷ notes) = grind (arith, both_none, no_left, no_right, no_notes column notes)

no_samples : (column : ℕ) (r : Result (List SampleNote) AudioFault) → NoPictures (sample_lines column r)
unfolding sample_lines
no_samples column r = grind (arith, no_notes)

no_info_words : (kind : InfoKind) (f : Frame) → NoPictures (info_words kind f ∷ [])
unfolding info_words avi_words audio_words spd_words raw_words
no_info_words kind f = grind arith

no_info : (column : ℕ) (r : Result Frame InfoFault) → NoPictures (info_lines column r)
unfolding info_lines checksum_words
no_info column r = grind (arith, no_info_words)

no_carried : (type_code : ℕ) (p : Packet) (v : PacketVerdicts) (column : ℕ) → NoPictures (carried_lines type_code p v column)
unfolding carried_lines other_words control_lines control_words depth_lines
no_carried type_code p v column = grind (arith, choice_none, no_clock, no_samples, no_info, both_none)

-- Rows and frames.

no_vic : (vic : Option ℕ) (note : FrameNote) → NoPictures (vic_lines vic note)
unfolding vic_lines
no_vic vic note = grind (arith, choice_none)

-- the lines of a row, or of a frame
abbrev pub reported_lines : Listed → List (List ℕ)
reported_lines (row pixels note) = line_of (row pixels note) ∷ (if note.ragged then with_fields (codes "! ragged") (note.row ∷ []) ∷ [] else [])
reported_lines (frame note) = line_of (frame note) ∷ []

frame_line : (vic : Option ℕ) (o : Option FrameNote) → filter tells_picture (frame_lines vic o) ≡ flat_map reported_lines (pictures.listed_frames o)
unfolding frame_lines
frame_line vic o = grind (arith, no_vic)

ragged_line : (t : Bool) (n : ℕ)
    → filter tells_picture (if t then with_fields (codes "! ragged") (n ∷ []) ∷ [] else []) ≡ (if t then with_fields (codes "! ragged") (n ∷ []) ∷ [] else []) ++ []
ragged_line t n = grind arith

-- what is listed at an event
pub event_lines : (reported : List Event) (event : Event) → filter tells_picture (lines_at reported event) ≡ flat_map reported_lines (listed_at (frame_events reported) event)
unfolding lines_at frame_event_of line_words packet_lines row_lines
event_lines reported event = grind (arith, frame_line, ragged_line, choice_none, no_carried)

all_lines : (reported events : List Event) → filter tells_picture (lines_after reported events) ≡ flat_map reported_lines (listed_from (frame_events reported) events)
unfolding lines_after listed_from
all_lines reported [] = refl
all_lines reported (event ∷ events) =
    filter-append tells_picture (lines_at reported event) (lines_after (reported ++ event ∷ []) events)
    ∙ ap₂ (λ (xs ys : List (List ℕ)). xs ++ ys) (event_lines reported event)
    (all_lines (reported ++ event ∷ []) events ∙ ap (λ (es : List FrameEvent). flat_map reported_lines (listed_from es events)) (map-append frame_event_of reported (event ∷ [])))
    ∙ sym (flat_map-append reported_lines (listed_at (frame_events reported) event) (listed_from (frame_events reported ++ frame_event_of event ∷ []) events))

-- No row that was received is ragged.

abbrev IsEven : List Listed → Type 0
IsEven reported = flat_map reported_lines reported ≡ map line_of reported

even_both : (xs ys : List Listed) → IsEven xs → IsEven ys → IsEven (xs ++ ys)
even_both xs ys h k = flat_map-append reported_lines xs ys ∙ ap₂ (λ (a b : List (List ℕ)). a ++ b) h k ∙ sym (map-append line_of xs ys)

even_where : (t : Bool) (xs : List Listed) → IsEven xs → IsEven (cond t xs [])
even_where t xs h = grind arith

even_rows : (mode : Mode) (sent received : List Column) (e p y : ℕ) (rows : List (List ℕ)) → IsEven (rows_received mode sent received e p y rows)
unfolding rows_received
even_rows mode sent received e p y [] = refl
even_rows mode sent received e p y (bytes ∷ rows) =
    even_both (cond (nat_lt (p + row_end mode) e) (row (row_bytes sent received (p + row_at mode) bytes) (record { counts = true; ragged = false; row = y }) ∷ []) [])
    (rows_received mode sent received e (p + total mode.across) (suc y) rows)
    (even_where (nat_lt (p + row_end mode) e) (row (row_bytes sent received (p + row_at mode) bytes) (record { counts = true; ragged = false; row = y }) ∷ []) refl)
    (even_rows mode sent received e (p + total mode.across) (suc y) rows)

even_frames : (mode : Mode) (sent received : List Column) (a e p : ℕ) (frames : List Content) → IsEven (frames_received mode sent received a e p frames)
unfolding frames_received
even_frames mode sent received a e p [] = refl
even_frames mode sent received a e p (f ∷ frames) =
    let rows = rows_received mode sent received e (active_at mode p) 0 f.rows in
    let last = cond (is_reported mode received a e p) (whole_frame mode ∷ []) [] in
    even_both (cond (counts mode received a e p) (rows ++ last) []) (frames_received mode sent received a e (next_at mode p) frames)
    (even_where (counts mode received a e p) (rows ++ last)
    (even_both rows last (even_rows mode sent received e (active_at mode p) 0 f.rows) (even_where (is_reported mode received a e p) (whole_frame mode ∷ []) refl)))
    (even_frames mode sent received a e (next_at mode p) frames)

pub frame_lines_come_back : FrameLinesComeBack
unfolding content_lines
frame_lines_come_back mode frames fault sent received reception a m end le =
    all_lines [] (heard (take m (drop a received))) ∙ ap (flat_map reported_lines) (frames_heard mode frames fault sent received reception a m end le)
    ∙ even_frames mode sent received a (a + m) 0 frames
