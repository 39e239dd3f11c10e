-- The lines `row ..` and `! ragged ..` of a line of pixels that stands alone, in a content listing.
use Rattle.std.proofs.Common.{arith, ◌≡◌, ℕ, zero, suc, ◌+◌, ◌/◌, Bool, true, false, not, ◌&&◌, if◌then◌else◌, List, [], ◌∷◌, ◌++◌, map, length, drop, replicate, reverse, refl, sym, ap, ap₂, ◌∙◌, append_assoc, append-nil}
use Rattle.std.specs.Prelude.{codes}
use Rattle.std.specs.List.{filter, flat_map}
use Rattle.std.proofs.lemmas.List.{map-append, reverse-append}
use Rattle.std.proofs.lemmas.List.Elements.{filter-append, filter_map-append}
use Rattle.hex.specs.Hex.{encode_lower}
use Rattle.tmds_word.specs.Column.{Column}
use Rattle.terc4.specs.Columns.{is_video_guard}
use Rattle.island_pack.specs.Periods.{video, pixels_of}
use Rattle.period_grammar.specs.Events.{Event, line, preamble, guard, all_at, event_of}
use Rattle.period_grammar.specs.Heard.{if_not, codes_of}
use Rattle.period_grammar.specs.Island.{if_so, wrong_guards}
use Rattle.period_grammar.proofs.Hearings.{events_at}
use Rattle.frame_build.specs.FrameEvent.{FrameEvent, other}
use Rattle.frame_build.specs.Change.{has_change, since_change}
use Rattle.frame_build.specs.Group.{widths, width_of, reported_count, is_unlike, line_at}
use Rattle.frame_build.specs.declared.LineNote.{LineNote}
use Rattle.link_laws.specs.Account.{pixel_bytes, video_row, open_video_row}
use Rattle.link_laws.specs.Literal.{video_placed, period_placed}
use Rattle.listing_writer.specs.Fields.{with_fields}
use Rattle.listing_writer.specs.ContentText.{row_lines, frame_event_of, frame_events, lines_at, lines_after, content_lines}
use Rattle.listing_writer.specs.GrowingContent.{lines_after_append}
use Rattle.listing_writer.specs.Listed as pictures
use Rattle.listing_laws.specs.ListingLaws.{tells_picture}
use Rattle.listing_laws.proofs.PictureLines.{reported_lines, event_lines}

-- Events that frames do not see.

abbrev AreOther : List Event → Type 0
AreOther [] = Unit {0}
AreOther (event ∷ events) = (frame_event_of event ≡ other) × AreOther events

other_both : (ts us : List Event) → AreOther ts → AreOther us → AreOther (ts ++ us)
other_both [] us h k = k
other_both (t ∷ ts) us h k = (h.0, other_both ts us h.1 k)

other_preamble : (p : Bool) (b : ℕ) → AreOther (if_not p (preamble b))
unfolding frame_event_of
other_preamble true b = tt
other_preamble false b = (refl, tt)

other_guard : (p : Bool) (b : ℕ) → AreOther (if_so p (guard b))
unfolding frame_event_of
other_guard true b = (refl, tt)
other_guard false b = tt

other_open : (b : ℕ) (before rs : List Column) → AreOther (open_video_row b before rs)
unfolding open_video_row
other_open b before [] = tt
other_open b before (g ∷ []) = tt
other_open b before (g ∷ (h ∷ rs)) =
    other_both _ (wrong_guards is_video_guard b g h) (other_preamble _ b)
    (other_both (if_so (not (is_video_guard g)) (guard b)) (if_so (not (is_video_guard h)) (guard (b + 1))) (other_guard (not (is_video_guard g)) b) (other_guard (not (is_video_guard h)) (b + 1)))

others : (ts : List Event) → AreOther ts → frame_events ts ≡ replicate (length ts) other
others [] h = refl
others (t ∷ ts) h = ap₂ (λ (e : FrameEvent) (es : List FrameEvent). e ∷ es) h.0 (others ts h.1)

-- they change nothing of what is said of a line

-- of events with the newest first
abbrev note_of : List FrameEvent → ℕ → LineNote
note_of past width =
    let ws = widths (reverse (since_change past)) in
    record { counts = has_change past; ragged = has_change past && is_unlike ws width; row = reported_count (length ws) }

last_other : (xs : List FrameEvent) → widths (reverse (other ∷ xs)) ≡ widths (reverse xs)
last_other xs = ap widths (reverse-append (other ∷ []) xs) ∙ filter_map-append width_of (reverse xs) (reverse (other ∷ [])) ∙ append-nil (widths (reverse xs))

note_other : (past : List FrameEvent) (width : ℕ) → note_of (other ∷ past) width ≡ note_of past width
note_other past width =
    ap (λ (ws : List ℕ). record { counts = has_change past; ragged = has_change past && is_unlike ws width; row = reported_count (length ws) }) (last_other (since_change past))

line_other : (reported : List FrameEvent) (width : ℕ) → line_at (reported ++ other ∷ []) width ≡ line_at reported width
line_other reported width = ap (λ (past : List FrameEvent). note_of past width) (reverse-append reported (other ∷ [])) ∙ note_other (reverse reported) width

line_others : (n : ℕ) (reported : List FrameEvent) (width : ℕ) → line_at (reported ++ replicate n other) width ≡ line_at reported width
line_others zero reported width = ap (λ (es : List FrameEvent). line_at es width) (append-nil reported)
line_others (suc n) reported width =
    ap (λ (es : List FrameEvent). line_at es width) (sym (append_assoc reported (other ∷ []) (replicate n other)))
    ∙ line_others n (reported ++ other ∷ []) width
    ∙ line_other reported width

-- nor do they give lines of rows or frames

no_picture : (event : Event) (reported : List Event) → frame_event_of event ≡ other → filter tells_picture (lines_at reported event) ≡ []
no_picture event reported h = event_lines reported event ∙ ap (λ (e : FrameEvent). flat_map reported_lines (pictures.listed_by e (pictures.bytes_of event) (frame_events reported))) h

no_pictures : (reported ts : List Event) → AreOther ts → filter tells_picture (lines_after reported ts) ≡ []
unfolding lines_after
no_pictures reported [] h = refl
no_pictures reported (t ∷ ts) h =
    filter-append tells_picture (lines_at reported t) (lines_after (reported ++ t ∷ []) ts)
    ∙ ap₂ (λ (xs ys : List (List ℕ)). xs ++ ys) (no_picture t reported h.0) (no_pictures (reported ++ t ∷ []) ts h.1)

-- A line.

row_by : (counting ragged : Bool) (pixels : List ℕ) (n : ℕ)
    → filter tells_picture (if counting then (codes "row " ++ encode_lower pixels) ∷ (if ragged then with_fields (codes "! ragged") (n ∷ []) ∷ [] else []) else [])
    ≡ (if counting then (codes "row " ++ encode_lower pixels) ∷ (if ragged then with_fields (codes "! ragged") (n ∷ []) ∷ [] else []) else [])
row_by counting ragged pixels n = grind arith

row_told : (pixels : List ℕ) (note : LineNote) → filter tells_picture (row_lines pixels note) ≡ row_lines pixels note
unfolding row_lines
row_told pixels note = row_by note.counts note.ragged pixels note.row

line_told : (reported : List Event) (pixels : List ℕ) → filter tells_picture (lines_at reported (line pixels)) ≡ row_lines pixels (line_at (frame_events reported) (length pixels / 3))
unfolding lines_at
line_told reported pixels = row_told pixels (line_at (frame_events reported) (length pixels / 3))

-- between what is listed of the events before it and more
row_between : (us os : List Event) (pixels : List ℕ) (rest : List Event) → AreOther os
    → (more : List (List ℕ))
    × (filter tells_picture (content_lines (us ++ (os ++ (line pixels ∷ rest))))
    ≡ filter tells_picture (content_lines us) ++ (row_lines pixels (line_at (frame_events us) (length pixels / 3)) ++ more))
unfolding content_lines lines_after
row_between us os pixels rest h =
    let row = lines_at (us ++ os) (line pixels) in
    let after = lines_after ((us ++ os) ++ line pixels ∷ []) rest in
    let more = filter tells_picture after in
    let note : line_at (frame_events (us ++ os)) (length pixels / 3) ≡ line_at (frame_events us) (length pixels / 3) =
    ap (λ (es : List FrameEvent). line_at es (length pixels / 3)) (map-append frame_event_of us os ∙ ap (λ (es : List FrameEvent). frame_events us ++ es) (others os h))
    ∙ line_others (length os) (frame_events us) (length pixels / 3) in
    let row_is : filter tells_picture row ≡ row_lines pixels (line_at (frame_events us) (length pixels / 3)) = line_told (us ++ os) pixels ∙ ap (row_lines pixels) note in
    let open_is : filter tells_picture (lines_after us (os ++ (line pixels ∷ rest))) ≡ row_lines pixels (line_at (frame_events us) (length pixels / 3)) ++ more =
    ap (filter tells_picture) (lines_after_append us os (line pixels ∷ rest))
    ∙ filter-append tells_picture (lines_after us os) (row ++ after)
    ∙ ap₂ (λ (xs ys : List (List ℕ)). xs ++ ys) (no_pictures us os h) (filter-append tells_picture row after)
    ∙ ap (λ (xs : List (List ℕ)). xs ++ more) row_is in (
      more,
      ap (filter tells_picture) (lines_after_append [] us (os ++ (line pixels ∷ rest)))
          ∙ filter-append tells_picture (lines_after [] us) (lines_after us (os ++ (line pixels ∷ rest)))
          ∙ ap (λ (xs : List (List ℕ)). filter tells_picture (lines_after [] us) ++ xs) open_is,
    )

-- a line of which the row is reported
pub line_between : (bytes : List ℕ) (b : ℕ) (before ss rs : List Column) (us later : List Event)
    → let pixels = pixel_bytes (pixels_of bytes) (drop 2 ss) (drop 2 rs) in
    (more : List (List ℕ))
    × (filter tells_picture (content_lines (us ++ (map event_of (period_placed b before (video bytes) ss rs) ++ later)))
    ≡ filter tells_picture (content_lines us) ++ (row_lines pixels (line_at (frame_events us) (length pixels / 3)) ++ more))
unfolding period_placed video_placed video_row
line_between bytes b before ss rs us later =
    let pixels = pixel_bytes (pixels_of bytes) (drop 2 ss) (drop 2 rs) in
    let os = open_video_row b before rs in
    let ds = codes_of (b + 2) (drop 2 rs) in
    let place = b + 2 + length (pixels_of bytes) in
    let law = row_between us os pixels (ds ++ later) (other_open b before rs) in
    let row : map event_of (all_at (b + 1) os ++ all_at place (line pixels ∷ ds)) ≡ os ++ (line pixels ∷ ds) =
    map-append event_of (all_at (b + 1) os) (all_at place (line pixels ∷ ds)) ∙ ap₂ (λ (ts vs : List Event). ts ++ vs) (events_at (b + 1) os) (events_at place (line pixels ∷ ds)) in (
      law.0,
      ap (λ (ts : List Event). filter tells_picture (content_lines (us ++ (ts ++ later)))) row
          ∙ ap (λ (ts : List Event). filter tells_picture (content_lines (us ++ ts))) (append_assoc os (line pixels ∷ ds) later)
          ∙ law.1,
    )
