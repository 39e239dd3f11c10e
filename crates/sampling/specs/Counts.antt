-- What is counted of a content that was made by the generator, sent, damaged and recovered: of its content listing the lines
-- of each kind, and the bytes of pictures that are not the generator's.
use Rattle.std.specs.Prelude.{ℕ, ◌+◌, ◌-◌, ◌^◌, ◌==◌, Bool, true, false, cond, List, [], ◌∷◌, ◌++◌, length, min, sum_by, count_by, codes}
use Rattle.std.specs.List.{enumerate_from}
use Rattle.period_grammar.specs.Events.{Event, packet}
use Rattle.source_end.specs.Generator.{row_bytes}
use Rattle.listing_writer.specs.Fields.{with_fields, begins_with}
use Rattle.listing_writer.specs.ContentText.{content_lines, fault_line_count, text_of}
use Rattle.listing_writer.specs.Listed.{Listed, row, frame, listed}
use Rattle.sampling.specs.declared.counts.Counts.{Counts}

-- a count as it is kept: it stands still at the greatest u64
abbrev pub kept : ℕ → ℕ
kept n = min n (2 ^ 64 - 1)

-- how many lines begin so
unfoldable pub lines_with : List ℕ → List (List ℕ) → ℕ
lines_with first lines = count_by (begins_with first) lines

abbrev pub is_packet : Event → Bool
is_packet (packet p verdicts column) = true
is_packet _ = false

-- the rows of each reported frame; those after the last frame are of none
unfoldable pub reported_frames : List (List ℕ) → List Listed → List (List (List ℕ))
reported_frames rows [] = []
reported_frames rows (row bytes note ∷ later) = reported_frames (rows ++ bytes ∷ []) later
reported_frames rows (frame note ∷ later) = rows ∷ reported_frames [] later

-- how many bytes of two lists differ, place by place
abbrev pub unlike : List ℕ → List ℕ → ℕ
unlike (b ∷ bs) (c ∷ cs) = cond (b == c) 0 1 + unlike bs cs
unlike _ _ = 0

-- how many bytes of a row that is listed are not those of the row that has its number in the generator's frame f
abbrev pub unlike_row : ℕ → ℕ × List ℕ → ℕ
unlike_row f (y, bytes) = unlike bytes (row_bytes f y (length bytes))

-- how many bytes of the rows of a frame are not those of the generator's frame that has its number; its rows are numbered from 0
unfoldable pub unlike_frame : ℕ × List (List ℕ) → ℕ
unlike_frame (f, rows) = sum_by (unlike_row f) (enumerate_from 0 rows)

-- and of reported frames. The capture begins in the generator's frame 0, so that they are its frames from frame 1 on,
-- in order.
unfoldable pub unlike_reported : List (List (List ℕ)) → ℕ
unlike_reported frames = sum_by unlike_frame (enumerate_from 1 frames)

-- the ten counts of so many columns of which these events are reported
abbrev pub counts_of : ℕ → List Event → Counts
counts_of columns events =
    let lines = content_lines events in
    let symbols = kept (lines_with (codes "! symbols ") lines) in
    let mended = kept (lines_with (codes "! mended ") lines) in
    let code = kept (lines_with (codes "! code ") lines) in
    record {
      columns = columns;
      frames = kept (lines_with (codes "frame ") lines);
      rows = kept (lines_with (codes "row ") lines);
      packets = kept (count_by is_packet events);
      samples = kept (lines_with (codes "s ") lines);
      symbols = symbols;
      mended = mended;
      code = code;
      other = kept (fault_line_count lines) - (symbols + mended + code);
      differ = kept (unlike_reported (reported_frames [] (listed events)));
    }

-- the ten lines
unfoldable pub counts_text : Counts → List ℕ
counts_text c = text_of (
    with_fields (codes "columns") (c.columns ∷ []) ∷ with_fields (codes "frames") (c.frames ∷ []) ∷ with_fields (codes "rows") (c.rows ∷ [])
    ∷ with_fields (codes "packets") (c.packets ∷ []) ∷ with_fields (codes "samples") (c.samples ∷ []) ∷ with_fields (codes "symbols") (c.symbols ∷ [])
    ∷ with_fields (codes "mended") (c.mended ∷ []) ∷ with_fields (codes "code") (c.code ∷ []) ∷ with_fields (codes "other") (c.other ∷ [])
    ∷ with_fields (codes "differ") (c.differ ∷ []) ∷ [])
