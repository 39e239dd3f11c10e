-- A row that was worked out by hand: the content listing of two frames of two rows, the periods of its raster, and what is listed of its
-- columns from the first full alignment on. No VSYNC change was heard before the first frame, so the second alone is listed.
use Rattle.std.specs.Prelude.{◌≡◌, ℕ, true, false, List, [], ◌∷◌, ◌++◌, drop, codes, None}
use Rattle.tmds_word.specs.Bits.{row_bits}
use Rattle.tmds_word.specs.Column.{Column, blues, greens, reds}
use Rattle.lane_deskew.specs.Aligned.{aligned_columns}
use Rattle.island_pack.specs.Periods.{ControlRun, Period, control, video}
use Rattle.source_end.specs.Content.{Frame}
use Rattle.source_end.specs.Raster.{raster_of}
use Rattle.source_end.specs.RasterRefusals.{raster_fault}
use Rattle.source_end.specs.declared.mode.Mode.{Mode}
use Rattle.listing_reader.specs.ContentReading.{content_reads_as}
use Rattle.listing_reader.specs.LineSteps.{accepts}
use Rattle.listing_writer.specs.ContentText.{content_text}
use Rattle.period_grammar.specs.Heard.{heard}
use Rattle.worked_rows.specs.Island.{times}

unfoldable pub frame_text : List ℕ
frame_text = codes "row 112233445566\nrow 000000ffffff\nframe 2 2\n"

unfoldable pub content_listing : List ℕ
content_listing = codes "mode 2 1 2 14 2 1 1 1 0\n" ++ frame_text ++ frame_text ++ codes "end\n"

unfoldable pub recovered_listing : List ℕ
recovered_listing = frame_text ++ codes "end\n"

abbrev pub mode : Mode
mode = record { across = 2 ∷ 1 ∷ 2 ∷ 14 ∷ []; down = 2 ∷ 1 ∷ 1 ∷ 1 ∷ []; positive = false }

abbrev pub first_row : List ℕ
first_row = 0x11 ∷ 0x22 ∷ 0x33 ∷ 0x44 ∷ 0x55 ∷ 0x66 ∷ []

abbrev pub second_row : List ℕ
second_row = 0 ∷ 0 ∷ 0 ∷ 255 ∷ 255 ∷ 255 ∷ []

abbrev pub frame : Frame
frame = record { packets = []; rows = first_row ∷ second_row ∷ [] }

-- a run of control columns
abbrev pub columns_of : ℕ → ℕ → ControlRun
columns_of value count = record { value = value; count = count }

-- a frame's control columns before its first row: a line with VSYNC and one without, and those before the row
abbrev pub before_rows : List ControlRun
before_rows = columns_of 0 2 ∷ columns_of 1 17 ∷ columns_of 2 2 ∷ columns_of 3 17 ∷ columns_of 2 2 ∷ columns_of 3 4 ∷ columns_of 7 8 ∷ []

abbrev pub between_rows : List ControlRun
between_rows = columns_of 3 1 ∷ columns_of 2 2 ∷ columns_of 3 4 ∷ columns_of 7 8 ∷ []

abbrev pub after_rows : List ControlRun
after_rows = columns_of 3 1 ∷ columns_of 2 2 ∷ columns_of 3 17 ∷ []

unfoldable pub raster : List Period
raster =
    control before_rows ∷ video first_row ∷ control between_rows ∷ video second_row
    ∷ control (after_rows ++ before_rows) ∷ video first_row ∷ control between_rows ∷ video second_row ∷ control (after_rows ++ (columns_of 0 32 ∷ [])) ∷ []

-- the columns of a frame's blanking before its rows, of its rows, and of the line after them
abbrev pub frame_columns : List Column → List Column
frame_columns rest =
    times 2 0x354 0x354 0x354 (times 17 0x0ab 0x354 0x354 (times 2 0x154 0x354 0x354 (times 17 0x2ab 0x354 0x354 (times 2 0x154 0x354 0x354 (times 4 0x2ab 0x354 0x354 (times 8 0x2ab 0x0ab 0x354
    (times 2 0x2cc 0x133 0x2cc (times 1 0x111 0x11e 0x10f (times 1 0x277 0x133 0x13c (times 1 0x2ab 0x354 0x354 (times 2 0x154 0x354 0x354 (times 4 0x2ab 0x354 0x354 (times 8 0x2ab 0x0ab 0x354
    (times 2 0x2cc 0x133 0x2cc (times 1 0x100 0x100 0x100 (times 1 0x0ff 0x0ff 0x0ff (times 1 0x2ab 0x354 0x354 (times 2 0x154 0x354 0x354 (times 17 0x2ab 0x354 0x354 rest)))))))))))))))))))

unfoldable pub content_columns : List Column
content_columns = frame_columns (frame_columns (times 32 0x354 0x354 0x354 []))

-- the listing reads as the mode and the frames
abbrev pub ContentIsRead : Type 0
ContentIsRead = content_reads_as content_listing ≡ accepts (mode, (frame ∷ frame ∷ []))

-- they have a raster, which is these periods
pub record ContentIsRaster : Type 0 where
  pub taken : raster_fault mode (frame ∷ frame ∷ []) ≡ None
  pub periods : raster_of mode (frame ∷ frame ∷ []) ≡ raster

-- what is heard of the columns, aligned where the first control period ends, has this content listing
abbrev pub ContentIsHeard : Type 0
ContentIsHeard =
    content_text (heard (aligned_columns (row_bits (blues content_columns)) (row_bits (greens content_columns)) (row_bits (reds content_columns)) 520 520 520)) ≡ recovered_listing
