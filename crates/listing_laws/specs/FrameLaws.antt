-- Frames and rows of a raster that was received with sparse damage, wherever it lies: which are listed, and
-- with which bytes.
use Rattle.std.specs.Prelude.{◌≡◌, ℕ, suc, ◌+◌, ◌-◌, ◌*◌, ◌/◌, ◌≤◌, Bool, true, false, ◌&&◌, ◌||◌, cond, min, max, List, [], ◌∷◌, ◌++◌, length, take, drop, nat_lt, None}
use Rattle.tmds_word.specs.Column.{Column}
use Rattle.terc4.specs.Columns.{is_control_column}
use Rattle.island_pack.specs.Periods.{pixels_of}
use Rattle.period_grammar.specs.Column.{value_of}
use Rattle.period_grammar.specs.Heard.{heard}
use Rattle.frame_build.specs.FrameEvent.{vsync_of}
use Rattle.link_laws.specs.Account.{pixel_bytes, account}
use Rattle.link_laws.specs.Laws.{ReceivedOf, EndsControl}
use Rattle.source_end.specs.declared.mode.Mode.{Mode}
use Rattle.source_end.specs.Content.{Frame}
use Rattle.source_end.specs.Raster.{active, front, sync, back, total, level, raster_of}
use Rattle.source_end.specs.RasterRefusals.{raster_fault}
use Rattle.listing_writer.specs.Listed.{Listed, row, frame, listed}

-- Places. A frame's first column is column p.

-- the first column of its back lines, of its active lines, of its front lines, and of the next frame
abbrev pub back_at : Mode → ℕ → ℕ
back_at mode p = p + sync mode.down * total mode.across

abbrev pub active_at : Mode → ℕ → ℕ
active_at mode p = back_at mode p + back mode.down * total mode.across

abbrev pub front_at : Mode → ℕ → ℕ
front_at mode p = active_at mode p + active mode.down * total mode.across

abbrev pub next_at : Mode → ℕ → ℕ
next_at mode p = front_at mode p + front mode.down * total mode.across

-- the first pixel of a row in its line, and the column after its last
abbrev pub row_at : Mode → ℕ
row_at mode = sync mode.across + back mode.across

abbrev pub row_end : Mode → ℕ
row_end mode = row_at mode + active mode.across

-- What was received: columns a up to e of those received.

-- those from column i on, before column j
abbrev pub reception : List Column → ℕ → ℕ → ℕ → ℕ → List Column
reception received a e i j = take (min j e - max i a) (drop (max i a) received)

-- a control column with VSYNC at its active level
abbrev pub is_sync : Mode → Column → Bool
is_sync mode c = is_control_column c && level (vsync_of (value_of c)) mode.positive

-- three neighbouring ones
unfoldable pub has_sync : Mode → List Column → Bool
has_sync mode (c ∷ (d ∷ (e ∷ cs))) = (is_sync mode c && (is_sync mode d && is_sync mode e)) || has_sync mode (d ∷ (e ∷ cs))
has_sync mode _ = false

-- a frame counts where three neighbouring control columns of its sync lines, with VSYNC active, was received
abbrev pub counts : Mode → List Column → ℕ → ℕ → ℕ → Bool
counts mode received a e p = has_sync mode (reception received a e p (back_at mode p))

-- and is reported where three such columns were received after its rows
abbrev pub is_reported : Mode → List Column → ℕ → ℕ → ℕ → Bool
is_reported mode received a e p = has_sync mode (reception received a e (front_at mode p) e)

-- the bytes of a row whose first pixel is column x: as sent where their words were received as sent, else those of the
-- received words
abbrev pub row_bytes : List Column → List Column → ℕ → List ℕ → List ℕ
row_bytes sent received x bytes = pixel_bytes (pixels_of bytes) (take (length bytes / 3) (drop x sent)) (take (length bytes / 3) (drop x received))

-- rows from row y on, the line of which begins at column p: a row is reported where it and the column after
-- it were received
unfoldable pub rows_received : Mode → List Column → List Column → ℕ → ℕ → ℕ → List (List ℕ) → List Listed
rows_received mode sent received e p y [] = []
rows_received mode sent received e p y (bytes ∷ rows) =
    cond (nat_lt (p + row_end mode) e) (row (row_bytes sent received (p + row_at mode) bytes) (record { counts = true; ragged = false; row = y }) ∷ []) []
    ++ rows_received mode sent received e (p + total mode.across) (suc y) rows

-- a frame with the mode's active numbers
abbrev pub whole_frame : Mode → Listed
whole_frame mode = frame (record { width = active mode.across; height = active mode.down })

-- frames from the one that begins at column p on: of each that counts its rows, and the frame where it is reported
unfoldable pub frames_received : Mode → List Column → List Column → ℕ → ℕ → ℕ → List Frame → List Listed
frames_received mode sent received a e p [] = []
frames_received mode sent received a e p (f ∷ frames) =
    cond (counts mode received a e p)
    (rows_received mode sent received e (active_at mode p) 0 f.rows ++ cond (is_reported mode received a e p) (whole_frame mode ∷ []) [])
    []
    ++ frames_received mode sent received a e (next_at mode p) frames

-- what is listed, of pictures, of m columns from column a on, which is twelve before the end of a control period
abbrev pub FramesComeBack : Type 0
FramesComeBack =
    (mode : Mode) (frames : List Frame) → raster_fault mode frames ≡ None
    → (sent received : List Column) → ReceivedOf (raster_of mode frames) sent received
    → (a m : ℕ) → EndsControl (raster_of mode frames) (a + 11) → a + m ≤ length received
    → listed (account (raster_of mode frames) sent received a m) ≡ frames_received mode sent received a (a + m) 0 frames

-- the same of what is heard
abbrev pub FramesHeard : Type 0
FramesHeard =
    (mode : Mode) (frames : List Frame) → raster_fault mode frames ≡ None
    → (sent received : List Column) → ReceivedOf (raster_of mode frames) sent received
    → (a m : ℕ) → EndsControl (raster_of mode frames) (a + 11) → a + m ≤ length received
    → listed (heard (take m (drop a received))) ≡ frames_received mode sent received a (a + m) 0 frames
