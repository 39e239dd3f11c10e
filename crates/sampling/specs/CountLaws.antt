-- What the counts say of the generator's content: a reported frame is compared with the frame of the content
-- that it is.
use Rattle.std.specs.Prelude.{◌≡◌, ◌≤◌, ⊤, ℕ, ◌+◌, true, List, [], ◌∷◌, length, take, drop, sum_by, zip, None}
use Rattle.std.specs.List.{AllByRecursion}
use Rattle.tmds_word.specs.Column.{Column}
use Rattle.period_grammar.specs.Heard.{heard}
use Rattle.link_laws.specs.Laws.{ReceivedOf, EndsControl}
use Rattle.source_end.specs.declared.mode.Mode.{Mode}
use Rattle.source_end.specs.Content.{Frame}
use Rattle.source_end.specs.Generator.{IsGenerated}
use Rattle.source_end.specs.Raster.{total, raster_of}
use Rattle.source_end.specs.RasterRefusals.{raster_fault}
use Rattle.listing_writer.specs.Listed.{listed}
use Rattle.listing_laws.specs.FrameLaws.{back_at, active_at, next_at, row_at, counts, is_reported, row_bytes as row_received}
use Rattle.sampling.specs.Counts.{reported_frames, unlike, unlike_reported}
use Rattle.sampling.specs.Sampled.{sample_mode}

-- how many bytes of a row differ from those of the row beside it
abbrev pub unlike_beside : List ℕ × List ℕ → ℕ
unlike_beside (bytes, others) = unlike bytes others

-- and of the rows of a reported frame, from those of the frame beside it
unfoldable pub unlike_picture : List (List ℕ) × Frame → ℕ
unlike_picture (rows, f) = sum_by unlike_beside (zip rows f.rows)

-- rows as many and as long as those of the generator, or fewer and shorter
pub record FitsPicture (rows : List (List ℕ)) : Type 0 where
  pub few : length rows ≤ 480
  pub short : AllByRecursion (λ bytes. length bytes ≤ 1920) rows

-- of reported frames, no more than the content has after its first and no larger, so many bytes differ from the
-- generator's as differ from those of the content's frames after its first, frame beside frame and row beside row
abbrev pub ReportedBesideContent : Type 0
ReportedBesideContent =
    (n : ℕ) (content : List Frame) → IsGenerated n content
    → (reported : List (List (List ℕ))) → length reported + 1 ≤ n → AllByRecursion FitsPicture reported
    → unlike_reported reported ≡ sum_by unlike_picture (zip reported (drop 1 content))

-- rows as received, the first of them in the line that begins at column p: each as sent where its words were received
-- as sent, else as the received words say
unfoldable pub rows_as_received : Mode → List Column → List Column → ℕ → List (List ℕ) → List (List ℕ)
rows_as_received mode sent received p [] = []
rows_as_received mode sent received p (bytes ∷ rows) = row_received sent received (p + row_at mode) bytes ∷ rows_as_received mode sent received (p + total mode.across) rows

-- the rows of frames as they were received, the first of which begins at column p
unfoldable pub frames_as_received : Mode → List Column → List Column → ℕ → List Frame → List (List (List ℕ))
frames_as_received mode sent received p [] = []
frames_as_received mode sent received p (f ∷ frames) = rows_as_received mode sent received (active_at mode p) f.rows ∷ frames_as_received mode sent received (next_at mode p) frames

-- three neighbouring columns of the sync lines of each of these frames were received, and three after its rows
abbrev pub AreHeard : Mode → List Column → ℕ → ℕ → ℕ → List Frame → Type 0
AreHeard mode received a e p [] = ⊤
AreHeard mode received a e p (f ∷ frames) = (counts mode received a e p ≡ true) × (is_reported mode received a e p ≡ true) × AreHeard mode received a e (next_at mode p) frames

-- of what is heard of a raster from a column after the sync lines of its first frame on, the frames that are reported
-- are those after the first, one after another, with their rows as received: wherever sparse damage lies, where their
-- sync lines are heard
abbrev pub ReportedAfterFirst : Type 0
ReportedAfterFirst =
    (mode : Mode) (first : Frame) (frames : List Frame) → raster_fault mode (first ∷ frames) ≡ None
    → (sent received : List Column) → ReceivedOf (raster_of mode (first ∷ frames)) sent received
    → (a m : ℕ) → EndsControl (raster_of mode (first ∷ frames)) (a + 11) → a + m ≤ length received
    → back_at mode 0 ≤ a → AreHeard mode received a (a + m) (next_at mode 0) frames
    → reported_frames [] (listed (heard (take m (drop a received)))) ≡ frames_as_received mode sent received (next_at mode 0) frames

-- so are those of the generator's raster: its frames from frame 1 on
abbrev pub GeneratedInOrder : Type 0
GeneratedInOrder =
    (n : ℕ) (content : List Frame) → IsGenerated n content → 1 ≤ n → n ≤ 20
    → (sent received : List Column) → ReceivedOf (raster_of sample_mode content) sent received
    → (a m : ℕ) → EndsControl (raster_of sample_mode content) (a + 11) → a + m ≤ length received
    → back_at sample_mode 0 ≤ a → AreHeard sample_mode received a (a + m) (next_at sample_mode 0) (drop 1 content)
    → reported_frames [] (listed (heard (take m (drop a received)))) ≡ frames_as_received sample_mode sent received (next_at sample_mode 0) (drop 1 content)
