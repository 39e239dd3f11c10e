-- What `recover dvi` lists of a capture of a stream without guard columns, of which anything may have been received after the
-- alignment: of each line that was received with at most one damaged word a column, after twelve control columns and before one,
-- its row.
use Rattle.std.specs.Prelude.{◌≡◌, ◌⊎◌, ◌+◌, ◌-◌, ◌<◌, ◌≤◌, ℕ, true, List, ◌∷◌, ◌++◌, length, map, take, drop, Option}
use Rattle.std.specs.Io.KnownBytes.{Appends}
use Rattle.capture_file.specs.Captures.{IsCaptureOf}
use Rattle.tmds_word.specs.Column.{Column}
use Rattle.tmds_word.specs.Taps.{IsTap, HasSmallSkew}
use Rattle.island_pack.specs.Conforming.{is_video_period}
use Rattle.island_pack.specs.Kinds.{EndsAt}
use Rattle.island_pack.specs.Periods.{Period, video, pixels_of}
use Rattle.period_grammar.specs.Events.{Event, event_of}
use Rattle.source_end.specs.DviPeriods.{dvi_columns, dvi_columns_of, dvi_kinds}
use Rattle.dvi_hearing.specs.DviHeard.{dvi_so_far, dvi_heard}
use Rattle.link_laws.specs.Laws.{BeginColumn}
use Rattle.dvi_laws.specs.DviAccount.{dvi_video_row}
use Rattle.dvi_laws.specs.DviLocal.{line_part, DviStandsAlone, DviReceivedUntil, DviAlignsUntil, DviHoldsUntil}
use Rattle.hdmi_cli.specs.Headline.{TappedStream, aligned_of, IsFirstOf}
use Rattle.capture_commands.specs.Listings.{link_listing}
use Rattle.capture_commands.specs.Outcome.{status_with}

-- its bytes are the capture, of either version, of a tap of columns of a stream without guard columns, received with sparse damage
-- of its pixels up to a column and as any characters after it
pub record IsDviTappedUntil (t : TappedStream) (until : ℕ) : Type 0 where
  pub reception : DviReceivedUntil t.periods t.sent t.received until
  pub tap : IsTap t.received t.offset t.skews t.counts t.blue t.green t.red
  pub small : HasSmallSkew t.skews
  pub captured : IsCaptureOf t.blue t.green t.red t.bytes

-- the lanes' bits up to a column have a first full alignment; or that column is the first one after a control period, and each lane
-- of the tap has it, with the twelve before it
abbrev pub DviAlignsBy : TappedStream → ℕ → Type 0
DviAlignsBy t until =
    ((d e f : ℕ) × DviAlignsUntil t.received t.offset t.skews t.counts until d e f)
    ⊎ DviHoldsUntil t.periods t.offset t.skews t.counts until

-- the row of a line that stands at column j, counted from column a on: what the account has of it
abbrev pub dvi_row_of : TappedStream → ℕ → List ℕ → ℕ → List Event
dvi_row_of t a bytes j = dvi_video_row (j - a) (pixels_of bytes) (line_part j bytes t.sent) (line_part j bytes t.received)

-- what is reported of the columns from column a on before the second column of a line that stands at column j
abbrev pub dvi_reported_to : ℕ → ℕ → List Column → List Event
dvi_reported_to a j aligned = map event_of (dvi_so_far (take (j - a + 1) aligned))

-- a line at column j is reported as its row, between what is reported before its second column and what follows; and the text
-- begins with the lines of what is reported to the row's end
pub record HasDviRow (t : TappedStream) (a j : ℕ) (bytes : List ℕ) (aligned : List Column) : Type 0 where
  pub later : List Event
  pub reported : dvi_heard aligned ≡ dvi_reported_to a j aligned ++ (dvi_row_of t a bytes j ++ later)
  pub more : List ℕ
  pub listed : link_listing.text (dvi_heard aligned) ≡ link_listing.lines (dvi_reported_to a j aligned ++ dvi_row_of t a bytes j) ++ more

-- so is each line that stands alone within the aligned columns
abbrev pub HasDviRows : TappedStream → ℕ → List Column → Type 0
HasDviRows t a aligned =
    (front : List Period) (bytes : List ℕ) (back : List Period) → t.periods ≡ front ++ (video bytes ∷ back) → is_video_period bytes ≡ true
    → DviStandsAlone t.received bytes t.sent (dvi_columns_of front) → a + 12 ≤ dvi_columns_of front
    → dvi_columns_of front + dvi_columns (video bytes) < a + length aligned
    → HasDviRow t a (dvi_columns_of front) bytes aligned

-- the output grew by the listing of what is heard of the columns that are aligned at three edges, which are received columns
-- from column a on, twelve before the end of a control period; and it has the rows of each line that stands alone
pub record IsDviHeardFrom (t : TappedStream) (d e f a status : ℕ) (old new : Option (List ℕ)) : Type 0 where
  pub ends : EndsAt (dvi_kinds t.periods) (a + 11)
  pub begins : BeginColumn t.offset t.skews (a + 12) d e f
  pub columns : aligned_of t d e f ≡ take (length (aligned_of t d e f)) (drop a t.received)
  pub status_is : status ≡ status_with (link_listing.faults (dvi_heard (aligned_of t d e f)))
  pub written : Appends old new (link_listing.text (dvi_heard (aligned_of t d e f)))
  pub rows : HasDviRows t a (aligned_of t d e f)

-- from the first full alignment on, which is at or before a column; lanes that have one by then have it at these edges, since lists
-- of bits have one first full alignment
abbrev pub IsDviHeardBy : TappedStream → ℕ → ℕ → Option (List ℕ) → Option (List ℕ) → Type 0
IsDviHeardBy t until status old new =
    (d e f : ℕ) × IsFirstOf t d e f × ((a : ℕ) × (a + 12 ≤ until) × IsDviHeardFrom t d e f a status old new)
