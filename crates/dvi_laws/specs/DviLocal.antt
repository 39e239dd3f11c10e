-- Locality in streams without guard columns: whatever was received before and after it, a line that was received with at most
-- one damaged word a column, after control columns and before one, is reported as its row.
use Rattle.std.specs.Prelude.{◌≡◌, ℕ, ◌+◌, ◌-◌, ◌*◌, ◌<◌, ◌≤◌, Bool, true, List, [], ◌∷◌, ◌++◌, length, map, take, drop, slice_index}
use Rattle.tmds_word.specs.Column.{Column, blues, greens, reds}
use Rattle.tmds_word.specs.Taps.{part_of, IsTap, HasSmallSkew}
use Rattle.terc4.specs.Columns.{is_control_column}
use Rattle.lane_deskew.specs.Triples.{IsFirst}
use Rattle.lane_deskew.specs.Aligned.{aligned_columns}
use Rattle.island_pack.specs.Conforming.{is_video_period}
use Rattle.island_pack.specs.Kinds.{EndsAt, IsAfterControl}
use Rattle.island_pack.specs.Periods.{Period, video, pixels_of}
use Rattle.island_pack.specs.Sparse.{IsNarrow, column_at, unlike_at}
use Rattle.island_pack.specs.Spelling.{SpellsPixels}
use Rattle.period_grammar.specs.Events.{Event, all_at, event_of}
use Rattle.period_grammar.specs.Heard.{other_words}
use Rattle.source_end.specs.DviPeriods.{IsDviConforming, dvi_columns, dvi_columns_of, DviSpells, dvi_kinds, IsDviSparse, HasThree}
use Rattle.dvi_hearing.specs.DviHeard.{dvi_so_far, dvi_heard}
use Rattle.link_laws.specs.Laws.{BeginColumn, HoldsEnd}
use Rattle.link_laws.specs.Local.{twelve_before}
use Rattle.link_laws.specs.PeriodLaws.{AreControl}
use Rattle.dvi_laws.specs.DviAccount.{dvi_video_row}

-- columns of a line received with at most one damaged word each
pub record DviLineReceived (bytes : List ℕ) (sent received : List Column) : Type 0 where
  pub spelled : SpellsPixels (pixels_of bytes) sent
  pub same_length : length received ≡ length sent
  pub one_a_column : (i : ℕ) → unlike_at sent received i ≤ 1

-- after any columns and at least twelve control columns, and before a control column and any columns: all that is reported
-- from the second of its columns to that control column is the line's row, and that column's words that are no control words
abbrev pub DviLineAnywhere : Type 0
DviLineAnywhere =
    (bytes : List ℕ) (sent received : List Column) → is_video_period bytes ≡ true → DviLineReceived bytes sent received
    → (earlier before : List Column) (next : Column) (later : List Column) → AreControl before → is_control_column next ≡ true
    → let cs = earlier ++ (before ++ (received ++ next ∷ later)) in
    let b = length earlier + length before in
    let e = b + length received in
    dvi_so_far (take (e + 1) cs) ≡ dvi_so_far (take (b + 1) cs) ++ (all_at e (dvi_video_row b (pixels_of bytes) sent received) ++ all_at e (other_words e next))

-- In a stream.

-- the columns of a line that stands at column j
abbrev pub line_part : ℕ → List ℕ → List Column → List Column
line_part j bytes cs = take (dvi_columns (video bytes)) (drop j cs)

-- of a stream of which anything may have been received, a line at column j received with at most one damaged word a column,
-- after twelve control columns and before one
pub record DviStandsAlone (received : List Column) (bytes : List ℕ) (sent : List Column) (j : ℕ) : Type 0 where
  pub one_a_column : (i : ℕ) → unlike_at (line_part j bytes sent) (line_part j bytes received) i ≤ 1
  pub before : AreControl (twelve_before j received)
  pub next : is_control_column (column_at received (j + dvi_columns (video bytes))) ≡ true

-- it is reported as its row in whatever columns are heard that have these
abbrev pub DviStreamAnywhere : Type 0
DviStreamAnywhere =
    (front : List Period) (bytes : List ℕ) (back : List Period) (sent received : List Column)
    → is_video_period bytes ≡ true → DviSpells (front ++ (video bytes ∷ back)) sent → length received ≡ length sent
    → DviStandsAlone received bytes sent (dvi_columns_of front)
    → (a m : ℕ) → a + 12 ≤ dvi_columns_of front → dvi_columns_of front + dvi_columns (video bytes) < a + m → a + m ≤ length received
    → let cs = take m (drop a received) in
    let j = dvi_columns_of front in
    (more : List Event)
    × (dvi_heard cs ≡ map event_of (dvi_so_far (take (j - a + 1) cs)) ++ (dvi_video_row (j - a) (pixels_of bytes) (line_part j bytes sent) (line_part j bytes received) ++ more))

-- The alignment.

-- columns of a stream whose lines have three pixels or more, of which those up to column f were received with sparse damage of
-- their pixels, and those after it as any characters
pub record DviReceivedUntil (ps : List Period) (sent received : List Column) (f : ℕ) : Type 0 where
  pub conforming : IsDviConforming ps
  pub three : HasThree ps
  pub spelled : DviSpells ps sent
  pub same_length : length received ≡ length sent
  pub sparse : IsDviSparse ps sent (take (f + 1) received ++ drop (f + 1) sent)
  pub characters : (i : ℕ) → i < length received → IsNarrow (column_at received i)

-- the bits that a tap's lane has of the columns up to column f
abbrev pub bits_until : List ℕ → ℕ → ℕ → List Bool
bits_until words from f = part_of words from (10 * (f + 1) - from)

-- each lane of a tap has the bits of column f, and those up to it have their first full alignment at these edges
pub record DviAlignsUntil (received : List Column) (offset : ℕ) (skews counts : List ℕ) (f p q r : ℕ) : Type 0 where
  pub begins : (lane : ℕ) → lane < 3 → offset + slice_index skews lane ≤ 10 * (f + 1)
  pub reaches : (lane : ℕ) → lane < 3 → 10 * (f + 1) ≤ offset + slice_index skews lane + slice_index counts lane
  pub first :
      IsFirst (bits_until (blues received) (offset + slice_index skews 0) f) (bits_until (greens received) (offset + slice_index skews 1) f)
      (bits_until (reds received) (offset + slice_index skews 2) f) p q r

-- it is that of the whole lanes, and the end of one control period, at or before column f, whatever is received after that
-- column; and the aligned columns are received columns
abbrev pub DviAlignedWhateverFollows : Type 0
DviAlignedWhateverFollows =
    (ps : List Period) (sent received : List Column) (f : ℕ) → DviReceivedUntil ps sent received f
    → (offset : ℕ) (skews counts : List ℕ) (blue green red : List Bool) → IsTap received offset skews counts blue green red → HasSmallSkew skews
    → (p q r : ℕ) → DviAlignsUntil received offset skews counts f p q r
    → IsFirst blue green red p q r
    × ((a : ℕ) × EndsAt (dvi_kinds ps) (a + 11) × (a + 12 ≤ f) × BeginColumn offset skews (a + 12) p q r
    × (aligned_columns blue green red p q r ≡ take (length (aligned_columns blue green red p q r)) (drop a received)))

-- column f is the first one after a control period, and each lane of a tap has its bits and those of the twelve columns before it
pub record DviHoldsUntil (ps : List Period) (offset : ℕ) (skews counts : List ℕ) (f : ℕ) : Type 0 where
  pub after : IsAfterControl (dvi_kinds ps) f
  pub holds : HoldsEnd offset skews counts f

-- the lanes' bits up to column f have a first full alignment then
abbrev pub DviFirstUntil : Type 0
DviFirstUntil =
    (ps : List Period) (sent received : List Column) (f : ℕ) → DviReceivedUntil ps sent received f
    → (offset : ℕ) (skews counts : List ℕ) (blue green red : List Bool) → IsTap received offset skews counts blue green red → HasSmallSkew skews
    → DviHoldsUntil ps offset skews counts f
    → (p q r : ℕ) × DviAlignsUntil received offset skews counts f p q r

-- Examples.

-- a line that stands alone, and a column before it, after the alignment, of which no word was received as it was sent; and the
-- columns of the tap go on past that line, wherever in them the first full alignment is
pub record IsDviLocalExample (front : List Period) (bytes : List ℕ) (back : List Period) (sent received : List Column) (counts : List ℕ) (until : ℕ) (blue green red : List Bool) : Type 0 where
  pub reception : DviReceivedUntil (front ++ (video bytes ∷ back)) sent received until
  pub tapped : IsTap received 7 (0 ∷ 70 ∷ 35 ∷ []) counts blue green red
  pub small : HasSmallSkew (0 ∷ 70 ∷ 35 ∷ [])
  pub holds : DviHoldsUntil (front ++ (video bytes ∷ back)) 7 (0 ∷ 70 ∷ 35 ∷ []) counts until
  pub aligns : (d e f : ℕ) × DviAlignsUntil received 7 (0 ∷ 70 ∷ 35 ∷ []) counts until d e f
  pub damaged : (i : ℕ) × (until < i) × (i < dvi_columns_of front) × (unlike_at sent received i ≡ 3)
  pub line : is_video_period bytes ≡ true
  pub alone : DviStandsAlone received bytes sent (dvi_columns_of front)
  pub later : until ≤ dvi_columns_of front
  pub within :
      (a d e f : ℕ) → BeginColumn 7 (0 ∷ 70 ∷ 35 ∷ []) (a + 12) d e f
      → dvi_columns_of front + dvi_columns (video bytes) < a + length (aligned_columns blue green red d e f)

-- there is such a stream and such a tap
abbrev pub HasDviLocalExample : Type 0
HasDviLocalExample =
    (front : List Period) × (bytes : List ℕ) × (back : List Period) × (sent received : List Column) × (counts : List ℕ) × (until : ℕ) × (blue green red : List Bool)
    × IsDviLocalExample front bytes back sent received counts until blue green red
