-- A control period that comes whole among any characters: whatever was received before it, and whatever is received after it.
use Rattle.std.specs.Prelude.{◌≡◌, ℕ, ◌+◌, ◌-◌, ◌*◌, ◌%◌, ◌<◌, ◌≤◌, Bool, true, false, List, ◌∷◌, ◌++◌, length, map, take, drop, slice_index}
use Rattle.tmds_word.specs.Column.{Column}
use Rattle.tmds_word.specs.Taps.{IsTap, AreNear}
use Rattle.terc4.specs.Columns.{is_control_column}
use Rattle.lane_align.specs.Lanes.{IsRun}
use Rattle.lane_deskew.specs.Aligned.{aligned_columns}
use Rattle.island_pack.specs.Conforming.{IsConforming}
use Rattle.island_pack.specs.Periods.{Period, period_columns, columns_of}
use Rattle.island_pack.specs.Sparse.{IsNarrow, column_at, unlike_at}
use Rattle.island_pack.specs.Spelling.{SpellsBy, freely}
use Rattle.period_grammar.specs.Events.{Event, event_of}
use Rattle.period_grammar.specs.Heard.{heard}
use Rattle.link_laws.specs.Literal.{period_placed}
use Rattle.link_laws.specs.Local.{is_between, part_at, twelve_before, StandsAlone}
use Rattle.link_sink.specs.Sinks.{Fed}
use Rattle.track_sink.specs.Epochs.{rest_of}
use Rattle.relock_sink.specs.Rivals.{HaveSameSkew}
use Rattle.relock_sink.specs.Refuting.{IsLastUnrefuted, refuting_rule}
use Rattle.relock_laws.specs.Doubted.{IsUnmistakenColumn}
use Rattle.relock_laws.specs.RefutingSettled.{IsStartBy, IsSettledBy}
use Rattle.relock_laws.specs.WholePeriods.{IsWholeAmong, HasWholeLane}

-- columns of conforming periods, each of which may have been received as any characters
pub record ReceivedAnyhow (ps : List Period) (sent received : List Column) : Type 0 where
  pub conforming : IsConforming ps
  pub spelled : SpellsBy freely ps sent
  pub same_length : length received ≡ length sent
  pub characters : (i : ℕ) → i < length received → IsNarrow (column_at received i)

-- From column `from` on, near the end of a control period, as it was received, no character was received as a control or guard character
-- that it was not. That is the fifteen columns up to its end, and the three after it.
abbrev pub HasClearEndsFrom : List Column → List Column → ℕ → Type 0
HasClearEndsFrom sent received from =
    (i k : ℕ) → from ≤ i → is_control_column (column_at received i) ≡ true → is_control_column (column_at received (i + 1)) ≡ false → i < k + 15 → k ≤ i + 3
    → IsUnmistakenColumn (column_at sent k) (column_at received k)

-- From the nineteen characters before a place on, a lane has no twelve control words, ten bits apart, but whole characters from it.
abbrev pub HasNoStrayFrom : List Bool → ℕ → Type 0
HasNoStrayFrom xs e = (p : ℕ) → e < p + 190 → IsRun xs p → p % 10 ≡ e % 10

-- Lanes have any bits first, and then those of a tap of such columns, one control period of which comes whole. It ends before column a + 12;
-- the three places are where that column begins. After it the ends of control periods are clear, and no lane has a stray.
pub record ComesWholeAmid (ps : List Period) (sent received : List Column) (offset : ℕ) (skews counts : List ℕ) (x fed : Fed) (before : List ℕ) (j a d e f : ℕ) : Type 0 where
  pub reception : ReceivedAnyhow ps sent received
  pub tapped : IsTap received offset skews counts x.blue x.green x.red
  pub blue_after : drop (slice_index before 0) fed.blue ≡ x.blue
  pub green_after : drop (slice_index before 1) fed.green ≡ x.green
  pub red_after : drop (slice_index before 2) fed.red ≡ x.red
  pub whole : IsWholeAmong ps sent received j a
  pub blue : HasWholeLane offset (slice_index skews 0) (slice_index before 0) j a d (length fed.blue)
  pub green : HasWholeLane offset (slice_index skews 1) (slice_index before 1) j a e (length fed.green)
  pub red : HasWholeLane offset (slice_index skews 2) (slice_index before 2) j a f (length fed.red)
  pub blue_green : AreNear d e
  pub green_red : AreNear e f
  pub blue_red : AreNear d f
  pub clear_ends : HasClearEndsFrom sent received (a + 12)
  pub blue_stays : HasNoStrayFrom fed.blue d
  pub green_stays : HasNoStrayFrom fed.green e
  pub red_stays : HasNoStrayFrom fed.red f

-- columns end with received ones: those from column n on are those that were received from column a on
abbrev pub EndReceived : List Column → ℕ → List Column → ℕ → Type 0
EndReceived columns n received a = drop n columns ≡ take (length columns - n) (drop a received)

-- There is an epoch that has the last twelve columns of that control period, and it is the last. It has the skew of the control period, so
-- that its columns from there on are the received ones.
abbrev pub SettlesAmid : Type 0
SettlesAmid =
    (ps : List Period) (sent received : List Column) (offset : ℕ) (skews counts : List ℕ) (x fed : Fed) (before : List ℕ) (j a d e f : ℕ)
    → ComesWholeAmid ps sent received offset skews counts x fed before j a d e f
    → (start : ℕ) × IsStartBy refuting_rule fed start
    × ((p q r : ℕ) × IsSettledBy refuting_rule fed d e f start p q r × HaveSameSkew p q r d e f × IsLastUnrefuted (rest_of start fed)
    × ((n : ℕ) × (start + p + 10 * n ≡ d)
    × EndReceived (aligned_columns (rest_of start fed).blue (rest_of start fed).green (rest_of start fed).red p q r) n received a))

-- Of columns that end with received ones, each period among these that stands alone is reported as its row, whatever the others are.
abbrev pub RowsAfter : Type 0
RowsAfter =
    (front : List Period) (p : Period) (back : List Period) (sent received columns : List Column) (n a : ℕ)
    → is_between p ≡ true → SpellsBy freely (front ++ (p ∷ back)) sent → length received ≡ length sent
    → EndReceived columns n received a → n ≤ length columns
    → StandsAlone received p sent (columns_of front) → a + 12 ≤ columns_of front → columns_of front + period_columns p + n < a + length columns
    → let j = columns_of front in
    (earlier later : List Event)
    × (heard columns ≡ earlier ++ (map event_of (period_placed (n + (j - a)) (twelve_before j received) p (part_at j p sent) (part_at j p received)) ++ later))

-- there are such lanes: no character of some column before the control period was received as it was sent, and none of some column after a
-- period that follows it and stands alone, of which each lane has the bits
pub record IsAmidExample (ps : List Period) (sent received : List Column) (offset : ℕ) (skews counts : List ℕ) (x fed : Fed) (before : List ℕ) (j a d e f : ℕ) : Type 0 where
  pub comes : ComesWholeAmid ps sent received offset skews counts x fed before j a d e f
  pub front : List Period
  pub alone : Period
  pub back : List Period
  pub are : ps ≡ front ++ (alone ∷ back)
  pub between : is_between alone ≡ true
  pub stands : StandsAlone received alone sent (columns_of front)
  pub late : a + 12 ≤ columns_of front
  pub blue_within : d + 10 * (columns_of front + period_columns alone + 1) ≤ length fed.blue + 10 * (a + 12)
  pub green_within : e + 10 * (columns_of front + period_columns alone + 1) ≤ length fed.green + 10 * (a + 12)
  pub red_within : f + 10 * (columns_of front + period_columns alone + 1) ≤ length fed.red + 10 * (a + 12)
  pub lost_before : (i : ℕ) × (i < j) × (unlike_at sent received i ≡ 3)
  pub lost_after : (i : ℕ) × (columns_of front + period_columns alone < i) × (unlike_at sent received i ≡ 3)
  pub few : length fed.blue + length fed.green + length fed.red < 4000

abbrev pub HasAmidExample : Type 0
HasAmidExample =
    (ps : List Period) × (sent received : List Column) × (offset : ℕ) × (skews counts : List ℕ) × (x fed : Fed) × (before : List ℕ) × (j a d e f : ℕ)
    × IsAmidExample ps sent received offset skews counts x fed before j a d e f
