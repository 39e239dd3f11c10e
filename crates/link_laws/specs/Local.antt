-- Locality: whatever was received before and after it, a period that was received with few words damaged, after control
-- columns and before one, is reported as its row.
use Rattle.std.specs.Prelude.{◌≡◌, ℕ, ◌+◌, ◌-◌, ◌*◌, ◌<◌, ◌≤◌, Bool, true, false, List, [], ◌∷◌, ◌++◌, length, map, take, drop, slice_get, Some}
use Rattle.tmds_word.specs.Column.{Column}
use Rattle.tmds_word.specs.Taps.{IsTap, HasSmallSkew}
use Rattle.terc4.specs.Columns.{is_control_column}
use Rattle.lane_deskew.specs.Triples.{IsFirst}
use Rattle.lane_deskew.specs.Aligned.{aligned_columns}
use Rattle.island_pack.specs.Periods.{DataIsland, Period, control, video, island, period_columns, columns_of}
use Rattle.island_pack.specs.Conforming.{is_video_period, is_data_island, IsConforming}
use Rattle.island_pack.specs.declared.packet.Packet.{Packet}
use Rattle.island_pack.specs.Spelling.{SpellsBy, freely}
use Rattle.island_pack.specs.Sparse.{IsNarrow, column_at, unlike_at, IsSparse}
use Rattle.period_grammar.specs.Events.{Event, event_of, all_at, reported_before}
use Rattle.period_grammar.specs.Heard.{other_words, opened, island as opens_island, heard_so_far, heard}
use Rattle.period_grammar.specs.Island.{begins_close, packet_events}
use Rattle.link_laws.specs.Laws.{EndsControl, BeginColumn, AlignsUntil}
use Rattle.link_laws.specs.Literal.{period_placed}
use Rattle.link_laws.specs.PeriodLaws.{PeriodReceived, AreControl}

-- columns of a period, after any columns and at least twelve control columns, and before a control column and any columns: all
-- that is reported from the second of them to that control column is the period's row, and that column's words that are no
-- control words
abbrev pub StandsAnywhere : Period → List Column → List Column → Type 0
StandsAnywhere p sent received =
    (earlier before : List Column) (next : Column) (later : List Column) → AreControl before → is_control_column next ≡ true
    → let cs = earlier ++ (before ++ (received ++ next ∷ later)) in
    let b = length earlier + length before in
    let e = b + length received in
    reported_before (e + 1) (heard_so_far cs)
    ≡ reported_before (b + 1) (heard_so_far cs) ++ (period_placed b before p sent received ++ all_at e (other_words e next))

abbrev pub VideoAnywhere : Type 0
VideoAnywhere =
    (bytes : List ℕ) (sent received : List Column) → is_video_period bytes ≡ true → PeriodReceived (video bytes) sent received
    → StandsAnywhere (video bytes) sent received

abbrev pub IslandAnywhere : Type 0
IslandAnywhere =
    (x : DataIsland) (sent received : List Column) → is_data_island x ≡ true → PeriodReceived (island x) sent received
    → StandsAnywhere (island x) sent received

-- a data island closes itself: its row is reported by its last column, whatever follows
abbrev pub IslandClosesAnywhere : Type 0
IslandClosesAnywhere =
    (x : DataIsland) (sent received : List Column) → is_data_island x ≡ true → PeriodReceived (island x) sent received
    → (earlier before later : List Column) → AreControl before
    → let cs = earlier ++ (before ++ (received ++ later)) in
    let b = length earlier + length before in
    reported_before (b + length received) (heard_so_far cs)
    ≡ reported_before (b + 1) (heard_so_far cs) ++ period_placed b before (island x) sent received

-- In all that is reported: the events before the second of its columns, its row, and what follows.
abbrev pub HeardAnywhere : Period → List Column → List Column → Type 0
HeardAnywhere p sent received =
    (earlier before : List Column) (next : Column) (later : List Column) → AreControl before → is_control_column next ≡ true
    → let cs = earlier ++ (before ++ (received ++ next ∷ later)) in
    let b = length earlier + length before in
    (more : List Event) × (heard cs ≡ map event_of (heard_so_far (take (b + 1) cs)) ++ (map event_of (period_placed b before p sent received) ++ more))

-- a video data period or a data island
abbrev pub is_between : Period → Bool
is_between (control runs) = false
is_between (video bytes) = is_video_period bytes
is_between (island x) = is_data_island x

abbrev pub RowAnywhere : Type 0
RowAnywhere = (p : Period) (sent received : List Column) → is_between p ≡ true → PeriodReceived p sent received → HeardAnywhere p sent received

-- the columns of a period that stands at column j
abbrev pub part_at : ℕ → Period → List Column → List Column
part_at j p cs = take (period_columns p) (drop j cs)

-- the twelve columns before column j
abbrev pub twelve_before : ℕ → List Column → List Column
twelve_before j cs = take 12 (drop (j - 12) cs)

-- of a stream of which anything may have been received, a period at column j received with few words damaged, after twelve
-- control columns and before one: it is reported as its row in whatever columns are heard that have these
pub record StandsAlone (received : List Column) (p : Period) (sent : List Column) (j : ℕ) : Type 0 where
  pub sparse : IsSparse (p ∷ []) (part_at j p sent) (part_at j p received)
  pub before : AreControl (twelve_before j received)
  pub next : is_control_column (column_at received (j + period_columns p)) ≡ true

abbrev pub StreamAnywhere : Type 0
StreamAnywhere =
    (front : List Period) (p : Period) (back : List Period) (sent received : List Column)
    → is_between p ≡ true → SpellsBy freely (front ++ (p ∷ back)) sent → length received ≡ length sent
    → StandsAlone received p sent (columns_of front)
    → (a m : ℕ) → a + 12 ≤ columns_of front → columns_of front + period_columns p < a + m → a + m ≤ length received
    → let cs = take m (drop a received) in
    let j = columns_of front in
    (more : List Event)
    × (heard cs ≡ map event_of (heard_so_far (take (j - a + 1) cs)) ++ (map event_of (period_placed (j - a) (twelve_before j received) p (part_at j p sent) (part_at j p received)) ++ more))

-- Packet k of a data island that begins at column j, whatever else was received of its columns: a control column before the
-- island, an opening pair, no control column up to the packet's end, and no packet up to it whose first two columns close the
-- island.
pub record PacketStands (received : List Column) (j k : ℕ) : Type 0 where
  pub after : 1 ≤ j
  pub control : is_control_column (column_at received (j - 1)) ≡ true
  pub opens : opened (column_at received j) (column_at received (j + 1)) ≡ opens_island
  pub going : (i : ℕ) → j ≤ i → i < j + 34 + 32 * k → is_control_column (column_at received i) ≡ false
  pub unshut : (i : ℕ) → i ≤ k → begins_close (drop (j + 2 + 32 * i) received) ≡ false

-- it is reported at its last column, after what is reported before its first one
abbrev pub PacketInStream : Type 0
PacketInStream =
    (received : List Column) (j k a m : ℕ) → PacketStands received j k → a + 1 ≤ j → j + 34 + 32 * k ≤ a + m → a + m ≤ length received
    → let cs = take m (drop a received) in
    let place = j + 2 + 32 * k in
    (more : List Event) × (heard cs ≡ map event_of (heard_so_far (take (place - a) cs)) ++ (packet_events (place - a) k (take 32 (drop place received)) ++ more))

-- The alignment.

-- columns of conforming periods, of which those up to column f were received with few words damaged, and those after it as
-- any characters
pub record ReceivedUntil (ps : List Period) (sent received : List Column) (f : ℕ) : Type 0 where
  pub conforming : IsConforming ps
  pub spelled : SpellsBy freely ps sent
  pub same_length : length received ≡ length sent
  pub sparse : IsSparse ps sent (take (f + 1) received ++ drop (f + 1) sent)
  pub characters : (i : ℕ) → i < length received → IsNarrow (column_at received i)

-- the first full alignment is the end of one control period, at or before column f, whatever is received after that column;
-- and the aligned columns are received columns
abbrev pub AlignedWhateverFollows : Type 0
AlignedWhateverFollows =
    (ps : List Period) (sent received : List Column) (f : ℕ) → ReceivedUntil ps sent received f
    → (offset : ℕ) (skews counts : List ℕ) (blue green red : List Bool) → IsTap received offset skews counts blue green red → HasSmallSkew skews
    → AlignsUntil ps sent received offset skews counts f
    → (p q r : ℕ) × IsFirst blue green red p q r
    × ((a : ℕ) × EndsControl ps (a + 11) × (a + 12 ≤ f) × BeginColumn offset skews (a + 12) p q r
    × (aligned_columns blue green red p q r ≡ take (length (aligned_columns blue green red p q r)) (drop a received)))

-- Examples.

-- periods of which one stands alone, and a column before it, after the alignment, of which no word was received as it was
-- sent; and the columns of the tap go on past that period, wherever in them the first full alignment is
pub record IsLocalExample (front : List Period) (p : Period) (back : List Period) (sent received : List Column) (counts : List ℕ) (until : ℕ) (blue green red : List Bool) : Type 0 where
  pub reception : ReceivedUntil (front ++ (p ∷ back)) sent received until
  pub tapped : IsTap received 7 (0 ∷ 70 ∷ 35 ∷ []) counts blue green red
  pub aligns : AlignsUntil (front ++ (p ∷ back)) sent received 7 (0 ∷ 70 ∷ 35 ∷ []) counts until
  pub damaged : (i : ℕ) × (until < i) × (i < columns_of front) × (unlike_at sent received i ≡ 3)
  pub between : is_between p ≡ true
  pub alone : StandsAlone received p sent (columns_of front)
  pub later : until ≤ columns_of front
  pub within : (a d e f : ℕ) → BeginColumn 7 (0 ∷ 70 ∷ 35 ∷ []) (a + 12) d e f → columns_of front + period_columns p < a + length (aligned_columns blue green red d e f)

-- periods with an island of which packet k, not the first one, was received as it was sent, after a packet of which no word was, and before a
-- control column, by which the island is broken off. The packet stands; and the columns of the tap go on past it, wherever in them the first
-- full alignment is
pub record IsPacketExample (front : List Period) (x : DataIsland) (back : List Period) (k : ℕ) (p : Packet) (sent received : List Column) (counts : List ℕ) (until : ℕ) (blue green red : List Bool) : Type 0 where
  pub reception : ReceivedUntil (front ++ (island x ∷ back)) sent received until
  pub tapped : IsTap received 7 (0 ∷ 70 ∷ 35 ∷ []) counts blue green red
  pub aligns : AlignsUntil (front ++ (island x ∷ back)) sent received 7 (0 ∷ 70 ∷ 35 ∷ []) counts until
  pub packet : slice_get x.packets k ≡ Some p
  pub stands : PacketStands received (columns_of front) k
  pub second : 1 ≤ k
  pub lost : (i : ℕ) → columns_of front + 2 ≤ i → i < columns_of front + 34 → unlike_at sent received i ≡ 3
  pub as_sent : (i : ℕ) → columns_of front + 2 + 32 * k ≤ i → i < columns_of front + 34 + 32 * k → unlike_at sent received i ≡ 0
  pub broken : is_control_column (column_at received (columns_of front + 34 + 32 * k)) ≡ true
  pub later : until ≤ columns_of front
  pub within : (a d e f : ℕ) → BeginColumn 7 (0 ∷ 70 ∷ 35 ∷ []) (a + 12) d e f → columns_of front + 34 + 32 * k ≤ a + length (aligned_columns blue green red d e f)

abbrev pub HasPacketExample : Type 0
HasPacketExample =
    (front : List Period) × (x : DataIsland) × (back : List Period) × (k : ℕ) × (p : Packet) × (sent received : List Column) × (counts : List ℕ) × (until : ℕ) × (blue green red : List Bool)
    × IsPacketExample front x back k p sent received counts until blue green red

abbrev pub HasLocalExample : Type 0
HasLocalExample =
    (front : List Period) × (p : Period) × (back : List Period) × (sent received : List Column) × (counts : List ℕ) × (until : ℕ) × (blue green red : List Bool)
    × IsLocalExample front p back sent received counts until blue green red
