-- Events as C sees them: a record of each, and the bytes that it has.
use Rattle.std.specs.Prelude.{◌≡◌, ◌⊎◌, ℕ, ◌+◌, ◌<◌, ◌≤◌, List, [], ◌∷◌, ◌++◌, length, take, map}
use Rattle.period_grammar.specs.Events.{Event, EventAt, at, event_of, run, line, word, short, preamble, noise, empty, code, long_line, cut, open_island, packet, close_island, symbols, mended, lost, long_island, broken, guard}
use Rattle.c_room.specs.declared.record.Record.{Record}
use Rattle.c_room.specs.declared.record.Said.{Said}
use Rattle.c_room.specs.declared.room.EventRoom.{EventRoom}

abbrev pub says : ℕ → ℕ → ℕ → ℕ → ℕ → Said
says kind named count value second = record { kind = kind; named = named; count = count; value = value; second = second }

-- the bytes of an event: the pixels of a line, red, green and blue of each; three header bytes, four bodies of seven and the 32
-- sync digits of a packet
abbrev pub event_bytes : Event → List ℕ
event_bytes (line bytes) = bytes
event_bytes (packet p verdicts column) = p.header ++ p.bodies ++ p.sync
event_bytes _ = []

-- what the record of each event says
abbrev pub event_said : Event → Said
event_said (run value count) = says 0 0 count value 0
event_said (line bytes) = says 1 0 0 0 0
event_said (open_island a b) = says 2 0 0 a b
event_said (packet p verdicts column) = says 3 column verdicts.symbols 0 0
event_said (close_island a b) = says 4 0 0 a b
event_said (cut column) = says 5 column 0 0 0
event_said (word lane column) = says 6 column 0 lane 0
event_said (short column) = says 7 column 0 0 0
event_said (preamble column) = says 8 column 0 0 0
event_said (noise column) = says 9 column 0 0 0
event_said (empty column) = says 10 column 0 0 0
event_said (code lane column) = says 11 column 0 lane 0
event_said (long_line column) = says 12 column 0 0 0
event_said (symbols column count) = says 13 column count 0 0
event_said (mended column block bit) = says 14 column 0 block bit
event_said (lost column block) = says 15 column 0 block 0
event_said (long_island column) = says 16 column 0 0 0
event_said (broken column) = says 17 column 0 0 0
event_said (guard column) = says 18 column 0 0 0

abbrev pub row : ℕ → ℕ → ℕ → Said → Record
row column offset size s = record { column = column; named = s.named; count = s.count; offset = offset; size = size; kind = s.kind; value = s.value; second = s.second }

-- the record of an event whose bytes begin at an offset
abbrev pub event_row : ℕ → EventAt → Record
event_row offset (at column t) = row column offset (length (event_bytes t)) (event_said t)

-- How events of any type are written.

-- the event without its column, the bytes that it has, and the record of one whose bytes begin at an offset
pub record Writing (At T : Type 0) : Type 0 where
  pub plain : At → T
  pub bytes : T → List ℕ
  pub row : ℕ → At → Record

-- a link's events
abbrev pub link_writing : Writing EventAt Event
link_writing = record { plain = event_of; bytes = event_bytes; row = event_row }

-- from one state to another these records and these bytes were written after those before
pub record Wrote (x y : EventRoom) (rows : List Record) (bytes : List ℕ) : Type 0 where
  pub same_records : y.records.ghost_name ≡ x.records.ghost_name
  pub same_bytes : y.bytes.ghost_name ≡ x.bytes.ghost_name
  pub records_long : length y.records.now ≡ length x.records.now
  pub bytes_long : length y.bytes.now ≡ length x.bytes.now
  pub rows_are : take y.count y.records.now ≡ take x.count x.records.now ++ rows
  pub bytes_are : take y.used y.bytes.now ≡ take x.used x.bytes.now ++ bytes
  pub count_is : y.count ≡ x.count + length rows
  pub used_is : y.used ≡ x.used + length bytes

module _ {At T : Type 0} (w : Writing At T) where
  -- the bytes of events, one after another, and their records
  unfoldable pub all_bytes : List T → List ℕ
  all_bytes [] = []
  all_bytes (t ∷ ts) = w.bytes t ++ all_bytes ts

  abbrev pub bytes_at : List At → List ℕ
  bytes_at events = all_bytes (map w.plain events)

  unfoldable pub rows_from : ℕ → List At → List Record
  rows_from o [] = []
  rows_from o (t ∷ ts) = w.row o t ∷ rows_from (o + length (w.bytes (w.plain t))) ts

  -- these events were written
  abbrev pub HasTaken : EventRoom → EventRoom → List At → Type 0
  HasTaken x y events = Wrote x y (rows_from x.used events) (bytes_at events)

  -- so much of the room was taken by events
  pub record HasFilled (x y : EventRoom) (events : List T) : Type 0 where
    pub records_long : length y.records.now ≡ length x.records.now
    pub bytes_long : length y.bytes.now ≡ length x.bytes.now
    pub count_is : y.count ≡ x.count + length events
    pub used_is : y.used ≡ x.used + length (all_bytes events)

  -- there is no room for an event
  abbrev pub HasNoRoom : EventRoom → T → Type 0
  HasNoRoom x t = (length x.records.now ≤ x.count) ⊎ (length x.bytes.now < x.used + length (w.bytes t))

  -- these are the records of events, and their bytes
  abbrev pub AreWritten : List At → List Record → List ℕ → Type 0
  AreWritten events records bytes = (records ≡ rows_from 0 events) × (bytes ≡ bytes_at events)
