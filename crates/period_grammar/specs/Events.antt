-- What is reported of columns, and at which column. Numbers called `column` count the columns from 0 on.
use Rattle.std.specs.Prelude.{ℕ, List, filter, map, nat_lt}
use Rattle.island_pack.specs.declared.packet.Packet.{Packet}
use Rattle.island_pack.specs.declared.packet.PacketVerdicts.{PacketVerdicts}

pub data Event : Type 0 where
  -- control columns of one value: the value, how many
  run : ℕ → ℕ → Event
  -- the pixels of a video period: red, green, blue of each
  line : List ℕ → Event
  -- a word of a control column that is no control word: lane, column
  word : ℕ → ℕ → Event
  -- fewer than twelve control columns before an opened period: column
  short : ℕ → Event
  -- another preamble, or none, before an opened period: column
  preamble : ℕ → Event
  -- columns that open nothing: the first of them
  noise : ℕ → Event
  -- a video period with no pixel or an island with no packet: its first column
  empty : ℕ → Event
  -- the first word of a lane of a line that is wrongly coded: lane, column
  code : ℕ → ℕ → Event
  -- more than 4,096 pixels: the video period's first column
  long_line : ℕ → Event
  -- the columns ended: the first of which nothing whole was reported
  cut : ℕ → Event
  -- the guard that opens an island: its two sync digits
  open_island : ℕ → ℕ → Event
  -- a packet as it was taken, with its verdicts, and its first column
  packet : Packet → PacketVerdicts → ℕ → Event
  -- the guard that closes an island: its two sync digits
  close_island : ℕ → ℕ → Event
  -- a packet with words that are no TERC4 words: column, how many
  symbols : ℕ → ℕ → Event
  -- a block of a packet with one wrong bit: column, block, bit
  mended : ℕ → ℕ → ℕ → Event
  -- a block of a packet with more: column, block
  lost : ℕ → ℕ → Event
  -- the nineteenth packet of an island: column
  long_island : ℕ → Event
  -- a packet or a closing guard that is not whole: column
  broken : ℕ → Event
  -- a column of an opening or a closing guard that is no guard column: column
  guard : ℕ → Event

-- an event reported at a column
pub data EventAt : Type 0 where
  at : ℕ → Event → EventAt

abbrev pub all_at : ℕ → List Event → List EventAt
all_at j events = map (at j) events

abbrev pub event_of : EventAt → Event
event_of (at j t) = t

abbrev pub column_reported : EventAt → ℕ
column_reported (at j t) = j

-- what is reported at columns before column n
abbrev pub reported_before : ℕ → List EventAt → List EventAt
reported_before n ts = filter (λ t. nat_lt (column_reported t) n) ts
