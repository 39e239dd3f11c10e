-- Room for what so many bits can report.
use Rattle.std.specs.Prelude.{◌≡◌, ◌⊎◌, ℕ, ◌+◌, ◌*◌, ◌/◌, ◌<◌, ◌≤◌, List, length, ◌++◌}
use Rattle.tmds_word.specs.Column.{Column}
use Rattle.period_grammar.specs.Events.{Event}
use Rattle.link_sink.specs.Grammar.{Grammar}
use Rattle.c_room.specs.declared.room.EventRoom.{EventRoom}
use Rattle.c_room.specs.Written.{link_writing, all_bytes}

-- so many columns at most come with so many bits of each lane: 129 bits that were there before may stand in them, twelve
-- characters before the edge at which a lane is aligned and one that was not whole
abbrev pub columns_of_bits : ℕ → ℕ
columns_of_bits bits = (bits + 129) / 10

-- there is room for all that so many bits of each lane can report: eight events a column, the pixels of a line that was open
-- before and three bytes a column
pub record Fits (room : EventRoom) (bits : ℕ) : Type 0 where
  pub events : room.count + 8 * columns_of_bits bits ≤ length room.records.now
  pub bytes : room.used + 12288 + 3 * columns_of_bits bits ≤ length room.bytes.now

-- there is not even room for a byte of each lane
abbrev pub IsFull : EventRoom → Type 0
IsFull room = (length room.records.now < room.count + 104) ⊎ (length room.bytes.now < room.used + 12327)

-- there is no room for one event
abbrev pub HasNoOne : EventRoom → Type 0
HasNoOne room = (length room.records.now ≤ room.count) ⊎ (length room.bytes.now < room.used)

-- what a grammar reports of columns in addition is of such sizes, and at the end it is one event with no bytes
pub record IsBounded (g : Grammar) : Type 0 where
  pub events : (cs ds : List Column) (us : List Event) → g.so_far (cs ++ ds) ≡ g.so_far cs ++ us → length us ≤ 8 * length ds
  pub bytes : (cs ds : List Column) (us : List Event) → g.so_far (cs ++ ds) ≡ g.so_far cs ++ us → length (all_bytes link_writing us) ≤ 12288 + 3 * length ds
  pub last_event : (cs : List Column) (us : List Event) → g.whole cs ≡ g.so_far cs ++ us → length us ≤ 1
  pub last_bytes : (cs : List Column) (us : List Event) → g.whole cs ≡ g.so_far cs ++ us → length (all_bytes link_writing us) ≡ 0
