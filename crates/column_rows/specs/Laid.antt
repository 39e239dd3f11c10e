-- What a call leaves in three rows that are lent: the columns of a part of a period, or nothing.
use Rattle.std.specs.Prelude.{◌≡◌, ◌⊎◌, ◌<◌, ◌≤◌, ◌%◌, ◌*◌, ℕ, List, All, length, take, drop}
use Rattle.tmds_word.specs.Column.{Column}
use Rattle.tmds_word.specs.Words.{columns_of}
use Rattle.island_pack.specs.declared.packet.Packet.{Packet}
use Rattle.island_pack.specs.declared.ranges.TheConstants.{COLUMN_LIMIT, PIXEL_LIMIT}
use Rattle.column_rows.specs.declared.laid.RowStatus.{RowStatus}
use Rattle.column_rows.specs.declared.laid.RowStatus.TheVariants.{Done, Full, Misuse}

-- the words of the three lanes
pub record Rows : Type 0 where
  pub blue : List ℕ
  pub green : List ℕ
  pub red : List ℕ

abbrev pub rows_of : List ℕ → List ℕ → List ℕ → Rows
rows_of blue green red = record { blue = blue; green = green; red = red }

-- the columns of the first words of each row
abbrev pub first_columns : ℕ → Rows → List Column
first_columns n rows = columns_of (take n rows.blue) (take n rows.green) (take n rows.red)

-- some row has fewer words
abbrev pub AreShort : ℕ → Rows → Type 0
AreShort count rows = (length rows.blue < count) ⊎ (length rows.green < count) ⊎ (length rows.red < count)

-- from some place on the rows are as they were
abbrev pub AreAlikeFrom : ℕ → Rows → Rows → Type 0
AreAlikeFrom n old new = (drop n new.blue ≡ drop n old.blue) × (drop n new.green ≡ drop n old.green) × (drop n new.red ≡ drop n old.red)

-- by what a call answers: of a part of so many columns they are in the rows, before what stood there, or there is no room for them; else
-- it is no part
abbrev pub Lays : Type 0 → (List Column → Type 0) → ℕ → RowStatus → ℕ → Rows → Rows → Type 0
Lays IsPart spells count Done n old new = IsPart × (n ≡ count) × spells (first_columns n new) × AreAlikeFrom n old new
Lays IsPart spells count Full n old new = IsPart × (n ≡ count) × AreShort count old × (new ≡ old)
Lays IsPart spells count Misuse n old new = (IsPart → ⊥) × (n ≡ 0) × (new ≡ old)

-- a packet as an event has it: three bytes of the header, four bodies of seven, and of each column HSYNC plus twice VSYNC
abbrev pub packet_of : List ℕ → Packet
packet_of bytes = record { header = take 3 bytes; bodies = take 28 (drop 3 bytes); sync = drop 31 bytes }

pub record IsPacket (bytes : List ℕ) : Type 0 where
  pub whole : length bytes ≡ 63
  pub sync : All (λ value. value < 4) (drop 31 bytes)

-- one to so many whole pixels as a line may have: a limit of this project's own, as that of a run
pub record AreLine (bytes : List ℕ) : Type 0 where
  pub whole : length bytes % 3 ≡ 0
  pub some : 0 < length bytes
  pub few : length bytes ≤ 3 * PIXEL_LIMIT

pub record IsRun (value count : ℕ) : Type 0 where
  pub small : value < 64
  pub some : 1 ≤ count
  pub few : count ≤ COLUMN_LIMIT
