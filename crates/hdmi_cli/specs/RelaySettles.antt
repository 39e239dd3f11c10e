-- What `relay` writes of what it wrote of its own output: the same bytes. And how far what it writes of a clean capture agrees with that.
use Rattle.std.specs.Prelude.{◌≡◌, ◌⊎◌, ◌<◌, ◌≤◌, ℕ, List, length, Option}
use Rattle.std.specs.Io.KnownBytes.{Appends, Keeps}
use Rattle.tmds_word.specs.Column.{Column}
use Rattle.capture_file.specs.Taps.{tapped_capture}
use Rattle.island_pack.specs.Conforming.{IsConforming}
use Rattle.island_pack.specs.Kinds.{kinds_of}
use Rattle.island_pack.specs.Periods.{Period}
use Rattle.island_pack.specs.Spelling.{SpellsBy, freely}
use Rattle.island_pack.specs.declared.ranges.TheConstants.{COLUMN_LIMIT}
use Rattle.relay.specs.Spelled.{Agree}
use Rattle.capture_commands.specs.Relays.{whole_tap}

-- a text is written, and no fault was reported
abbrev pub IsWritten : List ℕ → ℕ → Option (List ℕ) → Option (List ℕ) → Type 0
IsWritten text status old new = (status ≡ 0) × Appends old new text

-- columns that spell conforming periods are written column for column, but for bit 3 of lane 0 in packet columns, where they
-- are 20,000,000 or fewer
abbrev pub IsWrittenButBit3 : List Column → ℕ → Option (List ℕ) → Option (List ℕ) → Type 0
IsWrittenButBit3 cs status old new =
    ((length cs ≤ COLUMN_LIMIT) × (status ≡ 0)
    × ((ps : List Period) × (columns : List Column) × IsConforming ps × SpellsBy freely ps cs × Agree (kinds_of ps) cs columns × Appends old new (tapped_capture columns whole_tap)))
    ⊎ ((COLUMN_LIMIT < length cs) × (status ≡ 3) × Keeps old new)
