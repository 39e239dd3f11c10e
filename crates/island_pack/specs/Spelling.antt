-- Which columns periods are spelled by. HDMI 1.4, sections 5.2.1 (control), 5.2.2 and 5.2.2.1 (video, guard band),
-- 5.2.3 and 5.2.3.3 (data island, guard band).
use Rattle.std.specs.Prelude.{◌≡◌, ℕ, ◌+◌, ◌/◌, ◌%◌, Bool, true, false, ◌||◌, List, [], ◌∷◌, ◌++◌, map, slice_index}
use Rattle.tmds_word.specs.Column.{Column, column_of}
use Rattle.tmds_code.specs.Lanes.{IsLane}
use Rattle.terc4.specs.Tables.{control_words, is_control, terc_words, video_guard, island_guard}
use Rattle.island_pack.specs.Periods.{SyncPair, DataIsland, Period, control, video, island, values_of, Pixel, pixels_of}
use Rattle.island_pack.specs.Packets.{Carries, CarriesFreely}
use Rattle.island_pack.specs.declared.packet.Packet.{Packet}

-- the column of a control value: HSYNC and VSYNC on lane 0, CTL0 and CTL1 on lane 1, CTL2 and CTL3 on lane 2
abbrev pub control_column : ℕ → Column
control_column value = record {
  blue = slice_index control_words (value % 4);
  green = slice_index control_words (value / 4 % 4);
  red = slice_index control_words (value / 16 % 4);
}

-- on each lane the coding of its bytes
pub record SpellsPixels (pixels : List Pixel) (columns : List Column) : Type 0 where
  pub blue : IsLane (map (λ p. p.blue) pixels) (map (λ c. c.blue) columns)
  pub green : IsLane (map (λ p. p.green) pixels) (map (λ c. c.green) columns)
  pub red : IsLane (map (λ p. p.red) pixels) (map (λ c. c.red) columns)

-- two guard columns, and then the pixels
abbrev pub SpellsVideo : List ℕ → List Column → Type 0
SpellsVideo bytes columns = (pixels : List Column) × (columns ≡ column_of video_guard ∷ column_of video_guard ∷ pixels) × SpellsPixels (pixels_of bytes) pixels

-- a guard column of a data island: on lane 0 the TERC4 word of 12 to 15, whose low bits are VSYNC and HSYNC
abbrev pub guard_column : ℕ → Column
guard_column sync = record { blue = slice_index terc_words (12 + sync); green = island_guard; red = island_guard }

abbrev pub guard_columns : SyncPair → List Column
guard_columns pair = guard_column pair.first ∷ guard_column pair.second ∷ []

-- the words of a column, lane 0 first
abbrev pub column_words : Column → List ℕ
column_words c = c.blue ∷ c.green ∷ c.red ∷ []

-- whether the word of lane 1 or of lane 2 is a control word
unfoldable pub has_control : List ℕ → Bool
has_control words = is_control (slice_index words 1) || is_control (slice_index words 2)

-- how columns carry a packet, which is an island's first or not
abbrev pub Carrying : Type 1
Carrying = Packet → Bool → List (List ℕ) → Type 0

-- whatever bit 3 of lane 0 is
abbrev pub freely : Carrying
freely p first columns = CarriesFreely p columns

-- packets one after another, of which the first is an island's first or not
abbrev pub SpellsPacketsBy : Carrying → Bool → List Packet → List Column → Type 0
SpellsPacketsBy carries first [] columns = columns ≡ []
SpellsPacketsBy carries first (p ∷ ps) columns =
    (own rest : List Column) × (columns ≡ own ++ rest) × carries p first (map column_words own) × SpellsPacketsBy carries false ps rest

-- two guard columns, the packets, and two guard columns
abbrev pub SpellsIslandBy : Carrying → DataIsland → List Column → Type 0
SpellsIslandBy carries x columns =
    (packets : List Column) × (columns ≡ guard_columns x.opening ++ packets ++ guard_columns x.closing) × SpellsPacketsBy carries true x.packets packets

abbrev pub SpellsPeriodBy : Carrying → Period → List Column → Type 0
SpellsPeriodBy carries (control runs) columns = columns ≡ map control_column (values_of runs)
SpellsPeriodBy carries (video bytes) columns = SpellsVideo bytes columns
SpellsPeriodBy carries (island x) columns = SpellsIslandBy carries x columns

-- the columns are, period after period, columns that spell it
abbrev pub SpellsBy : Carrying → List Period → List Column → Type 0
SpellsBy carries [] columns = columns ≡ []
SpellsBy carries (p ∷ ps) columns = (own rest : List Column) × (columns ≡ own ++ rest) × SpellsPeriodBy carries p own × SpellsBy carries ps rest

-- as a source spells them: bit 3 of lane 0 is 0 exactly in column 0 of an island's first packet
abbrev pub SpellsPackets : Bool → List Packet → List Column → Type 0
SpellsPackets first ps columns = SpellsPacketsBy Carries first ps columns

abbrev pub SpellsIsland : DataIsland → List Column → Type 0
SpellsIsland x columns = SpellsIslandBy Carries x columns

abbrev pub SpellsPeriod : Period → List Column → Type 0
SpellsPeriod p columns = SpellsPeriodBy Carries p columns

abbrev pub Spells : List Period → List Column → Type 0
Spells ps columns = SpellsBy Carries ps columns
