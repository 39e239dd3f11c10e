-- The periods of a stream without guard bands, the columns that spell them, and sparse damage of them (DVI 1.0).
use Rattle.std.specs.Prelude.{◌≡◌, ℕ, ◌+◌, ◌-◌, ◌/◌, ◌<◌, ◌≤◌, Bool, true, false, ◌&&◌, List, [], ◌∷◌, ◌++◌, map, length, replicate, IsTrue}
use Rattle.tmds_word.specs.Column.{Column, blues, greens, reds}
use Rattle.terc4.specs.Tables.{is_control}
use Rattle.island_pack.specs.Periods.{Period, control, video, island, values_of, pixels_of}
use Rattle.island_pack.specs.Conforming.{is_control_period, is_video_period}
use Rattle.island_pack.specs.Spelling.{control_column, SpellsPixels}
use Rattle.island_pack.specs.Kinds.{Kind, first_guard, pixel_column, kind_at}
use Rattle.island_pack.specs.Kinds as kinds
use Rattle.island_pack.specs.Sparse.{AreFew, IsNarrow, column_at, unlike_at}

-- control periods of at least twelve columns, and between any two of them one video period: no preamble is asked for
unfoldable pub dvi_conforms : List Period → Bool
dvi_conforms (control runs ∷ []) = is_control_period runs
dvi_conforms (control runs ∷ (video bytes ∷ rest)) = is_control_period runs && (is_video_period bytes && dvi_conforms rest)
dvi_conforms _ = false

abbrev pub IsDviConforming : List Period → Type 0
IsDviConforming ps = IsTrue (dvi_conforms ps)

-- how many columns a period takes
unfoldable pub dvi_columns : Period → ℕ
dvi_columns (control runs) = length (values_of runs)
dvi_columns (video bytes) = length bytes / 3
dvi_columns (island x) = 0

unfoldable pub dvi_columns_of : List Period → ℕ
dvi_columns_of [] = 0
dvi_columns_of (p ∷ ps) = dvi_columns p + dvi_columns_of ps

-- there is none without guard bands
abbrev pub is_island : Period → Bool
is_island (control runs) = false
is_island (video bytes) = false
is_island (island x) = true

abbrev pub DviSpellsPeriod : Period → List Column → Type 0
DviSpellsPeriod (control runs) columns = columns ≡ map control_column (values_of runs)
DviSpellsPeriod (video bytes) columns = SpellsPixels (pixels_of bytes) columns
DviSpellsPeriod (island x) columns = ⊥

-- the columns are, period after period, columns that spell it
abbrev pub DviSpells : List Period → List Column → Type 0
DviSpells [] columns = columns ≡ []
DviSpells (p ∷ ps) columns = (own rest : List Column) × (columns ≡ own ++ rest) × DviSpellsPeriod p own × DviSpells ps rest

-- which kind of column stands at each place. The first pixel column of a video period is of the kind of a first guard
-- column: as of a guard column, none of its words may be received as a control word
unfoldable pub dvi_kinds_in : Period → List Kind
dvi_kinds_in (control runs) = replicate (length (values_of runs)) kinds.control_column
dvi_kinds_in (video bytes) = first_guard ∷ replicate (length bytes / 3 - 1) pixel_column
dvi_kinds_in (island x) = []

unfoldable pub dvi_kinds : List Period → List Kind
dvi_kinds [] = []
dvi_kinds (p ∷ ps) = dvi_kinds_in p ++ dvi_kinds ps

-- none of the words of a column is a control word
pub record HasNoControl (c : Column) : Type 0 where
  pub blue : is_control c.blue ≡ false
  pub green : is_control c.green ≡ false
  pub red : is_control c.red ≡ false

-- sparse damage of the pixels of a stream without guard bands
pub record IsDviSparse (ps : List Period) (sent received : List Column) : Type 0 where
  pub same_length : length received ≡ length sent
  pub characters : (i : ℕ) → i < length received → IsNarrow (column_at received i)
  pub one_a_column : (i : ℕ) → unlike_at sent received i ≤ 1
  pub spares : (i : ℕ) → kind_at (dvi_kinds ps) i ≡ kinds.control_column → column_at received i ≡ column_at sent i
  pub first : (i : ℕ) → i < length received → kind_at (dvi_kinds ps) i ≡ first_guard → HasNoControl (column_at received i)
  pub few_blue : AreFew (blues sent) (blues received)
  pub few_green : AreFew (greens sent) (greens received)
  pub few_red : AreFew (reds sent) (reds received)

-- each video period has at least three pixels: so two ends of control periods are at least 150 bits apart
unfoldable pub HasThree : List Period → Type 0
HasThree [] = Unit {0}
HasThree (video bytes ∷ ps) = (3 ≤ length bytes / 3) × HasThree ps
HasThree (p ∷ ps) = HasThree ps
