-- What is reported of the columns received of one period, and of periods one after another.
use Rattle.std.specs.Prelude.{◌≡◌, ℕ, ◌+◌, ◌-◌, ◌≤◌, true, List, [], ◌∷◌, ◌++◌, map, length, take}
use Rattle.std.specs.List.{list_all}
use Rattle.tmds_word.specs.Column.{Column}
use Rattle.terc4.specs.Columns.{is_control_column}
use Rattle.island_pack.specs.Periods.{ControlRun, DataIsland, Period, control, video, island}
use Rattle.island_pack.specs.Conforming.{is_control_period, is_video_period, is_data_island}
use Rattle.island_pack.specs.Spelling.{SpellsPeriodBy, freely}
use Rattle.island_pack.specs.Sparse.{IsSparse}
use Rattle.period_grammar.specs.Cut.{stretches}
use Rattle.period_grammar.specs.Heard.{reported_from, end_from}
use Rattle.period_grammar.specs.Events.{Event, event_of}
use Rattle.link_laws.specs.Account.{period_row, account_from}
use Rattle.link_laws.specs.Laws.{ReceivedFreely}

-- what is reported of columns from column j on, with what is reported at the end
abbrev pub tells : ℕ → List Column → List Event
tells j cs = map event_of (reported_from j (stretches cs)) ++ end_from j (stretches cs)

-- columns that spell a period, whatever bit 3 of lane 0 is in packet columns, and columns of them received with sparse damage
pub record PeriodReceived (p : Period) (sent received : List Column) : Type 0 where
  pub spelled : SpellsPeriodBy freely p sent
  pub sparse : IsSparse (p ∷ []) sent received

-- at least twelve columns, and control columns all
pub record AreControl (cs : List Column) : Type 0 where
  pub long : 12 ≤ length cs
  pub all : list_all is_control_column cs ≡ true

-- of a control period control columns are received, and what is reported of its first m columns is its row
abbrev pub ControlLaw : Type 0
ControlLaw =
    (runs : List ControlRun) (sent received : List Column) → is_control_period runs ≡ true → PeriodReceived (control runs) sent received
    → AreControl received × ((j m : ℕ) → tells j (take m received) ≡ period_row j m [] (control runs) sent received)

-- columns that stand after control columns and before a control column, of which, with those after them, m were
-- received: what is reported of them is the period's row, between what is reported of the columns before and
-- of those after
abbrev pub TellRow : Period → List Column → List Column → Type 0
TellRow p sent received =
    (before : List Column) (next : Column) (rest : List Column) (j m : ℕ) → AreControl before → is_control_column next ≡ true
    → tells j (before ++ take m (received ++ next ∷ rest))
    ≡ tells j before
    ++ (period_row (j + length before) m before p sent received ++ tells (j + length before + length received) (take (m - length received) (next ∷ rest)))

abbrev pub VideoLaw : Type 0
VideoLaw =
    (bytes : List ℕ) (sent received : List Column) → is_video_period bytes ≡ true → PeriodReceived (video bytes) sent received
    → TellRow (video bytes) sent received

abbrev pub IslandLaw : Type 0
IslandLaw =
    (x : DataIsland) (sent received : List Column) → is_data_island x ≡ true → PeriodReceived (island x) sent received
    → TellRow (island x) sent received

-- what is reported of the first m columns of conforming periods is, period after period, the row of each
abbrev pub JoiningLaw : Type 0
JoiningLaw =
    (ps : List Period) (sent received : List Column) → ReceivedFreely ps sent received
    → (j m : ℕ) → tells j (take m received) ≡ account_from j m [] ps sent received
