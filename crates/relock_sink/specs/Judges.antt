-- What is looked at to judge what other edges say of an alignment, of lanes that are lent.
use Rattle.std.specs.Prelude.{ℕ, ◌+◌, ◌*◌, ◌-◌, ◌<◌, true, List, [], ◌∷◌, slice_index, Option}
use Rattle.tmds_word.specs.Column.{Column}
use Rattle.lane_deskew.specs.Triples.{IsTriple}
use Rattle.link_sink.specs.Sinks.{Fed}
use Rattle.relock_sink.specs.Bands.{AreSo, AreEnding, AreUnopened}
use Rattle.relock_sink.specs.Columns.{column_here, column_after}
use Rattle.relock_sink.specs.Relocks.{is_announced}
use Rattle.relock_sink.specs.Rivals.{IsConfirmed, IsRefuted, HaveSameSkew, is_guard_band, columns_before}

-- at three places of lanes
abbrev pub IsOpening : Fed → List ℕ → Type 0
IsOpening fed places = AreSo (column_here fed places) (column_after fed places) is_announced true

abbrev pub IsBand : Fed → List ℕ → Type 0
IsBand fed places = AreSo (column_here fed places) (column_after fed places) is_guard_band true

abbrev pub column_third : Fed → List ℕ → Option Column
column_third fed places = column_here fed ((slice_index places 0 + 20) ∷ (slice_index places 1 + 20) ∷ (slice_index places 2 + 20) ∷ [])

abbrev pub IsEnding : Fed → List ℕ → Type 0
IsEnding fed places = AreEnding (column_here fed places) (column_after fed places) (column_third fed places)

abbrev pub IsUnopened : Fed → List ℕ → Type 0
IsUnopened fed places = AreUnopened (column_here fed places) (column_after fed places) (column_third fed places)

-- of two lists of three edges the later are those of a later control period on each lane
abbrev pub AreLater : List ℕ → List ℕ → Type 0
AreLater own edges = (slice_index own 0 < slice_index edges 0) × (slice_index own 1 < slice_index edges 1) × (slice_index own 2 < slice_index edges 2)

abbrev pub HaveOneSkew : List ℕ → List ℕ → Type 0
HaveOneSkew own edges = HaveSameSkew (slice_index own 0) (slice_index own 1) (slice_index own 2) (slice_index edges 0) (slice_index edges 1) (slice_index edges 2)

-- the places of the last column before later edges by the alignment at the first
abbrev pub columns_to : List ℕ → List ℕ → ℕ
columns_to own edges = columns_before (slice_index own 0) (slice_index own 1) (slice_index own 2) (slice_index edges 0) (slice_index edges 1) (slice_index edges 2)

abbrev pub last_places : List ℕ → List ℕ → List ℕ
last_places own edges =
    (slice_index own 0 + 10 * columns_to own edges - 10) ∷ (slice_index own 1 + 10 * columns_to own edges - 10) ∷ (slice_index own 2 + 10 * columns_to own edges - 10) ∷ []

-- edges of three lanes, at which the alignment in use is
abbrev pub IsOwn : Fed → List ℕ → Type 0
IsOwn fed own = IsConfirmed fed (slice_index own 0) (slice_index own 1) (slice_index own 2)

abbrev pub AreEdges : Fed → List ℕ → Type 0
AreEdges fed edges = IsTriple fed.blue fed.green fed.red (slice_index edges 0) (slice_index edges 1) (slice_index edges 2)

abbrev pub Refutes : Fed → List ℕ → List ℕ → Type 0
Refutes fed own edges = IsRefuted fed (slice_index own 0) (slice_index own 1) (slice_index own 2) (slice_index edges 0) (slice_index edges 1) (slice_index edges 2)
