-- Which kind of column stands at each place of a stream, the same on all three lanes (HDMI 1.4, section 5.1.2). Where
-- damage may lie, which columns are a pair of guards, and where a control period ends is all said of this one list.
use Rattle.std.specs.Prelude.{◌≡◌, ℕ, ◌+◌, ◌*◌, ◌/◌, List, [], ◌∷◌, ◌++◌, length, replicate, slice_index_or}
use Rattle.island_pack.specs.Periods.{Period, control, video, island, values_of}

pub data Kind : Type 0 where
  control_column : Kind
  -- the two columns that open a video data period, or open or close a data island
  first_guard : Kind
  second_guard : Kind
  pixel_column : Kind
  packet_column : Kind

abbrev pub guard_pair : List Kind
guard_pair = first_guard ∷ second_guard ∷ []

unfoldable pub kinds_in : Period → List Kind
kinds_in (control runs) = replicate (length (values_of runs)) control_column
kinds_in (video bytes) = guard_pair ++ replicate (length bytes / 3) pixel_column
kinds_in (island x) = guard_pair ++ (replicate (32 * length x.packets) packet_column ++ guard_pair)

unfoldable pub kinds_of : List Period → List Kind
kinds_of [] = []
kinds_of (p ∷ ps) = kinds_in p ++ kinds_of ps

-- the kind of column i; past the last column there is no control column, and no pair of guards begins
abbrev pub kind_at : List Kind → ℕ → Kind
kind_at kinds i = slice_index_or kinds i second_guard

-- a pixel, or a part of a packet
abbrev pub IsPayload : Kind → Type 0
IsPayload control_column = ⊥
IsPayload first_guard = ⊥
IsPayload second_guard = ⊥
IsPayload pixel_column = Unit {0}
IsPayload packet_column = Unit {0}

-- column i is the last one of a control period
pub record EndsAt (kinds : List Kind) (i : ℕ) : Type 0 where
  pub here : kind_at kinds i ≡ control_column
  pub then : kind_at kinds (i + 1) ≡ control_column → ⊥

-- column f is the first one after a control period that is not the last
pub record IsAfterControl (kinds : List Kind) (f : ℕ) : Type 0 where
  pub before : (i : ℕ) × (f ≡ i + 1) × (kind_at kinds i ≡ control_column)
  pub opens : kind_at kinds f ≡ first_guard
