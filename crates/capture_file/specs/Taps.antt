-- The tap of columns: of each lane the bits from a place of its own on, in the first version all lanes equally many.
use Rattle.std.specs.Prelude.{ℕ, ◌+◌, ◌-◌, ◌*◌, ◌^◌, ◌<◌, ◌≤◌, Bool, List, [], ◌∷◌, length, take, drop, min, max, slice_index, Option, Some, None, ◌==◌, if◌then◌else◌}
use Rattle.tmds_word.specs.Column.{Column, blues, greens, reds}
use Rattle.tmds_word.specs.Taps.{part_of}
use Rattle.capture_file.specs.declared.writing.Tap.{Tap}
use Rattle.capture_file.specs.Layout.{packed, block}
use Rattle.capture_file.specs.Captures.{layout}

-- the greatest of three skews
abbrev pub greatest : List ℕ → ℕ
greatest skews = max (slice_index skews 0) (max (slice_index skews 1) (slice_index skews 2))

-- at most the limit, where there is one
abbrev pub limited : Option ℕ → ℕ → ℕ
limited None n = n
limited (Some most) n = min n most

-- how many bits later than the offset a lane may begin: in the first version all lanes have as many bits as the latest
abbrev pub tap_lag : Tap → ℕ → ℕ
tap_lag tap lane = if tap.version == 2 then slice_index tap.skews lane else greatest tap.skews

-- how many bits the tap takes of a lane of so many columns; `-` stops at 0
abbrev pub tap_count : Tap → ℕ → ℕ → ℕ
tap_count tap columns lane = limited tap.bits (10 * columns - tap.offset - tap_lag tap lane)

abbrev pub tap_counts : Tap → List Column → List ℕ
tap_counts tap columns = tap_count tap (length columns) 0 ∷ tap_count tap (length columns) 1 ∷ tap_count tap (length columns) 2 ∷ []

-- a row has so many bits from a place on, and the place after them fits 32 bits; or none are asked for
abbrev pub HasBits : List Bool → ℕ → ℕ → Type 0
HasBits row from bits = 0 < bits → (from + bits ≤ length row) × (from + bits < 2 ^ 32)

-- the bits that a tap takes of three lanes
pub record Tapped : Type 0 where
  pub blue : List Bool
  pub green : List Bool
  pub red : List Bool

-- lane c gives the bits from the offset plus its skew on
abbrev pub tap_of : List Column → Tap → Tapped
tap_of columns tap =
    record {
      blue = part_of (blues columns) (tap.offset + slice_index tap.skews 0) (tap_count tap (length columns) 0);
      green = part_of (greens columns) (tap.offset + slice_index tap.skews 1) (tap_count tap (length columns) 1);
      red = part_of (reds columns) (tap.offset + slice_index tap.skews 2) (tap_count tap (length columns) 2);
    }

-- the capture of a tap, in the version that it names
unfoldable pub tapped_capture : List Column → Tap → List ℕ
tapped_capture columns tap = let t = tap_of columns tap in layout tap.version t.blue t.green t.red

-- of three rows some bits, each from a place of its own on: their capture, and block j of it
abbrev pub row_part : List Bool → List ℕ → List ℕ → ℕ → List Bool
row_part row starts bits lane = take (slice_index bits lane) (drop (slice_index starts lane) row)

abbrev pub part_capture : ℕ → List Bool → List Bool → List Bool → List ℕ → List ℕ → List ℕ
part_capture version blue green red starts bits = layout version (row_part blue starts bits 0) (row_part green starts bits 1) (row_part red starts bits 2)

abbrev pub part_block : ℕ → List Bool → List Bool → List Bool → List ℕ → List ℕ → List ℕ
part_block j blue green red starts bits = block j (packed (row_part blue starts bits 0)) (packed (row_part green starts bits 1)) (packed (row_part red starts bits 2))
