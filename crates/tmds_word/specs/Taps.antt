-- The tap of columns: of each lane some of its bits, from a place of its own on. Where the lanes of a link have skews,
-- they arrive later than one another (HDMI 1.4, section 4.2).
use Rattle.std.specs.Prelude.{◌≡◌, ℕ, ◌+◌, ◌*◌, ◌≤◌, Bool, List, length, take, drop, slice_index}
use Rattle.tmds_word.specs.Bits.{row_bits}
use Rattle.tmds_word.specs.Column.{Column, blues, greens, reds}
use Rattle.tmds_word.specs.declared.TheConstants.{GREATEST_SKEW}

-- so many bits of a lane, from a place on; fewer where the lane ends before
abbrev pub part_of : List ℕ → ℕ → ℕ → List Bool
part_of words from count = take count (drop from (row_bits words))

-- all of them are there
pub record IsPart (words : List ℕ) (from count : ℕ) (bits : List Bool) : Type 0 where
  pub within : from + count ≤ 10 * length words
  pub bits_are : bits ≡ part_of words from count

-- lane c gives as many bits as its count says, from the offset plus its skew on
pub record IsTap (columns : List Column) (offset : ℕ) (skews counts : List ℕ) (blue green red : List Bool) : Type 0 where
  pub blue_part : IsPart (blues columns) (offset + slice_index skews 0) (slice_index counts 0) blue
  pub green_part : IsPart (greens columns) (offset + slice_index skews 1) (slice_index counts 1) green
  pub red_part : IsPart (reds columns) (offset + slice_index skews 2) (slice_index counts 2) red

-- places of two lanes that are no further apart than lanes may be: the limit is this project's own
abbrev pub AreNear : ℕ → ℕ → Type 0
AreNear d e = (d ≤ e + GREATEST_SKEW) × (e ≤ d + GREATEST_SKEW)

-- any two skews are near each other
pub record HasSmallSkew (skews : List ℕ) : Type 0 where
  pub blue_green : AreNear (slice_index skews 0) (slice_index skews 1)
  pub green_red : AreNear (slice_index skews 1) (slice_index skews 2)
  pub blue_red : AreNear (slice_index skews 0) (slice_index skews 2)
