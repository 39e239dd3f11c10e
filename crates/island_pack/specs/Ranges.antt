-- The sizes that the periods of a link may have: a value of six bits in one column at least, two sync values below 4 in a
-- guard, 1 to 18 packets in a data island, and at least twelve columns in a control period (HDMI 1.4, sections 5.1.2, 5.2.1.2
-- and 5.2.3). At most 4,096 pixels of a video data period and 20,000,000 columns of a stream are this project's own limits.
use Rattle.island_pack.specs.declared.ranges.TheConstants.{COLUMN_LIMIT, PIXEL_LIMIT}
use Rattle.std.specs.Prelude.{ℕ, ◌+◌, Bool, ◌&&◌, nat_le, nat_lt}

abbrev pub is_run_in_range : ℕ → ℕ → Bool
is_run_in_range value count = nat_lt value 64 && (nat_le 1 count && nat_le count COLUMN_LIMIT)

abbrev pub is_control_in_range : ℕ → Bool
is_control_in_range columns = nat_le 12 columns

abbrev pub is_line_in_range : ℕ → Bool
is_line_in_range pixels = nat_le 1 pixels && nat_le pixels PIXEL_LIMIT

abbrev pub are_sync_values : ℕ → ℕ → Bool
are_sync_values first second = nat_lt first 4 && nat_lt second 4

abbrev pub is_island_in_range : ℕ → Bool
is_island_in_range packets = nat_le 1 packets && nat_le packets 18

-- so many columns more than a stream has
abbrev pub has_room : ℕ → ℕ → Bool
has_room columns more = nat_le (columns + more) COLUMN_LIMIT
