-- What the three characters of a column say together.
use Rattle.std.specs.Prelude.{ℕ, ◌+◌, Bool, true, false, Option, Some, None, ◌==◌, ◌&&◌, nat_le, slice_index}
use Rattle.tmds_word.specs.Column.{Column}
use Rattle.terc4.specs.Tables.{terc_words, video_guard, island_guard, value_in, is_control}

-- 1 where a test holds, else 0
unfoldable pub one_if : Bool → ℕ
one_if true = 1
one_if false = 0

-- whether two or three of the words are control words: all three are, as they are sent (HDMI 1.4,
-- section 5.4.2), and one that was received damaged does not hide the column
unfoldable pub is_control_column : Column → Bool
is_control_column c = nat_le 2 (one_if (is_control c.blue) + one_if (is_control c.green) + one_if (is_control c.red))

-- whether the words are those that open a video period (HDMI 1.4, section 5.2.2.1)
unfoldable pub is_video_guard : Column → Bool
is_video_guard c = (c.blue == slice_index video_guard 0) && ((c.green == slice_index video_guard 1) && (c.red == slice_index video_guard 2))

-- whether a word has a value, of at least 12
unfoldable pub is_twelve_or_more : Option ℕ → Bool
is_twelve_or_more None = false
is_twelve_or_more (Some value) = nat_le 12 value

-- whether the words are those that open and close a data island: on lane 0 the TERC4 word of 12 to 15,
-- whose low bits are VSYNC and HSYNC (HDMI 1.4, section 5.2.3.3)
unfoldable pub is_island_guard : Column → Bool
is_island_guard c = is_twelve_or_more (value_in terc_words c.blue) && ((c.green == island_guard) && (c.red == island_guard))

-- How many words of a column are right, for columns received damaged.

-- how many of the three words are those that open a video period
unfoldable pub video_words : Column → ℕ
video_words c = one_if (c.blue == slice_index video_guard 0) + one_if (c.green == slice_index video_guard 1) + one_if (c.red == slice_index video_guard 2)

-- how many of the words of lanes 1 and 2 are the guard word of data islands, which is the same in all their guard columns
unfoldable pub closing_words : Column → ℕ
closing_words c = one_if (c.green == island_guard) + one_if (c.red == island_guard)

-- how many of the three words are those that open and close a data island
unfoldable pub island_words : Column → ℕ
island_words c = one_if (is_twelve_or_more (value_in terc_words c.blue)) + closing_words c

-- whether at least three of the four words of lanes 1 and 2 are the guard word of data islands: two columns that close
-- one, of whose words one may have been received damaged. The rule is this project's own
unfoldable pub closes : Column → Column → Bool
closes c d = nat_le 3 (closing_words c + closing_words d)
