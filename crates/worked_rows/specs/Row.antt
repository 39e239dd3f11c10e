-- A row that was worked out by hand: the listing of one red pixel, its columns, and the bytes of its capture.
use Rattle.std.specs.Prelude.{◌≡◌, ℕ, List, [], ◌∷◌, codes}
use Rattle.tmds_word.specs.Column.{Column}
use Rattle.island_pack.specs.Periods.{Period, control, video}
use Rattle.listing_reader.specs.Reading.{reads_as}
use Rattle.listing_reader.specs.LineSteps.{accepts}
use Rattle.capture_file.specs.Taps.{tapped_capture}
use Rattle.capture_commands.specs.Relays.{whole_tap}
use Rattle.island_pack.specs.Spelling.{Spells}
use Rattle.period_grammar.specs.Heard.{heard}
use Rattle.lane_deskew.specs.Aligned.{aligned_columns}
use Rattle.listing_writer.specs.Texts.{link_text}
use Rattle.tmds_word.specs.Column.{blues, greens, reds}
use Rattle.tmds_word.specs.Bits.{row_bits}
use Rattle.capture_commands.specs.Outcome.{MakesLink}

-- one red pixel

unfoldable pub listing : List ℕ
listing = codes "c 00 4\nc 04 8\nv ff0000\nc 00 12\nend\n"

unfoldable pub periods : List Period
periods = control (record { value = 0; count = 4 } ∷ record { value = 4; count = 8 } ∷ []) ∷ video (255 ∷ 0 ∷ 0 ∷ []) ∷ control (record { value = 0; count = 12 } ∷ []) ∷ []

-- twelve control columns, two guard columns, the pixel, and twelve control columns
unfoldable pub columns : List Column
columns = record { blue = 852; green = 852; red = 852 } ∷ record { blue = 852; green = 852; red = 852 } ∷ record { blue = 852; green = 852; red = 852 } ∷ record { blue = 852; green = 852; red = 852 } ∷ record { blue = 852; green = 171; red = 852 } ∷ record { blue = 852; green = 171; red = 852 } ∷ record { blue = 852; green = 171; red = 852 } ∷ record { blue = 852; green = 171; red = 852 } ∷ record { blue = 852; green = 171; red = 852 } ∷ record { blue = 852; green = 171; red = 852 } ∷ record { blue = 852; green = 171; red = 852 } ∷ record { blue = 852; green = 171; red = 852 } ∷ record { blue = 716; green = 307; red = 716 } ∷ record { blue = 716; green = 307; red = 716 } ∷ record { blue = 256; green = 256; red = 512 } ∷ record { blue = 852; green = 852; red = 852 } ∷ record { blue = 852; green = 852; red = 852 } ∷ record { blue = 852; green = 852; red = 852 } ∷ record { blue = 852; green = 852; red = 852 } ∷ record { blue = 852; green = 852; red = 852 } ∷ record { blue = 852; green = 852; red = 852 } ∷ record { blue = 852; green = 852; red = 852 } ∷ record { blue = 852; green = 852; red = 852 } ∷ record { blue = 852; green = 852; red = 852 } ∷ record { blue = 852; green = 852; red = 852 } ∷ record { blue = 852; green = 852; red = 852 } ∷ record { blue = 852; green = 852; red = 852 } ∷ []

-- the header of version 1, 270 bits a lane, and a block
unfoldable pub capture : List ℕ
capture = 84 ∷ 77 ∷ 67 ∷ 49 ∷ 0 ∷ 0 ∷ 1 ∷ 14 ∷ 84 ∷ 83 ∷ 77 ∷ 53 ∷ 213 ∷ 84 ∷ 83 ∷ 77 ∷ 53 ∷ 213 ∷ 84 ∷ 83 ∷ 77 ∷ 53 ∷ 213 ∷ 204 ∷ 50 ∷ 11 ∷ 16 ∷ 213 ∷ 84 ∷ 83 ∷ 77 ∷ 53 ∷ 213 ∷ 84 ∷ 83 ∷ 77 ∷ 53 ∷ 213 ∷ 84 ∷ 83 ∷ 77 ∷ 53 ∷ 84 ∷ 83 ∷ 77 ∷ 53 ∷ 213 ∷ 171 ∷ 172 ∷ 178 ∷ 202 ∷ 42 ∷ 171 ∷ 172 ∷ 178 ∷ 202 ∷ 42 ∷ 51 ∷ 205 ∷ 4 ∷ 16 ∷ 213 ∷ 84 ∷ 83 ∷ 77 ∷ 53 ∷ 213 ∷ 84 ∷ 83 ∷ 77 ∷ 53 ∷ 213 ∷ 84 ∷ 83 ∷ 77 ∷ 53 ∷ 84 ∷ 83 ∷ 77 ∷ 53 ∷ 213 ∷ 84 ∷ 83 ∷ 77 ∷ 53 ∷ 213 ∷ 84 ∷ 83 ∷ 77 ∷ 53 ∷ 213 ∷ 204 ∷ 50 ∷ 11 ∷ 32 ∷ 213 ∷ 84 ∷ 83 ∷ 77 ∷ 53 ∷ 213 ∷ 84 ∷ 83 ∷ 77 ∷ 53 ∷ 213 ∷ 84 ∷ 83 ∷ 77 ∷ 53 ∷ []

-- the listing reads as the periods
abbrev pub IsRead : Type 0
IsRead = reads_as listing ≡ accepts periods

-- the tap of all bits of the columns is the capture
abbrev pub IsCaptured : Type 0
IsCaptured = tapped_capture columns whole_tap ≡ capture

-- the columns spell the periods
abbrev pub IsSpelled : Type 0
IsSpelled = Spells periods columns

-- what is heard of the columns, aligned where the first control period ends, has this link listing
abbrev pub IsHeard : Type 0
IsHeard = link_text (heard (aligned_columns (row_bits (blues columns)) (row_bits (greens columns)) (row_bits (reds columns)) 120 120 120)) ≡ listing

-- so `make link` makes the capture of the listing
abbrev pub IsMade : Type 0
IsMade = MakesLink Spells whole_tap (reads_as listing) (record { status = 0; output = capture; note = [] })
