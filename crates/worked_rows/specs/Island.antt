-- Rows that were worked out by hand: the listing of a data island with an AVI InfoFrame, and of a line after it. Then the same columns
-- with one damaged character of the packet, which is mended, and with two in one column, by which a block is lost.
use Rattle.std.specs.Prelude.{◌≡◌, ℕ, List, [], ◌∷◌, ◌++◌, replicate, codes}
use Rattle.tmds_word.specs.Bits.{row_bits}
use Rattle.tmds_word.specs.Column.{Column, blues, greens, reds}
use Rattle.lane_deskew.specs.Aligned.{aligned_columns}
use Rattle.island_pack.specs.Periods.{Period, control, video, island}
use Rattle.island_pack.specs.Spelling.{Spells}
use Rattle.listing_reader.specs.Reading.{reads_as}
use Rattle.listing_reader.specs.LineSteps.{accepts}
use Rattle.listing_writer.specs.Texts.{link_text}
use Rattle.period_grammar.specs.Heard.{heard}
use Rattle.worked_rows.specs.Fields.{avi_packet}

unfoldable pub opening_lines : List ℕ
opening_lines = codes "c 00 4\nc 14 8\ni 00\n"

unfoldable pub closing_lines : List ℕ
closing_lines = codes "e 00\nc 00 4\nc 04 8\nv ff0000\nc 00 12\nend\n"

unfoldable pub listing : List ℕ
listing = opening_lines ++ codes "p 82020d 66000800010000 00000000000000 00000000000000 00000000000000 00000000000000000000000000000000\n" ++ closing_lines

-- column 14 has a character that is no TERC4 character, and bit 1 of body 0 is mended
unfoldable pub mended_listing : List ℕ
mended_listing =
    opening_lines ++ codes "p 82020d 66000800010000 00000000000000 00000000000000 00000000000000 00000000000000000000000000000000\n! symbols 14 1\n! mended 14 0 1\n" ++ closing_lines

-- the two first bits of body 0 are wrong, and it is lost
unfoldable pub lost_listing : List ℕ
lost_listing = opening_lines ++ codes "p 82020d 65000800010000 00000000000000 00000000000000 00000000000000 00000000000000000000000000000000\n! lost 14 0\n" ++ closing_lines

unfoldable pub periods : List Period
periods =
    control (record { value = 0; count = 4 } ∷ record { value = 20; count = 8 } ∷ [])
    ∷ island (record { opening = record { first = 0; second = 0 }; packets = avi_packet 0x66 ∷ []; closing = record { first = 0; second = 0 } })
    ∷ control (record { value = 0; count = 4 } ∷ record { value = 4; count = 8 } ∷ [])
    ∷ video (255 ∷ 0 ∷ 0 ∷ [])
    ∷ control (record { value = 0; count = 12 } ∷ [])
    ∷ []

-- so many columns of these characters, and then others
abbrev pub times : ℕ → ℕ → ℕ → ℕ → List Column → List Column
times n b g r rest = replicate n (record { blue = b; green = g; red = r }) ++ rest

-- the columns of the packet after its first one, whose characters on lanes 1 and 2 are given
abbrev pub packet_columns : ℕ → ℕ → List Column → List Column
packet_columns green red rest =
    times 1 0x29c green red (times 1 0x28e 0x263 0x29c (times 1 0x2cc 0x29c 0x263 (times 1 0x2cc 0x263 0x29c (times 3 0x2cc 0x29c 0x29c
    (times 1 0x28e 0x29c 0x29c (times 1 0x2cc 0x29c 0x29c (times 1 0x28e 0x29c 0x263 (times 6 0x2cc 0x29c 0x29c (times 1 0x28e 0x263 0x29c
    (times 1 0x2cc 0x29c 0x29c (times 2 0x28e 0x29c 0x29c (times 6 0x2cc 0x29c 0x29c (times 1 0x28e 0x29c 0x29c (times 1 0x2cc 0x29c 0x29c
    (times 1 0x2cc 0x263 0x29c (times 1 0x28e 0x263 0x29c (times 1 0x28e 0x263 0x263 (times 1 0x28e 0x29c 0x29c rest))))))))))))))))))

-- twelve control columns, the island, twelve control columns, the line, and twelve control columns
unfoldable pub columns : ℕ → ℕ → List Column
columns green red =
    times 4 0x354 0x354 0x354 (times 8 0x354 0x0ab 0x0ab (times 2 0x28e 0x133 0x133 (packet_columns green red (times 2 0x28e 0x133 0x133
    (times 4 0x354 0x354 0x354 (times 8 0x354 0x0ab 0x354 (times 2 0x2cc 0x133 0x2cc (times 1 0x100 0x100 0x200 (times 12 0x354 0x354 0x354 [])))))))))

-- the listing reads as the periods
abbrev pub IslandIsRead : Type 0
IslandIsRead = reads_as listing ≡ accepts periods

-- the columns spell the periods
abbrev pub IslandIsSpelled : Type 0
IslandIsSpelled = Spells periods (columns 0x29c 0x263)

-- what is heard of columns, aligned where the first control period ends, has this link listing
abbrev pub Lists : List Column → List ℕ → Type 0
Lists cs text = link_text (heard (aligned_columns (row_bits (blues cs)) (row_bits (greens cs)) (row_bits (reds cs)) 120 120 120)) ≡ text

abbrev pub IslandIsHeard : Type 0
IslandIsHeard = Lists (columns 0x29c 0x263) listing

-- 0x133 is received in place of the packet's first character on lane 2
abbrev pub IslandIsMended : Type 0
IslandIsMended = Lists (columns 0x29c 0x133) mended_listing

-- 0x263 and 0x29c are received in place of the first characters on lanes 1 and 2
abbrev pub IslandIsLost : Type 0
IslandIsLost = Lists (columns 0x263 0x29c) lost_listing
