-- Rows that were worked out by hand: an island of two packets, the last character of the first and the first of the second received as control
-- characters on one lane, which are mended; and an island of nineteen Null packets, one more than may be.
use Rattle.std.specs.Prelude.{◌≡◌, ℕ, List, [], ◌∷◌, ◌++◌, replicate, codes}
use Rattle.island_pack.specs.Periods.{Period, control, island}
use Rattle.island_pack.specs.Spelling.{Spells}
use Rattle.island_pack.specs.declared.packet.Packet.{Packet}
use Rattle.listing_reader.specs.Reading.{reads_as}
use Rattle.listing_reader.specs.LineSteps.{accepts}
use Rattle.tmds_word.specs.Column.{Column}
use Rattle.worked_rows.specs.Fields.{zeros, packet}
use Rattle.worked_rows.specs.Island.{times, Lists, opening_lines}

abbrev pub first_packet : Packet
first_packet = packet (0 ∷ 0 ∷ 128 ∷ []) (0 ∷ 0 ∷ 0 ∷ 0 ∷ 0 ∷ 0 ∷ 128 ∷ zeros 21)

abbrev pub second_packet : Packet
second_packet = packet (zeros 3) (2 ∷ zeros 27)

unfoldable pub first_line : List ℕ
first_line = codes "p 000080 00000000000080 00000000000000 00000000000000 00000000000000 00000000000000000000000000000000\n"

unfoldable pub second_line : List ℕ
second_line = codes "p 000000 02000000000000 00000000000000 00000000000000 00000000000000 00000000000000000000000000000000\n"

unfoldable pub ending_lines : List ℕ
ending_lines = codes "e 00\nc 00 12\nend\n"

unfoldable pub two_listing : List ℕ
two_listing = opening_lines ++ first_line ++ second_line ++ ending_lines

unfoldable pub two_mended : List ℕ
two_mended = opening_lines ++ first_line ++ codes "! symbols 14 1\n! mended 14 0 63\n" ++ second_line ++ codes "! symbols 46 1\n! mended 46 0 1\n" ++ ending_lines

unfoldable pub two_periods : List Period
two_periods =
    control (record { value = 0; count = 4 } ∷ record { value = 20; count = 8 } ∷ [])
    ∷ island (record { opening = record { first = 0; second = 0 }; packets = first_packet ∷ second_packet ∷ []; closing = record { first = 0; second = 0 } })
    ∷ control (record { value = 0; count = 12 } ∷ [])
    ∷ []

-- the columns of both packets, where lane 2 has these characters in the last column of the first and in the first column of the second
abbrev pub two_packets : ℕ → ℕ → List Column → List Column
two_packets last next rest =
    times 1 0x29c 0x29c 0x29c (times 22 0x2cc 0x29c 0x29c (times 3 0x28e 0x29c 0x29c (times 1 0x2cc 0x29c 0x29c (times 1 0x2cc 0x29c 0x263 (times 1 0x2cc 0x263 0x263
    (times 2 0x2cc 0x29c 0x29c (times 1 0x28e 0x29c last (times 1 0x2cc 0x29c next (times 27 0x2cc 0x29c 0x29c (times 1 0x2cc 0x263 0x29c (times 1 0x2cc 0x29c 0x263
    (times 1 0x2cc 0x263 0x263 (times 1 0x2cc 0x263 0x29c rest)))))))))))))

abbrev pub around : List Column → List Column
around packets = times 4 0x354 0x354 0x354 (times 8 0x354 0x0ab 0x0ab (times 2 0x28e 0x133 0x133 (packets ++ times 2 0x28e 0x133 0x133 (times 12 0x354 0x354 0x354 []))))

unfoldable pub two_columns : ℕ → ℕ → List Column
two_columns last next = around (two_packets last next [])

pub record TwoAreListed : Type 0 where
  pub read : reads_as two_listing ≡ accepts two_periods
  pub heard : Lists (two_columns 0x263 0x263) two_listing
  pub mended : Lists (two_columns 0x354 0x354) two_mended

-- nineteen Null packets

unfoldable pub null_line : List ℕ
null_line = codes "p 000000 00000000000000 00000000000000 00000000000000 00000000000000 00000000000000000000000000000000\n"

abbrev pub three_lines : List ℕ
three_lines = null_line ++ null_line ++ null_line

unfoldable pub long_text : List ℕ
long_text =
    opening_lines ++ three_lines ++ three_lines ++ three_lines ++ three_lines ++ three_lines ++ three_lines ++ null_line ++ codes "! longisland 590\n" ++ ending_lines

unfoldable pub long_columns : List Column
long_columns = around (times 1 0x29c 0x29c 0x29c (times 607 0x2cc 0x29c 0x29c []))

abbrev pub LongIsHeard : Type 0
LongIsHeard = Lists long_columns long_text
