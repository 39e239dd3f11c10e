-- Rows that were worked out by hand: a tap of the island with a skew of one bit, which is aligned at the second control period; and a stream
-- one lane of which loses three bits of a line. Where its epochs end is no computation: here the lanes are cut at the place of the slip.
use Rattle.std.specs.Prelude.{◌≡◌, ℕ, Bool, List, [], ◌∷◌, ◌++◌, codes, take, drop}
use Rattle.capture_commands.specs.TrackText.{track_text}
use Rattle.capture_file.specs.Slips.{without}
use Rattle.lane_deskew.specs.Aligned.{aligned_columns}
use Rattle.listing_writer.specs.Texts.{link_text}
use Rattle.period_grammar.specs.Heard.{heard}
use Rattle.tmds_word.specs.Bits.{row_bits}
use Rattle.tmds_word.specs.Column.{Column, blues, greens, reds}
use Rattle.track_sink.specs.TrackEvents.{slip, track_events_of}
use Rattle.worked_rows.specs.Island.{times, columns as island_columns}
use Rattle.worked_rows.specs.Taps.{tapped}

-- lane 1 has eleven control characters before its first guard, so all lanes have twelve first at the second control period
unfoldable pub late_text : List ℕ
late_text = codes "c 00 4\nc 04 8\nv ff0000\nc 00 11\nend\n"

abbrev pub LateIsHeard : Type 0
LateIsHeard = link_text (heard (tapped (island_columns 0x29c 0x263) 0 1 0 749 600 599 600)) ≡ late_text

-- two black pixels, and nine
abbrev pub two : List Column → List Column
two rest = times 1 0x100 0x100 0x100 (times 1 0x3ff 0x3ff 0x3ff rest)

abbrev pub nine : List Column → List Column
nine rest = two (two (two (two (times 1 0x100 0x100 0x100 rest))))

-- a line of thirty black pixels, and one of a red one
unfoldable pub columns : List Column
columns =
    times 4 0x354 0x354 0x354 (times 8 0x354 0x0ab 0x354 (times 2 0x2cc 0x133 0x2cc (nine (nine (nine (two (times 1 0x100 0x100 0x100
    (times 24 0x354 0x354 0x354 (times 8 0x354 0x0ab 0x354 (times 2 0x2cc 0x133 0x2cc (times 1 0x100 0x100 0x200 (times 12 0x354 0x354 0x354 []))))))))))))

-- lane 2 loses three bits from place 300 on, so that from place 437 on its characters lie otherwise
unfoldable pub red_lane : List Bool
red_lane = without 300 3 (row_bits (reds columns))

abbrev pub before_slip : List Column
before_slip = aligned_columns (take 437 (row_bits (blues columns))) (take 437 (row_bits (greens columns))) (take 437 red_lane) 120 120 120

abbrev pub after_slip : List Column
after_slip = aligned_columns (drop 437 (row_bits (blues columns))) (drop 437 (row_bits (greens columns))) (drop 437 red_lane) 323 323 320

unfoldable pub slipped_text : List ℕ
slipped_text = codes "c 00 4\nc 04 8\ncut 14\n! slip 2 437\nc 00 4\nc 04 8\nv ff0000\nc 00 12\nend\n"

abbrev pub SlippedIsHeard : Type 0
SlippedIsHeard = track_text (track_events_of (heard before_slip) ++ (slip 2 437 ∷ track_events_of (heard after_slip))) ≡ slipped_text
