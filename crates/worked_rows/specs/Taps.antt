-- Rows that were worked out by hand: a tap with an offset and skews, damaged pixels, a capture that ends within an island, and noise.
-- Of each the listing of `recover link`, and of some what `check` says.
use Rattle.std.specs.Prelude.{◌≡◌, ℕ, ◌+◌, List, [], codes}
use Rattle.tmds_word.specs.Column.{Column, blues, greens, reds}
use Rattle.tmds_word.specs.Taps.{part_of}
use Rattle.lane_deskew.specs.Aligned.{aligned_columns}
use Rattle.listing_writer.specs.Checks.{check_text}
use Rattle.listing_writer.specs.Texts.{link_text}
use Rattle.period_grammar.specs.Heard.{heard}
use Rattle.worked_rows.specs.Island.{times, columns as island_columns}

-- a line whose first control period has `first` columns more than twelve, with these characters of its pixel
unfoldable pub line_columns : ℕ → ℕ → ℕ → ℕ → List Column
line_columns more b g r = times (4 + more) 0x354 0x354 0x354 (times 8 0x354 0x0ab 0x354 (times 2 0x2cc 0x133 0x2cc (times 1 b g r (times 12 0x354 0x354 0x354 []))))

-- so many bits of each lane, from these places on, aligned at these edges
abbrev pub tapped : List Column → ℕ → ℕ → ℕ → ℕ → ℕ → ℕ → ℕ → List Column
tapped cs blue green red many d e f = aligned_columns (part_of (blues cs) blue many) (part_of (greens cs) green many) (part_of (reds cs) red many) d e f

-- offset 7 and skews 0, 70 and 35: 393 bits a lane, and the edges are at 313, 243 and 278
unfoldable pub skewed_text : List ℕ
skewed_text = codes "c 00 4\nc 04 8\nv ff0000\nc 00 5\nend\n"

abbrev pub SkewedIsHeard : Type 0
SkewedIsHeard = link_text (heard (tapped (line_columns 20 0x100 0x100 0x200) 7 77 42 393 313 243 278)) ≡ skewed_text

-- 0x201 in place of 0x200 is another first character: the pixel is listed as received, with no fault
unfoldable pub other_text : List ℕ
other_text = codes "c 00 4\nc 04 8\nv fc0000\nc 00 12\nend\n"

unfoldable pub wrong_text : List ℕ
wrong_text = codes "c 00 4\nc 04 8\nv 010000\n! code 2 14\nc 00 12\nend\n"

unfoldable pub faulty_text : List ℕ
faulty_text = codes "! code 2 14\nfaulty\n"

unfoldable pub clean_text : List ℕ
clean_text = codes "clean\n"

pub record PixelIsHeard : Type 0 where
  pub other : link_text (heard (tapped (line_columns 0 0x100 0x100 0x201) 0 0 0 270 120 120 120)) ≡ other_text
  -- 0x300 is no character that a source sends there
  pub wrong : link_text (heard (tapped (line_columns 0 0x100 0x100 0x300) 0 0 0 270 120 120 120)) ≡ wrong_text
  pub faulty : check_text (heard (tapped (line_columns 0 0x100 0x100 0x300) 0 0 0 270 120 120 120)) ≡ faulty_text
  pub clean : check_text (heard (tapped (line_columns 0 0x100 0x100 0x200) 0 0 0 270 120 120 120)) ≡ clean_text

-- 300 bits a lane of the island: its packet is cut
unfoldable pub cut_text : List ℕ
cut_text = codes "c 00 4\nc 14 8\ni 00\ncut 14\nend\n"

unfoldable pub cut_check : List ℕ
cut_check = codes "cut 14\nclean\n"

pub record CutIsHeard : Type 0 where
  pub listed : link_text (heard (tapped (island_columns 0x29c 0x263) 0 0 0 300 120 120 120)) ≡ cut_text
  pub checked : check_text (heard (tapped (island_columns 0x29c 0x263) 0 0 0 300 120 120 120)) ≡ cut_check

-- one column of three characters 0 between control columns
unfoldable pub noise_columns : List Column
noise_columns = times 12 0x354 0x354 0x354 (times 1 0 0 0 (times 12 0x354 0x354 0x354 []))

unfoldable pub noise_text : List ℕ
noise_text = codes "c 00 12\n! noise 12\nc 00 12\nend\n"

abbrev pub NoiseIsHeard : Type 0
NoiseIsHeard = link_text (heard (tapped noise_columns 0 0 0 250 120 120 120)) ≡ noise_text
