-- The periods that a source sends one after another. HDMI 1.4, section 5.1.2.
use Rattle.std.specs.Prelude.{ℕ, ◌+◌, ◌*◌, ◌/◌, ◌%◌, Bool, ◌==◌, ◌&&◌, List, [], ◌∷◌, ◌++◌, length, take, reverse, replicate, nat_le}
use Rattle.std.specs.List.{list_all}
use Rattle.island_pack.specs.declared.packet.Packet.{Packet}

-- control columns of one value: HSYNC is bit 0, VSYNC bit 1, CTL0 to CTL3 are bits 2 to 5
pub record ControlRun : Type 0 where
  pub value : ℕ
  pub count : ℕ

-- HSYNC plus twice VSYNC in each of two guard columns
pub record SyncPair : Type 0 where
  pub first : ℕ
  pub second : ℕ

-- the guard columns that open a data island, its packets, and the guard columns that close it
pub record DataIsland : Type 0 where
  pub opening : SyncPair
  pub packets : List Packet
  pub closing : SyncPair

-- a control period is given by its runs, a video data period by its bytes: red, green and blue of each pixel
pub data Period : Type 0 where
  control : List ControlRun → Period
  video : List ℕ → Period
  island : DataIsland → Period

-- the value of each column of a control period
unfoldable pub values_of : List ControlRun → List ℕ
values_of [] = []
values_of (r ∷ rs) = replicate r.count r.value ++ values_of rs

-- CTL0 to CTL3 of a value
abbrev pub ctl : ℕ → ℕ
ctl value = value / 4 % 16

-- whether the last eight columns are there and have these control bits (HDMI 1.4, section 5.2.1.1)
unfoldable pub has_preamble : ℕ → List ℕ → Bool
has_preamble bits values = nat_le 8 (length values) && list_all (λ v. ctl v == bits) (take 8 (reverse values))

-- CTL0 is 1 and the others are 0 before a video data period
abbrev pub VIDEO_PREAMBLE : ℕ
VIDEO_PREAMBLE = 1

-- CTL0 and CTL2 are 1 and the others are 0 before a data island
abbrev pub ISLAND_PREAMBLE : ℕ
ISLAND_PREAMBLE = 5

pub record Pixel : Type 0 where
  pub red : ℕ
  pub green : ℕ
  pub blue : ℕ

unfoldable pub pixels_of : List ℕ → List Pixel
pixels_of (r ∷ g ∷ b ∷ rest) = record { red = r; green = g; blue = b } ∷ pixels_of rest
pixels_of _ = []

-- how many columns a period takes: a video data period has two guard columns before its pixels, a data island two
-- before and two after its packets of 32 columns
unfoldable pub period_columns : Period → ℕ
period_columns (control runs) = length (values_of runs)
period_columns (video bytes) = 2 + length bytes / 3
period_columns (island x) = 4 + 32 * length x.packets

unfoldable pub columns_of : List Period → ℕ
columns_of [] = 0
columns_of (p ∷ ps) = period_columns p + columns_of ps
