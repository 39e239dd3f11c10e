-- The damage that the generator's capture suffers: in each packet the character of lane 1 in the packet's column 5, and in each
-- line of pixels that of lane 2 of pixel 100, where their ten bits lie within what a tap takes of the lane.
use Rattle.std.specs.Prelude.{ℕ, ◌+◌, ◌-◌, ◌*◌, Bool, ◌&&◌, nat_le, List, [], ◌∷◌, ◌++◌, length, map, filter, slice_index}
use Rattle.island_pack.specs.Periods.{Period, control, video, island, period_columns, columns_of}
use Rattle.source_end.specs.Raster.{up_from}
use Rattle.capture_file.specs.declared.damaging.Hit.{Hit}
use Rattle.capture_file.specs.declared.writing.Tap.{Tap}
use Rattle.capture_file.specs.Taps.{tap_count}

-- a character that stands in place of that of a lane in a column
pub record Strike : Type 0 where
  pub lane : ℕ
  pub column : ℕ
  pub value : ℕ

-- the strikes on a period that begins at a column; two guard columns stand before pixels and packets
abbrev pub period_strikes : ℕ → Period → List Strike
period_strikes at (control runs) = []
period_strikes at (video bytes) = record { lane = 2; column = at + 2 + 100; value = 0x0ab } ∷ []
period_strikes at (island x) = map (λ i. record { lane = 1; column = at + 2 + 32 * i + 5; value = 0x354 }) (up_from 0 (length x.packets))

-- and on periods, the first of which begins at a column
unfoldable pub strikes : ℕ → List Period → List Strike
strikes at [] = []
strikes at (p ∷ ps) = period_strikes at p ++ strikes (at + period_columns p) ps

-- the first bit of a lane that a tap takes
abbrev pub first_bit : Tap → ℕ → ℕ
first_bit tap lane = tap.offset + slice_index tap.skews lane

-- whether its ten bits lie within what a tap takes of its lane, of so many columns
abbrev pub is_within : Tap → ℕ → Strike → Bool
is_within tap columns s =
    nat_le (first_bit tap s.lane) (10 * s.column) && nat_le (10 * s.column + 10) (first_bit tap s.lane + tap_count tap columns s.lane)

-- the strike as a hit of the capture
abbrev pub hit_of : Tap → Strike → Hit
hit_of tap s = record { lane = s.lane; place = 10 * s.column - first_bit tap s.lane; value = s.value }

-- the hits of a capture of a tap of periods
unfoldable pub hits_of : Tap → List Period → List Hit
hits_of tap periods = map (hit_of tap) (filter (is_within tap (columns_of periods)) (strikes 0 periods))
