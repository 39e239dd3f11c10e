-- Which of some strikes are hits of a capture.
use Rattle.std.specs.Prelude.{ℕ, ◌+◌, ◌*◌, List, map, filter}
use Rattle.source_end.specs.Raster.{up_from}
use Rattle.capture_file.specs.declared.damaging.Hit.{Hit}
use Rattle.capture_file.specs.declared.writing.Tap.{Tap}
use Rattle.sampling.specs.Strikes.{Strike, is_within, hit_of}

-- the hits of strikes, of so many columns
unfoldable pub struck : Tap → ℕ → List Strike → List Hit
struck tap columns strikes = map (hit_of tap) (filter (is_within tap columns) strikes)

-- the strike on packet i of a data island that begins at a column
abbrev pub packet_strike : ℕ → ℕ → Strike
packet_strike at i = record { lane = 1; column = at + 2 + 32 * i + 5; value = 0x354 }

-- the strikes on the first packets
unfoldable pub packet_strikes : ℕ → ℕ → List Strike
packet_strikes at n = map (packet_strike at) (up_from 0 n)
