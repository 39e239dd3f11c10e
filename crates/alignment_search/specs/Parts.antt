-- Bits of lanes that are lent.
use Rattle.std.specs.Prelude.{◌≡◌, ℕ, ◌+◌, ◌*◌, ◌^◌, ◌<◌, ◌≤◌, Bool, List, length, take, drop}
use Rattle.tmds_word.specs.Bits.{bytes_bits}
use Rattle.alignment_search.specs.declared.lane.LanePart.{LanePart}
use Rattle.alignment_search.specs.declared.finder.LaneParts.{LaneParts}

-- there is room for two bytes behind them
pub record HasRoom (part : LanePart) : Type 0 where
  pub few : part.skip < 8
  pub behind : part.skip + part.count + 16 ≤ 8 * length part.bytes.now
  pub within : length part.bytes.now < 2 ^ 27

-- they are all bits of a lane from a place on
pub record IsPartOf (part : LanePart) (base : ℕ) (xs : List Bool) : Type 0 where
  pub bits : take part.count (drop part.skip (bytes_bits part.bytes.now)) ≡ drop base xs
  pub many : part.count ≡ length (drop base xs)

pub record HaveRoom (parts : LaneParts) : Type 0 where
  pub blue : HasRoom parts.blue
  pub green : HasRoom parts.green
  pub red : HasRoom parts.red

pub record ArePartsOf (parts : LaneParts) (xs ys zs : List Bool) : Type 0 where
  pub blue : IsPartOf parts.blue parts.base xs
  pub green : IsPartOf parts.green parts.base ys
  pub red : IsPartOf parts.red parts.base zs
