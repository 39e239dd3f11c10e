-- What a lane's buffer holds.
use Rattle.std.specs.Prelude.{Bool, List}

-- the bits that are not handed on, and those that were released last, which are handed on next
pub record HeldSeen : Type 0 where
  pub bits : List Bool
  pub released : List Bool
