-- What contracts see of the lines of one event.
use Rattle.std.specs.Prelude.{ℕ, List}

-- the lines, each with its line feed, and how many of them are fault lines
pub record Seen : Type 0 where
  pub text : List ℕ
  pub faults : ℕ
