-- What contracts see of a `Frames`.
use Rattle.std.specs.Prelude.{ℕ, Bool, Option}

-- how many columns in a row, up to three, have had the VSYNC `level`, and the last VSYNC value heard
pub record Sync : Type 0 where
  pub level : Bool
  pub streak : ℕ
  pub heard : Option Bool

-- whether the group counts, its first line's width and its number of lines
pub record Lines : Type 0 where
  pub counts : Bool
  pub first : Option ℕ
  pub count : ℕ

-- the VSYNC heard, and the group of lines so far
pub record State : Type 0 where
  pub sync : Sync
  pub lines : Lines
