-- The search for runs in packed bytes, and what its quick test sees.
use Rattle.std.specs.Prelude.{◌≡◌, ℕ, ◌+◌, ◌/◌, ◌%◌, ◌^◌, ◌<◌, ◌≤◌, Bool, List, length, take, drop}
use Rattle.tmds_word.specs.Bits.{bytes_bits}
use Rattle.terc4.specs.Tables.{is_control}
use Rattle.lane_align.specs.Lanes.{IsRun}

-- whether the ten bits from bit k on are a control word
abbrev pub control_at : ℕ → ℕ → Bool
control_at bits k = is_control (bits / 2 ^ k % 1024)

-- a run that begins at a place of a stretch, and lies no whole characters from a phase; phase 10 is none
pub record IsOther (xs : List Bool) (from until phase : ℕ) (p : ℕ) : Type 0 where
  pub after : from ≤ p
  pub before : p < until
  pub apart : p % 10 ≡ phase → ⊥
  pub run : IsRun xs p

-- the least one
pub record IsFirstOther (xs : List Bool) (from until phase : ℕ) (p : ℕ) : Type 0 where
  pub other : IsOther xs from until phase p
  pub least : (q : ℕ) → q < p → IsOther xs from until phase q → ⊥

-- bytes hold so many bits of a lane, which begin at a place of it; what stands after them is of no account
pub record Holds (bytes : List ℕ) (xs : List Bool) (base count : ℕ) : Type 0 where
  pub within : base + count ≤ length xs
  pub bits : take count (bytes_bits bytes) ≡ take count (drop base xs)
