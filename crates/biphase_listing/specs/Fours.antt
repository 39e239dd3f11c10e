-- The bits of a subframe as bytes of a number, four in each (own).
use Rattle.std.specs.Prelude.{◌≡◌, ℕ, ◌+◌, ◌*◌, ◌/◌, ◌%◌, ◌<◌}
use Rattle.audio_packets.specs.Samples.{side_bits}
use Rattle.audio_out.specs.declared.subframe.Subframe.{Subframe}

-- six bytes, the lowest first: one for each four bits of a value, the lowest four first
abbrev pub six_bytes : (ℕ → ℕ) → ℕ → ℕ
six_bytes byte value =
    byte (value % 16) + 256 * byte (value / 16 % 16) + 65536 * byte (value / 256 % 16) + 16777216 * byte (value / 4096 % 16)
    + 4294967296 * byte (value / 65536 % 16) + 1099511627776 * byte (value / 1048576 % 16)

-- the value whose four bits are those of a value in turned order
abbrev pub turned : ℕ → ℕ
turned value =
    value / 1048576 % 16 + 16 * (value / 65536 % 16) + 256 * (value / 4096 % 16) + 4096 * (value / 256 % 16) + 65536 * (value / 16 % 16) + 1048576 * (value % 16)

-- after any byte those of the value's bits, and last that of V, U, C and P
pub record HasFours (sub : Subframe) (fours : ℕ) : Type 0 where
  pub first : ℕ
  pub below : first < 256
  pub fours_are : fours ≡ first + 256 * six_bytes (λ n. n) sub.value + 72057594037927936 * side_bits sub.value sub.flags
