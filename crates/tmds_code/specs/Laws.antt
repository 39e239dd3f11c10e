-- What every coded character has.
use Rattle.std.specs.Prelude.{◌≡◌, ◌≢◌, ℕ, ◌<◌, ◌≤◌, ℤ}
use Rattle.tmds_word.specs.Bits.{word_bits, turns}
use Rattle.tmds_code.specs.Coding.{Coded, decoded_byte}

-- a coded character carries the byte that it codes
abbrev pub DecodesCoded : Type 0
DecodesCoded = (disparity : ℤ) (byte w : ℕ) → byte < 256 → Coded disparity byte w → decoded_byte w ≡ byte

-- a character of at most five transitions, which is none of the four control characters (they have seven or eight)
pub record IsTransitionMinimized (w : ℕ) : Type 0 where
  pub few : turns (word_bits w) ≤ 5
  pub not_control_0 : w ≢ 0x354
  pub not_control_1 : w ≢ 0x0ab
  pub not_control_2 : w ≢ 0x154
  pub not_control_3 : w ≢ 0x2ab

abbrev pub CodedIsMinimized : Type 0
CodedIsMinimized = (disparity : ℤ) (byte w : ℕ) → byte < 256 → Coded disparity byte w → IsTransitionMinimized w

-- what meets the premises of both
pub record IsExample (disparity : ℤ) (byte w : ℕ) : Type 0 where
  pub small : byte < 256
  pub coded : Coded disparity byte w

-- there is such a character
abbrev pub HasExample : Type 0
HasExample = (disparity : ℤ) × (byte w : ℕ) × IsExample disparity byte w
