-- Sixteen characters of a lane that are judged at once. DVI 1.0, section 3.2.2.
use Rattle.std.specs.Prelude.{ℕ, ◌≡◌, ◌+◌, ◌*◌, ◌/◌, ◌%◌, ◌<◌, Bool, not, List, [], ◌∷◌, length, slice_index, ℤ, pos, ◌+ℤ◌, ◌-ℤ◌}
use Rattle.tmds_word.specs.Bits.{word_bits, ones, balance}
use Rattle.tmds_code.specs.Coding.{is_coded}

-- the low eight bits of sixteen characters, and their upper two
pub record AreWords (ws low high : List ℕ) : Type 0 where
  pub long : length ws ≡ 16
  pub small : (k : ℕ) → k < 16 → slice_index ws k < 1024
  pub lows : (k : ℕ) → k < 16 → slice_index low k ≡ slice_index ws k % 256
  pub highs : (k : ℕ) → k < 16 → slice_index high k ≡ slice_index ws k / 256

-- the disparity of a step: steps 0 to 8 stand for -8 to 8, which are all that a rightly coded lane has
abbrev pub at_step : ℕ → ℤ
at_step step = pos (2 * step) -ℤ pos 8

-- of each character, whether it does not code its own byte at the disparity and the balances of those before it, right or wrong
abbrev pub wrongs : ℤ → List ℕ → List Bool
wrongs disparity [] = []
wrongs disparity (w ∷ ws) = not (is_coded disparity w) ∷ wrongs (disparity +ℤ balance (word_bits w)) ws

-- how many bits of the characters are ones
abbrev pub all_ones : List ℕ → ℕ
all_ones [] = 0
all_ones (w ∷ ws) = ones (word_bits w) + all_ones ws
