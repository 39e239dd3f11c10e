-- One lane of a video period, whose disparity starts at 0 with the first pixel. DVI 1.0, section 3.2.2.
use Rattle.std.specs.Prelude.{◌≡◌, ℕ, ◌<◌, List, [], ◌∷◌, length, take, slice_index, ℤ, pos, ◌+ℤ◌}
use Rattle.tmds_word.specs.Bits.{word_bits, balance}
use Rattle.tmds_code.specs.Coding.{Coded}

-- the disparity after characters: the sum of their balances
unfoldable pub disparity_of : List ℕ → ℤ
disparity_of [] = pos 0
disparity_of (w ∷ ws) = balance (word_bits w) +ℤ disparity_of ws

-- each character codes its byte at the disparity of those sent before it
pub record IsLane (bytes words : List ℕ) : Type 0 where
  pub same_length : length words ≡ length bytes
  pub coded : (j : ℕ) → j < length words → Coded (disparity_of (take j words)) (slice_index bytes j) (slice_index words j)
