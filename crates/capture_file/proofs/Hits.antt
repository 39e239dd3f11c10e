-- A lane with a character in place of ten of its bits.
use Rattle.std.proofs.Common.{◌≡◌, ℕ, ◌+◌, ◌≤◌, Bool, List, length, arith, length-append, length-drop, length-take-le}
use Rattle.tmds_word.proofs.Lists.{length-word_bits}
use Rattle.capture_file.specs.Damage.{with_word}

pub length-with_word : (place w : ℕ) (row : List Bool) → place + 10 ≤ length row → length (with_word place w row) ≡ length row
length-with_word place w row room = grind (arith, length-append, length-take-le, length-word_bits, length-drop)
