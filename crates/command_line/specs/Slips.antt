-- The word of a slip.
use Rattle.std.specs.Prelude.{◌≡◌, ℕ, ◌+◌, ◌<◌, ◌≤◌, List, ◌∷◌, ◌++◌, codes}
use Rattle.command_line.specs.Numbers.{IsNumber, digit_text}
use Rattle.command_line.specs.declared.slip.SlipWord.{SlipWord}

-- a word `L:P:D`: the digit of a lane, a place, and the digit of how many bits are left out
pub record IsSlip (text : List ℕ) (slip : SlipWord) : Type 0 where
  pub place_text : List ℕ
  pub text_is : text ≡ (48 + slip.lane) ∷ codes ":" ++ place_text ++ codes ":" ++ digit_text slip.bits
  pub lane : slip.lane < 3
  pub place : IsNumber 4294967295 place_text slip.place
  pub some : 1 ≤ slip.bits
  pub few : slip.bits ≤ 9
