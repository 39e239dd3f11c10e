-- The words of damages.
use Rattle.std.specs.Prelude.{◌≡◌, ℕ, ◌+◌, ◌*◌, ◌<◌, List, [], ◌∷◌, ◌++◌, length, codes, Ok}
use Rattle.hex.specs.Hex.{decode_of}
use Rattle.command_line.specs.Numbers.{IsNumber}
use Rattle.command_line.specs.declared.damage.DamageWord.{DamageWord}

-- a word `L:P:V`: the digit of a lane, a place, and the three hexadecimal digits of a character
pub record IsDamage (text : List ℕ) (damage : DamageWord) : Type 0 where
  pub place_text : List ℕ
  pub digits : List ℕ
  pub high : ℕ
  pub low : ℕ
  pub text_is : text ≡ (48 + damage.lane) ∷ codes ":" ++ place_text ++ codes ":" ++ digits
  pub lane : damage.lane < 3
  pub place : IsNumber 4294967295 place_text damage.place
  pub three : length digits ≡ 3
  pub value_is : decode_of (codes "0" ++ digits) ≡ Ok (high ∷ low ∷ [])
  pub value : damage.value ≡ 256 * high + low
  pub character : damage.value < 1024

-- the words of damages, in order
abbrev pub AreDamages : List (List ℕ) → List DamageWord → Type 0
AreDamages [] [] = Unit {0}
AreDamages (text ∷ texts) (damage ∷ damages) = IsDamage text damage × AreDamages texts damages
AreDamages _ _ = ⊥
