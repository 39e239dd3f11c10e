-- What a coder and a judge keep of the characters that they have seen.
use Rattle.std.specs.Prelude.{◌≡◌, ℕ, List, length, ℤ}
use Rattle.tmds_code.specs.Lanes.{IsLane, disparity_of}

-- a coder that keeps a disparity stands for the bytes that it took and the characters that it gave
pub record IsCoderAfter (kept : ℤ) (bytes words : List ℕ) : Type 0 where
  pub lane : IsLane bytes words
  pub disparity : kept ≡ disparity_of words

-- what contracts see of a judge: how many characters it heard, and the sum of their balances
pub record Heard : Type 0 where
  pub count : ℕ
  pub disparity : ℤ

-- a judge stands for the characters that it heard
pub record IsJudgeAfter (judge : Heard) (words : List ℕ) : Type 0 where
  pub count : judge.count ≡ length words
  pub disparity : judge.disparity ≡ disparity_of words
