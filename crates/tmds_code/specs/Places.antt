-- The order in which tables have the signs of a disparity.
use Rattle.std.specs.Prelude.{ℕ, ℤ}
use Rattle.tmds_code.specs.Coding.{Sign, negative, null, positive, sign_of}

abbrev pub place_of : Sign → ℕ
place_of negative = 0
place_of null = 1
place_of positive = 2

abbrev pub sign_place : ℤ → ℕ
sign_place disparity = place_of (sign_of disparity)
