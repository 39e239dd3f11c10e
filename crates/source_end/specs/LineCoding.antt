-- The coders of three lanes, seen as the disparities that they keep, before and after some pixels.
use Rattle.std.specs.Prelude.{◌≡◌, ℕ, List, ◌++◌, length, map, ℤ}
use Rattle.std.proofs.Common.{suc, zero}
use Rattle.tmds_word.specs.Column.{Column}
use Rattle.tmds_code.specs.Pasts.{IsCoderAfter}
use Rattle.island_pack.specs.Periods.{Pixel}

-- the bytes of a pixel in the order of a row of pixels: red, green, blue
abbrev pub byte_of : ℕ → Pixel → ℕ
byte_of zero p = p.red
byte_of (suc zero) p = p.green
byte_of (suc (suc i)) p = p.blue

-- what a lane's coder stands for after a pixel's bytes and their characters, whatever was coded before
abbrev pub GoesOn : ℤ → ℤ → List ℕ → List ℕ → Type 0
GoesOn before after bytes words = (past sent : List ℕ) → IsCoderAfter before past sent → IsCoderAfter after (past ++ bytes) (sent ++ words)

-- the columns are the coding of the pixels, which follow what was coded before
pub record AreCodersAfter (blue green red : ℤ) (pixels : List Pixel) (columns : List Column) (blue_after green_after red_after : ℤ) : Type 0 where
  pub blue_lane : GoesOn blue blue_after (map (λ (p : Pixel). p.blue) pixels) (map (λ (c : Column). c.blue) columns)
  pub green_lane : GoesOn green green_after (map (λ (p : Pixel). p.green) pixels) (map (λ (c : Column). c.green) columns)
  pub red_lane : GoesOn red red_after (map (λ (p : Pixel). p.red) pixels) (map (λ (c : Column). c.red) columns)
  pub as_many : length columns ≡ length pixels

-- they are its coding for some coders after them
abbrev pub AreCoded : ℤ → ℤ → ℤ → List Pixel → List Column → Type 0
AreCoded blue green red pixels columns =
    (blue_after green_after red_after : ℤ) × AreCodersAfter blue green red pixels columns blue_after green_after red_after
