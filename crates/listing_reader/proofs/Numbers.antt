-- Decimal and hexadecimal digits.
use Rattle.std.proofs.Common.{◌≡◌, ℕ, ◌+◌, ◌-◌, ◌*◌, ◌%◌, ◌^◌, ◌<◌, false, ◌==◌, List, [], ◌∷◌, ◌++◌, length, take, get_or, refl, ap, ◌∙◌, arith, add-one}
use Rattle.std.proofs.Math.Nat.{pow-suc}
use Rattle.std.proofs.lemmas.List.{take_more}
use Rattle.listing_reader.specs.Forms.{digits_after, no_line, video_form}
use Rattle.listing_reader.specs.FormSeen.{IsVideo}

digits_after-snoc : (n : ℕ) (xs : List ℕ) (d : ℕ) → digits_after n (xs ++ d ∷ []) ≡ 10 * digits_after n xs + (d - 48)
unfolding digits_after
digits_after-snoc n [] d = refl
digits_after-snoc n (x ∷ xs) d = digits_after-snoc (10 * n + (x - 48)) xs d

-- one digit more
pub digits_more : (n : ℕ) (xs : List ℕ) (i : ℕ) → i < length xs → digits_after n (take (i + 1) xs) ≡ 10 * digits_after n (take i xs) + (get_or xs i 0 - 48)
digits_more n xs i within = ap (digits_after n) (take_more xs i 0 within) ∙ digits_after-snoc n (take i xs) (get_or xs i 0)

pub more_below : (value digit i : ℕ) → value < 10 ^ i → digit < 10 → 10 * value + digit < 10 ^ (i + 1)
more_below value digit i below small = rw (add-one, pow-suc) (omega arith)

-- six bytes a pixel are what a video line gives, if they are digits
pub video_seen : (digits : List ℕ) → length digits % 6 ≡ 0 → IsVideo digits (video_form digits)
unfolding video_form
video_seen digits six = grind arith

-- bytes that make no whole pixels
pub video_odd : (digits : List ℕ) → (length digits % 6 == 0) ≡ false → video_form digits ≡ no_line
unfolding video_form
video_odd digits odd = grind arith
