-- Decimal and hexadecimal digits as they are written and read.
use Rattle.std.proofs.Common.{◌≡◌, ℕ, zero, suc, ◌+◌, ◌-◌, ◌*◌, ◌/◌, ◌%◌, ◌^◌, ◌<◌, ◌≤◌, Bool, true, not, ◌==◌, List, [], ◌∷◌, ◌++◌, length, refl, ap, arith}
use Rattle.std.specs.Prelude.{Some, slice_index, nat_lt}
use Rattle.std.specs.Fmt.{decimal}
use Rattle.std.specs.List.{list_all}
use Rattle.std.proofs.lemmas.Bool.{le-leb}
use Rattle.std.proofs.lemmas.Fmt.{decimal_by_steps, decimal_nonempty, length-decimal-le}
use Rattle.hex.specs.Hex.{IsBytes, encode_with, lower_digits}
use Rattle.listing_reader.specs.Forms.{digits_after, is_digit, number_of}
use Rattle.listing_reader.specs.Held.{is_feedless}
use Rattle.island_pack.specs.declared.ranges.TheConstants.{COLUMN_LIMIT}
use Rattle.listing_reader.proofs.Feeds.{and-left, and-right, both}

-- ---- decimal digits

digits_after-snoc : (n : ℕ) (xs : List ℕ) (d : ℕ) → digits_after n (xs ++ d ∷ []) ≡ 10 * digits_after n xs + (d - 48)
unfolding digits_after
digits_after-snoc n [] d = refl
digits_after-snoc n (x ∷ xs) d = digits_after-snoc (10 * n + (x - 48)) xs d

one_digit : (n : ℕ) → n < 10 → digits_after 0 ((48 + n) ∷ []) ≡ n
unfolding digits_after
one_digit n small = omega arith

more_digits : (n : ℕ) (ds : List ℕ) → 10 ≤ n → digits_after 0 ds ≡ n / 10 → digits_after 0 (ds ++ (48 + n % 10) ∷ []) ≡ n
more_digits n ds large e = let last = digits_after-snoc 0 ds (48 + n % 10) in omega arith

-- the digits of a number read as that number
digits_value : (n : ℕ) → n < 2 ^ 64 → digits_after 0 (decimal n) ≡ n
digits_value = decimal_by_steps (λ n ds. digits_after 0 ds ≡ n) one_digit more_digits

all-snoc : (p : ℕ → Bool) (xs : List ℕ) (d : ℕ) → list_all p xs ≡ true → p d ≡ true → list_all p (xs ++ d ∷ []) ≡ true
all-snoc p [] d h k = both (p d) true k refl
all-snoc p (x ∷ xs) d h k = both (p x) _ (and-left (p x) (list_all p xs) h) (all-snoc p xs d (and-right (p x) (list_all p xs) h) k)

pub digit : (n : ℕ) → n < 10 → is_digit (48 + n) ≡ true
digit n small = grind arith

-- what each digit passes, the digits of a number pass
decimal_pass : (p : ℕ → Bool) → ((n : ℕ) → n < 10 → p (48 + n) ≡ true) → (n : ℕ) → n < 2 ^ 64 → list_all p (decimal n) ≡ true
decimal_pass p h = decimal_by_steps (λ n ds. list_all p ds ≡ true)
    (λ n small. both (p (48 + n)) true (h n small) refl)
    (λ n ds large all. all-snoc p ds (48 + n % 10) all (h (n % 10) (omega arith)))

pub no_feed : (n : ℕ) → n < 10 → not (48 + n == 10) ≡ true
no_feed n small = grind arith

pub decimal_feedless : (n : ℕ) → n < 2 ^ 64 → is_feedless (decimal n) ≡ true
decimal_feedless = decimal_pass (λ b. not (b == 10)) no_feed

pub number_of-decimal : (n : ℕ) → n ≤ COLUMN_LIMIT → number_of (decimal n) ≡ Some n
unfolding number_of
number_of-decimal n few =
    let small : n < 2 ^ 64 = omega arith in
    let some = le-leb 1 (length (decimal n)) (decimal_nonempty n small) in
    let short = le-leb (length (decimal n)) 10 (length-decimal-le 10 n (omega arith) (omega arith) small) in
    let all = decimal_pass is_digit digit n small in
    rw (some, short, all) (ap Some (digits_value n small))

-- ---- hexadecimal digits

pub digit_feedless : (t : List ℕ) (d : ℕ) → is_feedless t ≡ true → not (slice_index t d == 10) ≡ true
digit_feedless [] d h = refl
digit_feedless (x ∷ xs) zero h = and-left (not (x == 10)) (is_feedless xs) h
digit_feedless (x ∷ xs) (suc d) h = digit_feedless xs d (and-right (not (x == 10)) (is_feedless xs) h)

pub encode_feedless : (bytes : List ℕ) → is_feedless (encode_with lower_digits bytes) ≡ true
unfolding encode_with
encode_feedless [] = refl
encode_feedless (b ∷ bytes) =
    both _ _ (digit_feedless lower_digits (b / 16) refl)
    (both _ _ (digit_feedless lower_digits (b % 16) refl) (encode_feedless bytes))

pub below-from : (b n : ℕ) → nat_lt b n ≡ true → b < n
below-from b n h = grind arith

pub bytes_from : (bytes : List ℕ) → list_all (λ b. nat_lt b 256) bytes ≡ true → IsBytes bytes
bytes_from [] h i = omega arith
bytes_from (b ∷ bytes) h zero = below-from b 256 (and-left (nat_lt b 256) _ h)
bytes_from (b ∷ bytes) h (suc i) = bytes_from bytes (and-right (nat_lt b 256) _ h) i
