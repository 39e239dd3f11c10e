-- A packed row: the bits of whole bytes, and then a tail of fewer than eight bits.
use Rattle.std.proofs.Common.{◌≡◌, ℕ, suc, zero, ◌+◌, ◌-◌, ◌*◌, ◌/◌, ◌%◌, ◌^◌, ◌<◌, ◌≤◌, Bool, List, [], ◌∷◌, ◌++◌, length, take, drop, get_or, refl, ap, ap₂, ◌∙◌, sym, arith, ◌==◌, append_assoc, append-nil, length-append, length-drop, drop-cons, bit_and}
use Rattle.std.proofs.Math.Nat.{mod-eq_of_lt, mul-le-mul_left}
use Rattle.std.proofs.Math.Pow.{pow_mono}
use Rattle.std.proofs.Math.Seq.{get_or-append_right, take-append-add}
use Rattle.std.proofs.Math.ListN.{get_or-append}
use Rattle.std.proofs.lemmas.Nat.{shr-shr, pow-add, and_mask}
use Rattle.std.proofs.lemmas.Bool.{cases_lt}
use Rattle.std.proofs.lemmas.List.{take_more, drop_all, get_or_past, take-append-le, drop-append-le}
use Rattle.tmds_word.specs.Bits.{bits_of, bytes_bits, number}
use Rattle.tmds_word.proofs.Numbers.{number-append, number-bits_of, number-window, zero_over}
use Rattle.tmds_word.proofs.Lists.{length-bits_of, length-bytes_bits, bytes_bits-append, bytes_bits-one, bits_of-join, bits_of-byte, bits_of-low}

pub length-row : (bytes : List ℕ) (h t : ℕ) → length (bytes_bits bytes ++ bits_of h t) ≡ 8 * length bytes + h
length-row bytes h t = omega (arith, length-append (bytes_bits bytes) (bits_of h t), length-bytes_bits bytes, length-bits_of h t)

-- Appending bits.

-- a tail with more bits above it
pub joined_below : (h k t w : ℕ) → t < 2 ^ h → w < 2 ^ k → t + 2 ^ h * w < 2 ^ (h + k)
joined_below h k t w low high = grind (arith, pow-add, mul-le-mul_left)

pub put_none : (bytes : List ℕ) (h t k w n : ℕ) → t < 2 ^ h → n ≡ t + 2 ^ h * w → bytes_bits bytes ++ bits_of (h + k) n ≡ (bytes_bits bytes ++ bits_of h t) ++ bits_of k w
put_none bytes h t k w n lt e = rw (e, append_assoc, bits_of-join h k t w lt)

-- one whole byte, and r bits after it
pub byte_more : (bytes : List ℕ) (r n : ℕ) → bytes_bits (bytes ++ n % 256 ∷ []) ++ bits_of r (n / 256) ≡ bytes_bits bytes ++ bits_of (8 + r) n
byte_more bytes r n = rw (bytes_bits-append, bytes_bits-one, append_assoc, bits_of-byte r n)

pub put_one : (bytes : List ℕ) (h t k w n r : ℕ) → t < 2 ^ h → n ≡ t + 2 ^ h * w → h + k ≡ 8 + r
    → bytes_bits (bytes ++ n % 256 ∷ []) ++ bits_of r (n / 256) ≡ (bytes_bits bytes ++ bits_of h t) ++ bits_of k w
put_one bytes h t k w n r lt e many = byte_more bytes r n ∙ ap (λ j. bytes_bits bytes ++ bits_of j n) (sym many) ∙ put_none bytes h t k w n lt e

pub put_two : (bytes : List ℕ) (h t k w n r : ℕ) → t < 2 ^ h → n ≡ t + 2 ^ h * w → h + k ≡ 16 + r
    → bytes_bits (bytes ++ n % 256 ∷ n / 256 % 256 ∷ []) ++ bits_of r (n / 65536) ≡ (bytes_bits bytes ++ bits_of h t) ++ bits_of k w
put_two bytes h t k w n r lt e many =
    let one = bytes ++ n % 256 ∷ [] in
    let both : one ++ n / 256 % 256 ∷ [] ≡ bytes ++ n % 256 ∷ n / 256 % 256 ∷ [] = append_assoc bytes (n % 256 ∷ []) (n / 256 % 256 ∷ []) in
    let high : n / 256 / 256 ≡ n / 65536 = omega arith in
    grind (arith, byte_more, put_one)

-- a tail of r bits, past one byte and past two
pub tail_past : (n h k r : ℕ) → n < 2 ^ (h + k) → h + k ≡ 8 + r → n / 256 < 2 ^ r
tail_past n h k r lt many = grind (arith, pow-add)

pub tail_past_two : (n h k r : ℕ) → n < 2 ^ (h + k) → h + k ≡ 16 + r → n / 65536 < 2 ^ r
tail_past_two n h k r lt many = grind (arith, pow-add)

-- a number of fewer than eight bits is a byte
pub fits_byte : (t h : ℕ) → t < 2 ^ h → h < 8 → t < 256
fits_byte t h lt few = let most : 2 ^ h ≤ 2 ^ 8 = pow_mono {i = h} {j = 8} (omega arith) in omega arith

-- Reading bits.

-- every number of the list is a byte
abbrev pub AreBytes : List ℕ → Type 0
AreBytes bytes = (i : ℕ) → get_or bytes i 0 < 256

rest_bytes : (b : ℕ) (bytes : List ℕ) → AreBytes (b ∷ bytes) → AreBytes bytes
rest_bytes b bytes h i = h (suc i)

pub number_of_bytes : (b : ℕ) (bytes : List ℕ) → b < 256 → number (bytes_bits (b ∷ bytes)) ≡ b + 256 * number (bytes_bits bytes)
unfolding bytes_bits
number_of_bytes b bytes lt =
    let own : number (bits_of 8 b) ≡ b = number-bits_of 8 b ∙ mod-eq_of_lt lt in
    omega (arith, number-append (bits_of 8 b) (bytes_bits bytes), own, length-bits_of 8 b, ap (λ k. 2 ^ k * number (bytes_bits bytes)) (length-bits_of 8 b))

-- the bytes from a place on
pub number_from : (j : ℕ) (bytes : List ℕ) → AreBytes bytes → number (bytes_bits bytes) / 2 ^ (8 * j) ≡ number (bytes_bits (drop j bytes))
unfolding bytes_bits number
number_from zero bytes h = omega arith
number_from (suc j) [] h = grind (arith, zero_over)
number_from (suc j) (b ∷ bytes) h =
    let n = number (bytes_bits bytes) in
    let first : b < 256 = h 0 in
    let half : (b + 256 * n) / 2 ^ 8 ≡ n = omega arith in
    let more : 8 * suc j ≡ 8 + 8 * j = omega arith in
    rw (number_of_bytes b bytes first, more, ← shr-shr (b + 256 * n) 8 (8 * j), half) (number_from j bytes (rest_bytes b bytes h))

byte_here : (bytes : List ℕ) (j : ℕ) → AreBytes bytes → number (bytes_bits (drop j bytes)) % 256 ≡ get_or bytes j 0
unfolding bytes_bits number
byte_here bytes j h = grind (arith, cases_lt, drop-cons, number_of_bytes, drop_all, get_or_past)

-- a row's number is that of its bytes, its tail taken as one of them
number_of_row : (bytes : List ℕ) (h t : ℕ) → t < 2 ^ h → h < 8 → number (bytes_bits bytes ++ bits_of h t) ≡ number (bytes_bits (bytes ++ t ∷ []))
number_of_row bytes h t lt few =
    let low : t < 256 = fits_byte t h lt few in
    grind (arith, number-bits_of, mod-eq_of_lt, bytes_bits-append, bytes_bits-one, number-append)

with_tail : (bytes : List ℕ) (t : ℕ) → AreBytes bytes → t < 256 → AreBytes (bytes ++ t ∷ [])
with_tail [] t h lt zero = lt
with_tail [] t h lt (suc i) = omega arith
with_tail (b ∷ bytes) t h lt zero = h 0
with_tail (b ∷ bytes) t h lt (suc i) = with_tail bytes t (rest_bytes b bytes h) lt i

-- eight bits of a row as a number
pub byte_of_row : (bytes : List ℕ) (h t j : ℕ) → AreBytes bytes → t < 2 ^ h → h < 8 → (number (bytes_bits bytes ++ bits_of h t) / 2 ^ (8 * j)) % 256 ≡ get_or (bytes ++ t ∷ []) j 0
byte_of_row bytes h t j are lt few =
    let all : AreBytes (bytes ++ t ∷ []) = with_tail bytes t are (fits_byte t h lt few) in
    ap (λ n. (n / 2 ^ (8 * j)) % 256) (number_of_row bytes h t lt few)
    ∙ ap (λ n. n % 256) (number_from j (bytes ++ t ∷ []) all)
    ∙ byte_here (bytes ++ t ∷ []) j all

pub byte_within : (bytes : List ℕ) (t j : ℕ) → j < length bytes → get_or (bytes ++ t ∷ []) j 0 ≡ get_or bytes j 0
byte_within bytes t j lt = get_or-append bytes (t ∷ []) 0 j lt

pub byte_tail : (bytes : List ℕ) (t j : ℕ) → j ≡ length bytes → get_or (bytes ++ t ∷ []) j 0 ≡ t
byte_tail bytes t j e = grind (arith, get_or-append_right)

pub byte_past : (bytes : List ℕ) (t j : ℕ) → length bytes < j → get_or (bytes ++ t ∷ []) j 0 ≡ 0
byte_past bytes t j lt = get_or_past (bytes ++ t ∷ []) j 0 (omega (arith, length-append bytes (t ∷ [])))

low_bit : (r n : ℕ) → r < 8 → (n % 256 / 2 ^ r) % 2 ≡ (n / 2 ^ r) % 2
low_bit zero n h = omega arith
low_bit (suc zero) n h = omega arith
low_bit (suc (suc zero)) n h = omega arith
low_bit (suc (suc (suc zero))) n h = omega arith
low_bit (suc (suc (suc (suc zero)))) n h = omega arith
low_bit (suc (suc (suc (suc (suc zero))))) n h = omega arith
low_bit (suc (suc (suc (suc (suc (suc zero)))))) n h = omega arith
low_bit (suc (suc (suc (suc (suc (suc (suc zero))))))) n h = omega arith
low_bit (suc (suc (suc (suc (suc (suc (suc (suc r)))))))) n h = absurd (omega arith)

-- bit i of a number, from its byte i / 8
pub bit_in_byte : (n i : ℕ) → ((n / 2 ^ (8 * (i / 8))) % 256 / 2 ^ (i % 8)) % 2 ≡ (n / 2 ^ i) % 2
bit_in_byte n i = grind (arith, low_bit, shr-shr)

low_word : (r n : ℕ) → r < 8 → ((n % 16777216) / 2 ^ r) % 1024 ≡ (n / 2 ^ r) % 1024
low_word zero n h = omega arith
low_word (suc zero) n h = omega arith
low_word (suc (suc zero)) n h = omega arith
low_word (suc (suc (suc zero))) n h = omega arith
low_word (suc (suc (suc (suc zero)))) n h = omega arith
low_word (suc (suc (suc (suc (suc zero))))) n h = omega arith
low_word (suc (suc (suc (suc (suc (suc zero)))))) n h = omega arith
low_word (suc (suc (suc (suc (suc (suc (suc zero))))))) n h = omega arith
low_word (suc (suc (suc (suc (suc (suc (suc (suc r)))))))) n h = absurd (omega arith)

-- the ten bits from p on, from a number that has three bytes from p / 8 on
word_in_number : (xs : List Bool) (p n : ℕ) → n % 16777216 ≡ (number xs / 2 ^ (8 * (p / 8))) % 16777216 → (n / 2 ^ (p % 8)) % 1024 ≡ number (take 10 (drop p xs))
word_in_number xs p n same =
    let at = 8 * (p / 8) in
    let few : p % 8 < 8 = omega arith in
    let whole : at + p % 8 ≡ p = omega arith in
    sym (low_word (p % 8) n few)
    ∙ ap (λ k. k / 2 ^ (p % 8) % 1024) same
    ∙ low_word (p % 8) (number xs / 2 ^ at) few
    ∙ ap (λ k. k % 1024) (shr-shr (number xs) at (p % 8) ∙ ap (λ k. number xs / 2 ^ k) whole)
    ∙ sym (number-window p 10 xs)

-- from the three bytes
pub word_in_bytes : (xs : List Bool) (p a b c n : ℕ) → n ≡ a + b * 256 + c * 65536
    → a ≡ (number xs / 2 ^ (8 * (p / 8))) % 256 → b ≡ (number xs / 2 ^ (8 * (p / 8 + 1))) % 256 → c ≡ (number xs / 2 ^ (8 * (p / 8 + 2))) % 256
    → (n / 2 ^ (p % 8)) % 1024 ≡ number (take 10 (drop p xs))
word_in_bytes xs p a b c n sum first second third =
    let at = 8 * (p / 8) in
    let m = number xs / 2 ^ at in
    let next : 8 * (p / 8 + 1) ≡ at + 8 = omega arith in
    let last : 8 * (p / 8 + 2) ≡ at + 16 = omega arith in
    let one : b ≡ m / 256 % 256 = second ∙ ap (λ k. number xs / 2 ^ k % 256) next ∙ ap (λ k. k % 256) (sym (shr-shr (number xs) at 8)) in
    let two : c ≡ m / 65536 % 256 = third ∙ ap (λ k. number xs / 2 ^ k % 256) last ∙ ap (λ k. k % 256) (sym (shr-shr (number xs) at 16)) in
    word_in_number xs p n (omega (arith, sum, first, one, two))

-- the four bytes from a place on as a number
pub four_bytes_are : (bytes : List ℕ) (j n : ℕ) → AreBytes bytes → j + 4 ≤ length bytes
    → n ≡ get_or bytes j 0 + get_or bytes (j + 1) 0 * 256 + get_or bytes (j + 2) 0 * 65536 + get_or bytes (j + 3) 0 * 16777216
    → n ≡ (number (bytes_bits bytes) / 2 ^ (8 * j)) % 4294967296
four_bytes_are bytes j n are room sum =
    let first = step j (j + 1) (omega arith) (omega arith) in
    let second = step (j + 1) (j + 2) (omega arith) (omega arith) in
    let third = step (j + 2) (j + 3) (omega arith) (omega arith) in
    let fourth = step (j + 3) (j + 4) (omega arith) (omega arith) in
    omega (arith, sum, number_from j bytes are, are j, are (j + 1), are (j + 2), are (j + 3), first, second, third, fourth)
  where
    step : (i k : ℕ) → suc i ≡ k → i < length bytes → number (bytes_bits (drop i bytes)) ≡ get_or bytes i 0 + 256 * number (bytes_bits (drop k bytes))
    step i k next lt = grind (arith, drop-cons, number_of_bytes)

-- the ten bits from p on, where the four bytes from p / 8 on are whole
pub word_in_whole : (xs more : List Bool) (bytes : List ℕ) (p n : ℕ) → bytes_bits bytes ++ more ≡ xs → p / 8 + 4 ≤ length bytes
    → n ≡ (number (bytes_bits bytes) / 2 ^ (8 * (p / 8))) % 4294967296 → (n / 2 ^ (p % 8)) % 1024 ≡ number (take 10 (drop p xs))
word_in_whole xs more bytes p n view room is =
    let own = bytes_bits bytes in
    let inside : p + 10 ≤ length own = omega (arith, room, length-bytes_bits bytes) in
    let left : 10 ≤ length (drop p own) = omega (arith, inside, length-drop p own) in
    word_in_number own p n (omega (arith, is))
    ∙ ap number (sym (take-append-le 10 (drop p own) more left))
    ∙ ap (λ ys. number (take 10 ys)) (sym (drop-append-le p own more (omega arith)))
    ∙ ap (λ ys. number (take 10 (drop p ys))) view

-- Cutting.

take_bits : (k j n : ℕ) → take k (bits_of (k + j) n) ≡ bits_of k n
unfolding bits_of
take_bits zero j n = refl
take_bits (suc k) j n =
    let e : suc k + j ≡ suc (k + j) = omega arith in
    ap (λ m. take (suc k) (bits_of m n)) e ∙ ap (λ xs. (n % 2 == 1) ∷ xs) (take_bits k j (n / 2))

-- the lowest bits of a number, from its remainder
pub bits_of-mod : (k n : ℕ) → bits_of k (n % 2 ^ k) ≡ bits_of k n
bits_of-mod k n =
    let c = 2 ^ k in
    let e : n % c + c * (n / c) ≡ n = omega arith in
    sym (ap (λ m. bits_of k m) (sym e) ∙ bits_of-low k (n % c) (n / c))

pub take_low : (k h n : ℕ) → k ≤ h → take k (bits_of h n) ≡ bits_of k n
take_low k h n le =
    let e : k + (h - k) ≡ h = omega arith in
    ap (λ m. take k (bits_of m n)) (sym e) ∙ take_bits k (h - k) n

no_bytes : bytes_bits [] ≡ []
unfolding bytes_bits
no_bytes = refl

more_bytes : (b : ℕ) (bytes : List ℕ) → bytes_bits (b ∷ bytes) ≡ bits_of 8 b ++ bytes_bits bytes
unfolding bytes_bits
more_bytes b bytes = refl

-- the first bits of a row: whole bytes, and some bits of the byte after them
pub take_row : (bytes : List ℕ) (h t j k : ℕ) → h < 8 → k < 8 → 8 * j + k ≤ 8 * length bytes + h
    → take (8 * j + k) (bytes_bits bytes ++ bits_of h t) ≡ bytes_bits (take j bytes) ++ bits_of k (get_or (bytes ++ t ∷ []) j 0)
take_row [] h t zero k few less room = grind (arith, no_bytes, take_low)
take_row [] h t (suc j) k few less room = absurd (omega arith)
take_row (b ∷ bytes) h t zero k few less room = grind (arith, length-bits_of, more_bytes, append_assoc, take-append-le, take_low, no_bytes)
take_row (b ∷ bytes) h t (suc j) k few less room =
    let rest = bytes_bits bytes ++ bits_of h t in
    let e : 8 * suc j + k ≡ length (bits_of 8 b) + (8 * j + k) = omega (arith, length-bits_of 8 b) in
    ap₂ (λ m xs. take m xs) e (ap (λ xs. xs ++ bits_of h t) (more_bytes b bytes) ∙ append_assoc (bits_of 8 b) (bytes_bits bytes) (bits_of h t))
    ∙ take-append-add (bits_of 8 b) rest (8 * j + k)
    ∙ ap (λ xs. bits_of 8 b ++ xs) (take_row bytes h t j k few less (omega arith))
    ∙ sym (append_assoc (bits_of 8 b) (bytes_bits (take j bytes)) (bits_of k (get_or (bytes ++ t ∷ []) j 0)))
    ∙ ap (λ xs. xs ++ bits_of k (get_or (bytes ++ t ∷ []) j 0)) (sym (more_bytes b (take j bytes)))

-- Appending whole bytes.

pub no_bits : (t : ℕ) → bits_of 0 t ≡ []
unfolding bits_of
no_bits t = refl

-- where no bit stands past the whole bytes
pub row_aligned : (bytes more : List ℕ) (h t : ℕ) → h ≡ 0 → bytes_bits (bytes ++ more) ++ bits_of h t ≡ (bytes_bits bytes ++ bits_of h t) ++ bytes_bits more
row_aligned bytes more h t e = grind (arith, no_bits, append-nil, bytes_bits-append)

pub no_more : (xs : List Bool) (bytes : List ℕ) → xs ≡ xs ++ bytes_bits (take 0 bytes)
no_more xs bytes = sym (ap (λ ys. xs ++ ys) no_bytes ∙ append-nil xs)

-- one byte more
pub byte_after : (start xs : List Bool) (bytes : List ℕ) (i b : ℕ) → xs ≡ start ++ bytes_bits (take i bytes) → i < length bytes → b ≡ get_or bytes i 0
    → xs ++ bits_of 8 b ≡ start ++ bytes_bits (take (i + 1) bytes)
byte_after start xs bytes i b was lt e =
    let one : take (i + 1) bytes ≡ take i bytes ++ get_or bytes i 0 ∷ [] = take_more bytes i 0 lt in
    ap (λ ys. ys ++ bits_of 8 b) was
    ∙ append_assoc start (bytes_bits (take i bytes)) (bits_of 8 b)
    ∙ ap (λ ys. start ++ ys) (ap (λ c. bytes_bits (take i bytes) ++ bits_of 8 c) e ∙ ap (λ ys. bytes_bits (take i bytes) ++ ys) (sym (bytes_bits-one (get_or bytes i 0))) ∙ sym (bytes_bits-append (take i bytes) (get_or bytes i 0 ∷ [])) ∙ ap bytes_bits (sym one))

-- the first bits of bytes: whole ones, and some bits of the byte after them
pub take_bytes : (bytes : List ℕ) (j k : ℕ) → k < 8 → 8 * j + k ≤ 8 * length bytes → take (8 * j + k) (bytes_bits bytes) ≡ bytes_bits (take j bytes) ++ bits_of k (get_or bytes j 0)
take_bytes bytes j k few room =
    ap (take (8 * j + k)) (sym (ap (λ xs. bytes_bits bytes ++ xs) (no_bits 0) ∙ append-nil (bytes_bits bytes)))
    ∙ take_row bytes 0 0 j k (omega arith) few (omega arith)
    ∙ ap (λ b. bytes_bits (take j bytes) ++ bits_of k b) (tail_of_none bytes j)
  where
    tail_of_none : (bytes : List ℕ) (j : ℕ) → get_or (bytes ++ 0 ∷ []) j 0 ≡ get_or bytes j 0
    tail_of_none [] zero = refl
    tail_of_none [] (suc j) = refl
    tail_of_none (b ∷ bytes) zero = refl
    tail_of_none (b ∷ bytes) (suc j) = tail_of_none bytes j

-- a mask of k bits
pub mask_is : (b k : ℕ) → k < 8 → bit_and b (1 * 2 ^ k % 256 - 1) ≡ b % 2 ^ k
mask_is b k few =
    let most : 2 ^ k ≤ 2 ^ 7 = pow_mono {i = k} {j = 7} (omega arith) in
    let one : 1 * 2 ^ k ≡ 2 ^ k = omega arith in
    let fits : 2 ^ k < 256 = omega arith in
    ap (λ m. bit_and b (m - 1)) (ap (λ m. m % 256) one ∙ mod-eq_of_lt fits) ∙ and_mask b k

-- the first bits of bytes, where they end at a byte's edge
pub take_whole : (bytes : List ℕ) (bits : ℕ) → bits % 8 ≡ 0 → length bytes ≡ (bits + 7) / 8 → take bits (bytes_bits bytes) ≡ bytes_bits (take (bits / 8) bytes)
take_whole bytes bits e len = grind (arith, take_bytes, no_bits, append-nil)

-- and where they end within a byte
pub take_part : (bytes : List ℕ) (bits last : ℕ) → length bytes ≡ (bits + 7) / 8 → last ≡ bit_and (get_or bytes (bits / 8) 0) (1 * 2 ^ (bits % 8) % 256 - 1)
    → take bits (bytes_bits bytes) ≡ bytes_bits (take (bits / 8) bytes) ++ bits_of (bits % 8) last
take_part bytes bits last len e = grind (arith, take_bytes, bits_of-mod, mask_is)
