-- The bytes of hexadecimal digits, from the digits' values.
use Rattle.std.proofs.Common.{◌≡◌, ℕ, suc, zero, ◌+◌, ◌-◌, ◌*◌, ◌/◌, ◌%◌, ◌<◌, ◌≤◌, Bool, true, false, List, [], ◌∷◌, ◌++◌, ◌&&◌, ◌==◌, length, take, drop, get_or, set, refl, ap, ap₂, ◌∙◌, sym, subst, arith, eqb-true, bit_and, min, not, nat_lt, length-append, length-take-le, length-drop}
use Rattle.std.specs.Prelude.{Option, Some, None, Result, Ok, Err, IsErr, if◌then◌else◌}
use Rattle.std.specs.List.{list_all}
use Rattle.tmds_word.proofs.Below.{and-left, and-right, passes_below, passes_at}
use Rattle.hex.specs.Hex.{hex_digit_value, is_hex_digit, decode_pairs, decode_of, pair_value, ◌>>=◌}
use Rattle.listing_reader.specs.HexValues.{value_or, value_of, AreBytesOf}
use Rattle.hex.specs.declared.error.FromHexError.{FromHexError}
use Rattle.hex.proofs.HexLemmas.{decode_of-even, decode_of-ok}
use Rattle.std.proofs.lemmas.Bool.{cases_lt}
use Rattle.std.proofs.lemmas.List.{get_or-set_other, get_or-take, get_or-drop, get_or_append_left, get_or-append_right, take-append-drop}
use Rattle.std.proofs.lemmas.List.Folds.{list_all-append}
use Rattle.std.proofs.lemmas.Grind.{get_or-set_at}
use Rattle.std.proofs.lemmas.List.Sums.{list_all-from_AllPass}

pub value_is : (c v : ℕ) → hex_digit_value c ≡ Some v → v ≡ value_of c
unfolding value_of
value_is c v h = sym (ap value_or h)

pair_is : (a b i : ℕ) → is_hex_digit a ≡ true → is_hex_digit b ≡ true → pair_value a b i ≡ Ok (value_of a * 16 + value_of b)
unfolding value_of
pair_is a b i ha hb = grind arith

pairs_ok : (i : ℕ) (s bytes : List ℕ) → length s ≡ 2 * length bytes → list_all is_hex_digit s ≡ true
    → ((k : ℕ) → k < length bytes → get_or bytes k 0 ≡ 16 * value_of (get_or s (2 * k) 0) + value_of (get_or s (2 * k + 1) 0)) → decode_pairs i s ≡ Ok bytes
unfolding decode_pairs
pairs_ok i [] [] len all h = refl
pairs_ok i [] (b ∷ bytes) len all h = absurd (omega arith)
pairs_ok i (a ∷ []) bytes len all h = absurd (omega arith)
pairs_ok i (a ∷ (c ∷ rest)) [] len all h = absurd (omega arith)
pairs_ok i (a ∷ (c ∷ rest)) (b ∷ bytes) len all h =
    let ha : is_hex_digit a ≡ true = and-left (is_hex_digit a) (is_hex_digit c && list_all is_hex_digit rest) all in
    let more : (is_hex_digit c && list_all is_hex_digit rest) ≡ true = and-right (is_hex_digit a) (is_hex_digit c && list_all is_hex_digit rest) all in
    let hc : is_hex_digit c ≡ true = and-left (is_hex_digit c) (list_all is_hex_digit rest) more in
    let own : value_of a * 16 + value_of c ≡ b = omega (arith, h 0 (omega arith)) in
    let next : (k : ℕ) → k < length bytes → get_or bytes k 0 ≡ 16 * value_of (get_or rest (2 * k) 0) + value_of (get_or rest (2 * k + 1) 0) =
    λ k lt.
    let e : 2 * suc k ≡ suc (suc (2 * k)) = omega arith in
    let f : 2 * suc k + 1 ≡ suc (suc (2 * k + 1)) = omega arith in
    h (suc k) (omega arith) ∙ ap₂ (λ m n. 16 * value_of (get_or (a ∷ c ∷ rest) m 0) + value_of (get_or (a ∷ c ∷ rest) n 0)) e f in
    ap (λ (r : Result ℕ FromHexError). r >>= (λ byte. decode_pairs (i + 2) rest >>= (λ bs. Ok (byte ∷ bs)))) (pair_is a c i ha hc)
    ∙ ap (λ (r : Result (List ℕ) FromHexError). r >>= (λ bs. Ok ((value_of a * 16 + value_of c) ∷ bs))) (pairs_ok (i + 2) rest bytes (omega arith) (and-right (is_hex_digit c) (list_all is_hex_digit rest) more) next)
    ∙ ap (λ x. Ok (x ∷ bytes)) own

pub bytes_ok : (s bytes : List ℕ) → length s ≡ 2 * length bytes → list_all is_hex_digit s ≡ true
    → ((k : ℕ) → k < length bytes → get_or bytes k 0 ≡ 16 * value_of (get_or s (2 * k) 0) + value_of (get_or s (2 * k + 1) 0)) → decode_of s ≡ Ok bytes
bytes_ok s bytes len all h = decode_of-even s (omega (arith, len)) ∙ pairs_ok 0 s bytes len all h

-- a list that has the right number at each place below i + 1, with the one at i written
pub set_more : (into : List ℕ) (i b : ℕ) (f : ℕ → ℕ) → ((k : ℕ) → k < i → get_or into k 0 ≡ f k) → i < length into → b ≡ f i
    → (k : ℕ) → k < i + 1 → get_or (set into i b) k 0 ≡ f k
set_more into i b f was room e k lt = grind (arith, cases_lt, get_or-set_other, get_or-set_at)

-- what does not pass is not read
pub not_read : (s : List ℕ) → list_all is_hex_digit s ≡ false → IsErr (decode_of s)
not_read s h = by_cases s h (decode_of s) refl
  where
    by_cases : (t : List ℕ) → list_all is_hex_digit t ≡ false → (r : Result (List ℕ) FromHexError) → decode_of t ≡ r → IsErr r
    by_cases t bad (Ok bytes) e = cc (sym bad ∙ list_all-from_AllPass is_hex_digit t (decode_of-ok t bytes e).1)
    by_cases t bad (Err x) e = refl

-- Digits apart from other bytes, without a branch.

-- how far a byte is from the digits, or, if that is less, from the letters, four further
distance : ℕ → ℕ
distance byte = min ((byte + 208) % 256) (min ((bit_and byte 223 + 191) % 256 + 4) 255)

is_near : ℕ → Bool
is_near byte = if is_hex_digit byte then nat_lt (distance byte) 10 else not (nat_lt (distance byte) 10)

all_near : passes_below 256 is_near ≡ true
unfolding passes_below is_near distance
all_near = refl

same_answer : (a b : Bool) → (if b then a else not a) ≡ true → a ≡ b
same_answer a b h = grind arith

pub near_digits : (byte letter result : ℕ) → byte < 256 → letter ≡ min ((bit_and byte 223 + 191) % 256 + 4) 255 → result ≡ min ((byte + 208) % 256) letter
    → nat_lt result 10 ≡ is_hex_digit byte
unfolding is_near distance
near_digits byte letter result lt l r =
    ap (λ n. nat_lt n 10) (r ∙ ap (min ((byte + 208) % 256)) l)
    ∙ same_answer (nat_lt (distance byte) 10) (is_hex_digit byte) (passes_at 256 is_near byte all_near lt)

-- Two digits at once.

-- a digit's value from its number: computed at each byte that is one
digit_agrees : ℕ → Bool
digit_agrees c = if is_hex_digit c then value_of c == (c + 9 * (c / 64)) % 16 else true

digits_agree : passes_below 128 digit_agrees ≡ true
unfolding passes_below digit_agrees value_of
digits_agree = refl

digit_below : (c : ℕ) → is_hex_digit c ≡ true → c < 128
digit_below c h = grind arith

digit_value : (c : ℕ) → is_hex_digit c ≡ true → value_of c ≡ (c + 9 * (c / 64)) % 16
unfolding digit_agrees
digit_value c h =
    let t : digit_agrees c ≡ true = passes_at 128 digit_agrees c digits_agree (digit_below c h) in
    eqb-true _ _ (subst (λ (b : Bool). (if b then value_of c == (c + 9 * (c / 64)) % 16 else true) ≡ true) h t)

-- the bits 0 and 8
ends_agree : ℕ → Bool
ends_agree n = bit_and n 257 == n % 2 + 256 * (n / 256 % 2)

all_ends : passes_below 512 ends_agree ≡ true
unfolding passes_below ends_agree
all_ends = refl

two_ends : (n : ℕ) → n < 512 → bit_and n 257 ≡ n % 2 + 256 * (n / 256 % 2)
unfolding ends_agree
two_ends n lt = eqb-true _ _ (passes_at 512 ends_agree n all_ends lt)

pub letters : (n : ℕ) → is_hex_digit (n % 256) ≡ true → is_hex_digit (n / 256) ≡ true → bit_and (n / 64) 257 ≡ n % 256 / 64 + 256 * (n / 256 / 64)
letters n high low =
    let a : n % 256 < 128 = digit_below (n % 256) high in
    let b : n / 256 < 128 = digit_below (n / 256) low in
    let at : bit_and (n / 64) 257 ≡ n / 64 % 2 + 256 * (n / 64 / 256 % 2) = two_ends (n / 64) (omega arith) in
    omega (arith, at, a, b)

pub two_values : (n m : ℕ) → is_hex_digit (n % 256) ≡ true → is_hex_digit (n / 256) ≡ true → m ≡ n % 256 / 64 + 256 * (n / 256 / 64)
    → (n + 9 * m) % 16 * 16 + (n + 9 * m) / 256 % 16 ≡ 16 * value_of (n % 256) + value_of (n / 256)
two_values n m high low is =
    let a : n % 256 < 128 = digit_below (n % 256) high in
    let b : n / 256 < 128 = digit_below (n / 256) low in
    let u = digit_value (n % 256) high in
    let v = digit_value (n / 256) low in
    omega (arith, is, a, b, u, v)

pub pair_below : (n m : ℕ) → is_hex_digit (n % 256) ≡ true → is_hex_digit (n / 256) ≡ true → m ≡ n % 256 / 64 + 256 * (n / 256 / 64) → n + 9 * m < 65536
pair_below n m high low is =
    let a : n % 256 < 128 = digit_below (n % 256) high in
    let b : n / 256 < 128 = digit_below (n / 256) low in
    omega (arith, is, a, b)

-- a digit among digits
digit_at : (s : List ℕ) (j : ℕ) → list_all is_hex_digit s ≡ true → j < length s → is_hex_digit (get_or s j 0) ≡ true
digit_at [] j all lt = absurd (omega arith)
digit_at (c ∷ s) zero all lt = and-left (is_hex_digit c) (list_all is_hex_digit s) all
digit_at (c ∷ s) (suc j) all lt = digit_at s j (and-right (is_hex_digit c) (list_all is_hex_digit s) all) (omega arith)

-- two digits of a text, as one number
two_at : (s : List ℕ) (j n : ℕ) → list_all is_hex_digit s ≡ true → j + 1 < length s → n ≡ get_or s j 0 + 256 * get_or s (j + 1) 0 → (get_or s j 0 ≡ n % 256) × (get_or s (j + 1) 0 ≡ n / 256)
two_at s j n all lt is = let a : get_or s j 0 < 128 = digit_below (get_or s j 0) (digit_at s j all (omega arith)) in (omega (arith, a, is), omega (arith, a, is))

pub high_digit : (s : List ℕ) (j n : ℕ) → list_all is_hex_digit s ≡ true → j + 1 < length s → n ≡ get_or s j 0 + 256 * get_or s (j + 1) 0 → is_hex_digit (n % 256) ≡ true
high_digit s j n all lt is = ap is_hex_digit (sym (two_at s j n all lt is).0) ∙ digit_at s j all (omega arith)

pub low_digit : (s : List ℕ) (j n : ℕ) → list_all is_hex_digit s ≡ true → j + 1 < length s → n ≡ get_or s j 0 + 256 * get_or s (j + 1) 0 → is_hex_digit (n / 256) ≡ true
low_digit s j n all lt is = ap is_hex_digit (sym (two_at s j n all lt is).1) ∙ digit_at s (j + 1) all lt

pub pair_value_of : (s : List ℕ) (j n : ℕ) → list_all is_hex_digit s ≡ true → j + 1 < length s → n ≡ get_or s j 0 + 256 * get_or s (j + 1) 0
    → 16 * value_of (n % 256) + value_of (n / 256) ≡ 16 * value_of (get_or s j 0) + value_of (get_or s (j + 1) 0)
pair_value_of s j n all lt is = let two = two_at s j n all lt is in ap₂ (λ a b. 16 * value_of a + value_of b) (sym two.0) (sym two.1)

-- Block after block.

-- a part of digits are digits
pub all_part : (s : List ℕ) (from n : ℕ) → list_all is_hex_digit s ≡ true → list_all is_hex_digit (take n (drop from s)) ≡ true
all_part s from n all =
    let rest = drop from s in
    let past : list_all is_hex_digit rest ≡ true =
    and-right (list_all is_hex_digit (take from s)) (list_all is_hex_digit rest) (sym (list_all-append is_hex_digit (take from s) rest) ∙ ap (list_all is_hex_digit) (take-append-drop from s) ∙ all) in
    and-left (list_all is_hex_digit (take n rest)) (list_all is_hex_digit (drop n rest)) (sym (list_all-append is_hex_digit (take n rest) (drop n rest)) ∙ ap (list_all is_hex_digit) (take-append-drop n rest) ∙ past)

-- the bytes of a part, after those before it
pub values_joined : (s bytes part : List ℕ) (from n : ℕ) → length bytes ≡ from → n ≡ 2 * length part → AreBytesOf s bytes → AreBytesOf (take n (drop (2 * from) s)) part → AreBytesOf s (bytes ++ part)
values_joined s bytes part from n size twice was next k lt = grind (arith, cases_lt, length-append, get_or_append_left, get_or-append_right, get_or-take, get_or-drop)
