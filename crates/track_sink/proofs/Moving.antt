-- Eight bytes at a time: the 64 bits from a bit of a byte on, bits that move to where a byte begins, and bits that are
-- put after a few others.
use Rattle.std.proofs.Common.{◌≡◌, ℕ, ◌+◌, ◌-◌, ◌*◌, ◌/◌, ◌%◌, ◌^◌, ◌<◌, ◌≤◌, Bool, List, ◌++◌, length, take, drop, take-take, get_or, refl, ap, ap₂, ◌∙◌, sym, subst, arith, append_assoc, append-nil, length-take, bit_and, bit_or}
use Rattle.std.specs.Int.{w64, to_le_bytes}
use Rattle.std.proofs.Math.Nat.{mod-eq_of_lt, mul-div_cancel, mul-mod_left}
use Rattle.std.proofs.Math.Pow.{mod-mod-pow, pow_mono, shr_lt}
use Rattle.std.proofs.Math.Seq.{take-add, drop-append_seam}
use Rattle.std.proofs.lemmas.Nat.{field_of, shr-shr, or_shifted, and_mask, mod-pow-add}
use Rattle.std.proofs.lemmas.List.{drop-drop, drop_more, drop-append-le, drop_at, drop_all, length-take-le, take-append-drop}
use Rattle.std.proofs.lemmas.Slice.{take-put_mid, take-put_mid_below, drop-put_mid, between-put_mid}
use Rattle.std.proofs.Common.{length-drop}
use borrow.Rule.Slice.PartMut.{put_mid}
use Rattle.tmds_word.specs.Bits.{bits_of, bytes_bits, bytes_of, number}
use Rattle.tmds_word.proofs.Bytes.{bytes_of-bits}
use Rattle.tmds_word.proofs.Lists.{length-bits_of, length-bytes_bits, bytes_bits-append, bits_of-add, bits_of-join}
use Rattle.tmds_word.proofs.Numbers.{number-window, bits_of-number, pow_positive}
use Rattle.tmds_word.proofs.Rows.{AreBytes, number_from, number_of_bytes, bits_of-mod, take_low}
use Rattle.lane_align.proofs.Begun.{bytes_take}
use Rattle.lane_align.proofs.Feeding.{bytes_drop}

-- a byte of a list of bits
byte_is : (bytes : List ℕ) (j : ℕ) → AreBytes bytes → j < length bytes → number (bytes_bits bytes) / 2 ^ (8 * j) % 256 ≡ get_or bytes j 0
byte_is bytes j are within = grind (arith, number_from, drop_more, number_of_bytes)

-- the lowest 64 bits after a few others, of 72
shifted_low : (m bit : ℕ) → bit < 8 → m % 2 ^ 72 / 2 ^ bit % 2 ^ 64 ≡ m / 2 ^ bit % 2 ^ 64
shifted_low m bit few =
    let j = 72 - bit in
    let sum : j + bit ≡ 72 = omega arith in
    let more : (8 - bit) + 64 ≡ j = omega arith in
    ap (λ k. m % 2 ^ k / 2 ^ bit % 2 ^ 64) (sym sum) ∙ ap (λ x. x % 2 ^ 64) (field_of m j bit)
    ∙ ap (λ k. m / 2 ^ bit % 2 ^ k % 2 ^ 64) (sym more) ∙ mod-mod-pow (m / 2 ^ bit) (8 - bit) 64

pub word_is : (bytes : List ℕ) (at bit low high : ℕ) → AreBytes bytes → bit < 8 → at + 9 ≤ length bytes
    → low ≡ number (bytes_bits bytes) / 2 ^ (8 * at) % 2 ^ 64 → high ≡ get_or bytes (at + 8) 0
    → bit_and (bit_or (high * 18446744073709551616 % 340282366920938463463374607431768211456) low / 2 ^ bit) 18446744073709551615 ≡ number (bytes_bits bytes) / 2 ^ (8 * at + bit) % 2 ^ 64
word_is bytes at bit low high are few room l h =
    let all = number (bytes_bits bytes) in
    let m = all / 2 ^ (8 * at) in
    let place : 8 * at + 64 ≡ 8 * (at + 8) = omega arith in
    let top : m / 18446744073709551616 % 256 ≡ high =
    ap (λ x. x % 256) (shr-shr all (8 * at) 64 ∙ ap (λ k. all / 2 ^ k) place) ∙ byte_is bytes (at + 8) are (omega arith) ∙ sym h in
    let fits : high < 256 = subst (λ b. b < 256) (sym h) (are (at + 8)) in
    let wide : high * 18446744073709551616 < 340282366920938463463374607431768211456 = omega arith in
    let below : low < 18446744073709551616 = omega (arith, l) in
    let joined : bit_or (high * 18446744073709551616 % 340282366920938463463374607431768211456) low ≡ m % 4722366482869645213696 =
    ap (λ n. bit_or n low) (mod-eq_of_lt wide) ∙ or_shifted high 64 low below ∙ omega (arith, l, top) in
    and_mask (bit_or (high * 18446744073709551616 % 340282366920938463463374607431768211456) low / 2 ^ bit) 64
    ∙ ap (λ n. n / 2 ^ bit % 2 ^ 64) joined ∙ shifted_low m bit few ∙ ap (λ n. n % 2 ^ 64) (shr-shr all (8 * at) bit)

-- the eight bytes of a number
low_first : (n : ℕ) → to_le_bytes w64 n ≡ bytes_of 8 n
unfolding bytes_of
low_first n = grind arith

-- the bits of a number that was read from a place of bits on
pub word_bits : (bits : List Bool) (p w : ℕ) → p + 64 ≤ length bits → w ≡ number bits / 2 ^ p % 2 ^ 64 → bits_of 64 w ≡ take 64 (drop p bits)
word_bits bits p w room is =
    let piece = take 64 (drop p bits) in
    let long : length piece ≡ 64 = length-take-le 64 (drop p bits) (omega (arith, length-drop p bits)) in
    ap (bits_of 64) (is ∙ sym (number-window p 64 bits)) ∙ ap (λ n. bits_of n (number piece)) (sym long) ∙ bits_of-number piece

-- the bits of its bytes
pub le_bits : (w : ℕ) → bytes_bits (to_le_bytes w64 w) ≡ bits_of 64 w
le_bits w = ap bytes_bits (low_first w) ∙ bytes_of-bits 8 w

pub words_begin : (bytes : List ℕ) (bits : List Bool) → bytes_bits (take (8 * 0) bytes) ≡ take (8 * (8 * 0)) bits
unfolding bytes_bits
words_begin bytes bits = grind arith

-- one word more has moved
pub word_moved : (start was now : List ℕ) (at bit i k w : ℕ) → drop (8 * i) was ≡ drop (8 * i) start → length was ≡ length start → bit < 8 → at + 8 * i + 9 ≤ length start
    → w ≡ number (bytes_bits was) / 2 ^ (8 * (at + 8 * i) + bit) % 2 ^ 64 → k ≡ 8 → now ≡ put_mid (8 * i) k was (to_le_bytes w64 w)
    → bytes_bits (take (8 * i) was) ≡ take (8 * (8 * i)) (drop (8 * at + bit) (bytes_bits start))
    → bytes_bits (take (8 * (i + 1)) now) ≡ take (8 * (8 * (i + 1))) (drop (8 * at + bit) (bytes_bits start))
word_moved start was now at bit i k w same size few room is eight put held =
    let j = at + 8 * i in
    let bits = drop (8 * at + bit) (bytes_bits start) in
    let back : 8 * i + at ≡ j = omega arith in
    let rest : drop j was ≡ drop j start =
    ap (λ n. drop n was) (sym back) ∙ sym (drop-drop at (8 * i) was) ∙ ap (drop at) same ∙ drop-drop at (8 * i) start ∙ ap (λ n. drop n start) back in
    let here : drop (8 * j + bit) (bytes_bits was) ≡ drop (8 * (8 * i)) bits =
    sym (drop-drop bit (8 * j) (bytes_bits was)) ∙ ap (drop bit) (bytes_drop j was ∙ ap bytes_bits rest ∙ sym (bytes_drop j start)) ∙ drop-drop bit (8 * j) (bytes_bits start)
    ∙ ap (λ n. drop n (bytes_bits start)) (let p : 8 * j + bit ≡ 8 * at + bit + 8 * (8 * i) = omega arith in p) ∙ sym (drop-drop (8 * (8 * i)) (8 * at + bit) (bytes_bits start)) in
    let word : bytes_bits (to_le_bytes w64 w) ≡ take 64 (drop (8 * (8 * i)) bits) =
    le_bits w ∙ word_bits (bytes_bits was) (8 * j + bit) w (omega (arith, length-bytes_bits was)) is ∙ ap (take 64) here in
    let e : 8 * (i + 1) ≡ 8 * i + 8 = omega arith in
    ap bytes_bits (ap₂ take e put ∙ take-put_mid (8 * i) k was (to_le_bytes w64 w) (8 * i + 8) refl (omega arith))
    ∙ bytes_bits-append (take (8 * i) was) (to_le_bytes w64 w)
    ∙ ap₂ (λ us vs. us ++ vs) held word
    ∙ sym (take-add (8 * (8 * i)) 64 bits) ∙ ap (λ n. take n bits) (let p : 8 * (8 * i) + 64 ≡ 8 * (8 * (i + 1)) = omega arith in p)

pub word_rest : (start was now : List ℕ) (i k w : ℕ) → drop (8 * i) was ≡ drop (8 * i) start → 8 * i ≤ length was → k ≡ 8 → now ≡ put_mid (8 * i) k was (to_le_bytes w64 w)
    → drop (8 * (i + 1)) now ≡ drop (8 * (i + 1)) start
word_rest start was now i k w same within eight put =
    let e : 8 * i + 8 ≡ 8 * (i + 1) = omega arith in
    ap (drop (8 * (i + 1))) put
    ∙ drop-put_mid (8 * i) k was (to_le_bytes w64 w) (8 * (i + 1)) (omega arith) within (sym eight)
    ∙ ap (λ n. drop n was) (sym e) ∙ sym (drop-drop 8 (8 * i) was) ∙ ap (drop 8) same ∙ drop-drop 8 (8 * i) start ∙ ap (λ n. drop n start) e

-- Fewer bits than a word.

mask_is : (x k : ℕ) → k < 64 → bit_and x (1 * 2 ^ k % 18446744073709551616 - 1) ≡ x % 2 ^ k
mask_is x k few =
    let most : 2 ^ k ≤ 2 ^ 63 = pow_mono {i = k} {j = 63} (omega arith) in
    let fits : 1 * 2 ^ k < 18446744073709551616 = omega arith in
    let one : 1 * 2 ^ k ≡ 2 ^ k = omega arith in
    ap (λ m. bit_and x (m - 1)) (mod-eq_of_lt fits ∙ one) ∙ and_mask x k

-- the lowest bits of one number below the highest of another
pub few_word : (x e k : ℕ) → k < 64 → e < 2 ^ 64
    → bits_of 64 (bit_or (e / 2 ^ k * 2 ^ k % 18446744073709551616) (bit_and x (1 * 2 ^ k % 18446744073709551616 - 1))) ≡ bits_of k x ++ drop k (bits_of 64 e)
few_word x e k few below =
    let c = 2 ^ k in
    let some = pow_positive k in
    let low : x % c < c = omega arith in
    let fits : e / c * c < 18446744073709551616 = omega arith in
    let all : k + (64 - k) ≡ 64 = omega arith in
    let turn : e / c * c + x % c ≡ x % c + c * (e / c) = omega arith in
    let high : drop k (bits_of 64 e) ≡ bits_of (64 - k) (e / c) =
    ap (drop k) (ap (λ n. bits_of n e) (sym all) ∙ bits_of-add k (64 - k) e) ∙ ap (λ n. drop n (bits_of k e ++ bits_of (64 - k) (e / c))) (sym (length-bits_of k e))
    ∙ drop-append_seam (bits_of k e) (bits_of (64 - k) (e / c)) in
    ap (bits_of 64) (ap₂ bit_or (mod-eq_of_lt fits) (mask_is x k few) ∙ or_shifted (e / c) k (x % c) low ∙ turn)
    ∙ ap (λ n. bits_of n (x % c + c * (e / c))) (sym all) ∙ sym (bits_of-join k (64 - k) (x % c) (e / c) low)
    ∙ ap₂ (λ us vs. us ++ vs) (bits_of-mod k x) (sym high)

-- eight bytes put at a place
put_from : (was now : List ℕ) (to k w : ℕ) → to + 8 ≤ length was → k ≡ 8 → now ≡ put_mid to k was (to_le_bytes w64 w)
    → drop (8 * to) (bytes_bits now) ≡ bits_of 64 w ++ drop 64 (drop (8 * to) (bytes_bits was))
put_from was now to k w room eight put =
    let ys = to_le_bytes w64 w in
    let all : drop to now ≡ take 8 (drop to now) ++ drop 8 (drop to now) = sym (take-append-drop 8 (drop to now)) in
    let size : to + 8 - to ≡ 8 = omega arith in
    let first : take 8 (drop to now) ≡ ys =
    ap₂ (λ n us. take n (drop to us)) (sym size) put ∙ between-put_mid to k was ys (to + 8) (omega arith) (sym size) in
    let rest : drop 8 (drop to now) ≡ drop 8 (drop to was) =
    drop-drop 8 to now ∙ ap (drop (to + 8)) put ∙ drop-put_mid to k was ys (to + 8) (omega arith) (omega arith) (sym eight) ∙ sym (drop-drop 8 to was) in
    bytes_drop to now ∙ ap bytes_bits all ∙ bytes_bits-append (take 8 (drop to now)) (drop 8 (drop to now))
    ∙ ap₂ (λ us vs. us ++ vs) (ap bytes_bits first ∙ le_bits w) (ap bytes_bits rest ∙ sym (bytes_drop 8 (drop to was)) ∙ ap (drop 64) (sym (bytes_drop to was)))

-- the first of them are moved, all others stay
pub few_put : (was now : List ℕ) (to at bit count k x e w : ℕ) → bit < 8 → count < 64 → to ≤ at → at + 9 ≤ length was → k ≡ 8
    → x ≡ number (bytes_bits was) / 2 ^ (8 * at + bit) % 2 ^ 64 → e ≡ number (bytes_bits was) / 2 ^ (8 * to) % 2 ^ 64
    → w ≡ bit_or (e / 2 ^ count * 2 ^ count % 18446744073709551616) (bit_and x (1 * 2 ^ count % 18446744073709551616 - 1))
    → now ≡ put_mid to k was (to_le_bytes w64 w)
    → drop (8 * to) (bytes_bits now) ≡ take count (drop (8 * at + bit) (bytes_bits was)) ++ drop (8 * to + count) (bytes_bits was)
few_put was now to at bit count k x e w lt few order room eight ex ee ew put =
    let bits = bytes_bits was in
    let own = drop (8 * to) bits in
    let long : length bits ≡ 8 * length was = length-bytes_bits was in
    let here : bits_of 64 e ≡ take 64 own = word_bits bits (8 * to) e (omega (arith, long)) ee in
    let there : bits_of count x ≡ take count (drop (8 * at + bit) bits) =
    sym (take_low count 64 x (omega arith)) ∙ ap (take count) (word_bits bits (8 * at + bit) x (omega (arith, long)) ex) ∙ take-take count 64 (drop (8 * at + bit) bits) (omega arith) in
    let more : count + (64 - count) ≡ 64 = omega arith in
    let all : drop count (bits_of 64 e) ++ drop 64 own ≡ drop count own =
    ap (λ us. drop count us ++ drop 64 own) here ∙ sym (drop-append-le count (take 64 own) (drop 64 own) (omega (arith, length-take 64 own, length-drop (8 * to) bits, long)))
    ∙ ap (drop count) (take-append-drop 64 own) in
    put_from was now to k w (omega arith) eight put ∙ ap (λ us. us ++ drop 64 own) (ap (bits_of 64) ew ∙ few_word x e count few (omega (arith, ee)))
    ∙ append_assoc (bits_of count x) (drop count (bits_of 64 e)) (drop 64 own)
    ∙ ap₂ (λ us vs. us ++ vs) there (all ∙ drop-drop count (8 * to) bits)

pub few_first : (was now : List ℕ) (to k w : ℕ) → to ≤ length was → now ≡ put_mid to k was (to_le_bytes w64 w) → take to now ≡ take to was
few_first was now to k w within put = ap (take to) put ∙ take-put_mid_below to k was (to_le_bytes w64 w) to (omega arith) within

-- words are moved, and then the few bits that are left
pub all_moved : (start first now : List ℕ) (place count at : ℕ) → at ≡ place / 8
    → drop (8 * (count / 64)) first ≡ drop (8 * (count / 64)) start
    → bytes_bits (take (8 * (count / 64)) first) ≡ take (8 * (8 * (count / 64))) (drop (8 * at + place % 8) (bytes_bits start))
    → take (8 * (count / 64)) now ≡ take (8 * (count / 64)) first
    → drop (8 * (8 * (count / 64))) (bytes_bits now) ≡ take (count % 64) (drop (8 * (at + 8 * (count / 64)) + place % 8) (bytes_bits first)) ++ drop (8 * (8 * (count / 64)) + count % 64) (bytes_bits first)
    → bytes_bits now ≡ take count (drop place (bytes_bits start)) ++ drop count (bytes_bits start)
all_moved start first now place count at is same words before few =
    let n = 8 * (count / 64) in
    let c = count % 64 in
    let bits = bytes_bits start in
    let from = drop place bits in
    let p : 8 * at + place % 8 ≡ place = omega arith in
    let all : 8 * n + c ≡ count = omega arith in
    let rest : drop (8 * n) (bytes_bits first) ≡ drop (8 * n) bits = bytes_drop n first ∙ ap bytes_bits same ∙ sym (bytes_drop n start) in
    let there : drop (8 * (at + n) + place % 8) (bytes_bits first) ≡ drop (8 * n) from =
    ap (λ m. drop m (bytes_bits first)) (let e : 8 * (at + n) + place % 8 ≡ 8 * n + place = omega arith in e) ∙ sym (drop-drop place (8 * n) (bytes_bits first))
    ∙ ap (drop place) rest ∙ drop-drop place (8 * n) bits ∙ ap (λ m. drop m bits) (let e : 8 * n + place ≡ place + 8 * n = omega arith in e) ∙ sym (drop-drop (8 * n) place bits) in
    let after : drop (8 * n + c) (bytes_bits first) ≡ drop count bits =
    sym (drop-drop c (8 * n) (bytes_bits first)) ∙ ap (drop c) rest ∙ drop-drop c (8 * n) bits ∙ ap (λ m. drop m bits) all in
    sym (take-append-drop (8 * n) (bytes_bits now))
    ∙ ap₂ (λ us vs. us ++ vs) (bytes_take n now ∙ ap bytes_bits before ∙ words ∙ ap (λ m. take (8 * n) (drop m bits)) p) (few ∙ ap₂ (λ us vs. take c us ++ vs) there after)
    ∙ sym (append_assoc (take (8 * n) from) (take c (drop (8 * n) from)) (drop count bits))
    ∙ ap (λ us. us ++ drop count bits) (sym (take-add (8 * n) c from) ∙ ap (λ m. take m from) all)

-- bits are moved within the bytes from one on
pub settled_bits : (was now part new : List ℕ) (at k skip count : ℕ) → at ≤ length was → k ≡ length was - at → part ≡ drop at was → now ≡ put_mid at k was new
    → bytes_bits new ≡ take count (drop skip (bytes_bits part)) ++ drop count (bytes_bits part)
    → drop (8 * at) (bytes_bits now) ≡ take count (drop (8 * at + skip) (bytes_bits was)) ++ drop (8 * at + count) (bytes_bits was)
settled_bits was now part new at k skip count within all is put moved =
    let here : drop at now ≡ new =
    ap (drop at) put ∙ drop_at (take at was) (new ++ drop k (drop at was)) at (length-take-le at was within)
    ∙ ap (λ us. new ++ us) (drop_all k (drop at was) (omega (arith, length-drop at was, all))) ∙ append-nil new in
    grind (arith, bytes_drop, drop-drop)

-- they may lie there
pub settled_none : (was : List ℕ) (at skip count : ℕ) → skip ≡ 0 → drop (8 * at) (bytes_bits was) ≡ take count (drop (8 * at + skip) (bytes_bits was)) ++ drop (8 * at + count) (bytes_bits was)
settled_none was at skip count none =
    let e : 8 * at ≡ 8 * at + skip = omega arith in
    sym (take-append-drop count (drop (8 * at) (bytes_bits was)))
    ∙ ap₂ (λ us vs. us ++ vs) (ap (λ n. take count (drop n (bytes_bits was))) e) (drop-drop count (8 * at) (bytes_bits was))

-- Bits that are put after a few others.

pub after_less : (few w : ℕ) → 0 < few → few < 8 → w < 2 ^ 64 → w / 2 ^ (64 - few) < 2 ^ few
after_less few w some lt below = let all : few + (64 - few) ≡ 64 = omega arith in shr_lt few (64 - few) (subst (λ n. w < 2 ^ n) (sym all) below)

pub after_byte : (few w : ℕ) → 0 < few → few < 8 → w < 2 ^ 64 → w / 2 ^ (64 - few) < 256
after_byte few w some lt below = let h = after_less few w some lt below in let small : 2 ^ few ≤ 2 ^ 7 = pow_mono {i = few} {j = 7} (omega arith) in omega arith

-- a word after a few bits: as many find no room
pub after_few : (few left w : ℕ) → 0 < few → few < 8 → left < 2 ^ few → w < 2 ^ 64
    → bits_of 64 (bit_or (w * 2 ^ few % 18446744073709551616) left) ++ bits_of few (w / 2 ^ (64 - few)) ≡ bits_of few left ++ bits_of 64 w
after_few few left w some lt low below =
    let h = 64 - few in
    let all : few + h ≡ 64 = omega arith in
    let whole : h + few ≡ 64 = omega arith in
    let positive = pow_positive few in
    let kept : w * 2 ^ few % 18446744073709551616 ≡ w % 2 ^ h * 2 ^ few =
    ap (λ n. w * 2 ^ few % 2 ^ n) (sym whole) ∙ mod-pow-add (w * 2 ^ few) h few
    ∙ ap₂ (λ x y. x % 2 ^ h * 2 ^ few + y) (mul-div_cancel w positive) (mul-mod_left w (2 ^ few)) ∙ omega arith in
    let turn : w % 2 ^ h * 2 ^ few + left ≡ left + 2 ^ few * (w % 2 ^ h) = omega arith in
    let joined : bits_of 64 (bit_or (w * 2 ^ few % 18446744073709551616) left) ≡ bits_of few left ++ bits_of h w =
    ap (bits_of 64) (ap (λ n. bit_or n left) kept ∙ or_shifted (w % 2 ^ h) few left low ∙ turn) ∙ ap (λ n. bits_of n (left + 2 ^ few * (w % 2 ^ h))) (sym all)
    ∙ sym (bits_of-join few h left (w % 2 ^ h) low) ∙ ap (λ us. bits_of few left ++ us) (bits_of-mod h w) in
    ap (λ us. us ++ bits_of few (w / 2 ^ h)) joined
    ∙ append_assoc (bits_of few left) (bits_of h w) (bits_of few (w / 2 ^ h))
    ∙ ap (λ us. bits_of few left ++ us) (sym (bits_of-add h few w) ∙ ap (λ n. bits_of n w) whole)

-- one word more after them
pub word_after : (start : List Bool) (was now more : List ℕ) (few left i k w : ℕ) → 0 < few → few < 8 → left < 2 ^ few → 8 * i + 8 ≤ length was → 8 * i + 8 ≤ length more
    → w ≡ number (bytes_bits more) / 2 ^ (8 * (8 * i)) % 2 ^ 64 → now ≡ put_mid (8 * i) k was (to_le_bytes w64 (bit_or (w * 2 ^ few % 18446744073709551616) left))
    → bytes_bits (take (8 * i) was) ++ bits_of few left ≡ start ++ bytes_bits (take (8 * i) more)
    → bytes_bits (take (8 * (i + 1)) now) ++ bits_of few (w / 2 ^ (64 - few)) ≡ start ++ bytes_bits (take (8 * (i + 1)) more)
word_after start was now more few left i k w some lt low room within is put held =
    let n = bit_or (w * 2 ^ few % 18446744073709551616) left in
    let next = bits_of few (w / 2 ^ (64 - few)) in
    let head = bytes_bits (take (8 * i) was) in
    let e : 8 * (i + 1) ≡ 8 * i + 8 = omega arith in
    let word : bits_of 64 w ≡ take 64 (drop (8 * (8 * i)) (bytes_bits more)) = word_bits (bytes_bits more) (8 * (8 * i)) w (omega (arith, length-bytes_bits more)) is in
    ap (λ us. us ++ next) (ap bytes_bits (ap₂ take e put ∙ take-put_mid (8 * i) k was (to_le_bytes w64 n) (8 * i + 8) refl (omega arith)) ∙ bytes_bits-append (take (8 * i) was) (to_le_bytes w64 n) ∙ ap (λ us. head ++ us) (le_bits n))
    ∙ append_assoc head (bits_of 64 n) next
    ∙ ap (λ us. head ++ us) (after_few few left w some lt low (omega (arith, is)))
    ∙ sym (append_assoc head (bits_of few left) (bits_of 64 w))
    ∙ ap₂ (λ us vs. us ++ vs) held word
    ∙ append_assoc start (bytes_bits (take (8 * i) more)) (take 64 (drop (8 * (8 * i)) (bytes_bits more)))
    ∙ ap (λ us. start ++ us) (ap (λ us. us ++ take 64 (drop (8 * (8 * i)) (bytes_bits more))) (sym (bytes_take (8 * i) more)) ∙ sym (take-add (8 * (8 * i)) 64 (bytes_bits more))
    ∙ ap (λ m. take m (bytes_bits more)) (let p : 8 * (8 * i) + 64 ≡ 8 * (8 * (i + 1)) = omega arith in p) ∙ bytes_take (8 * (i + 1)) more)
