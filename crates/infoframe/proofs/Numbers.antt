-- Fields of payloads, byte by byte.
use Rattle.std.proofs.Common.{◌≡◌, ℕ, suc, zero, ◌+◌, ◌-◌, ◌*◌, ◌/◌, ◌%◌, ◌^◌, ◌<◌, ◌≤◌, List, length, drop, get_or, refl, ap, ◌∙◌, sym, arith, drop-cons}
use Rattle.std.proofs.Math.Pow.{mod-mod-pow}
use Rattle.std.proofs.lemmas.Nat.{field_of}
use Rattle.infoframe.specs.Fields.{number_of, field}

-- the low bits of a number are those of its lowest byte
low_bits : (b r k : ℕ) → k ≤ 8 → (b + 256 * r) % 2 ^ k ≡ b % 2 ^ k
low_bits b r k le =
    let e : 8 - k + k ≡ 8 = omega arith in
    let same : (b + 256 * r) % 2 ^ 8 ≡ b % 2 ^ 8 = omega arith in
    sym (mod-mod-pow (b + 256 * r) (8 - k) k) ∙ ap (λ m. (b + 256 * r) % 2 ^ m % 2 ^ k) e ∙ ap (λ m. m % 2 ^ k) same
    ∙ sym (ap (λ m. b % 2 ^ m % 2 ^ k) e) ∙ mod-mod-pow b (8 - k) k

-- bits of the lowest byte
pub low_byte : (b r first n : ℕ) → n + first ≤ 8 → (b + 256 * r) / 2 ^ first % 2 ^ n ≡ b / 2 ^ first % 2 ^ n
low_byte b r first n le =
    sym (field_of (b + 256 * r) n first) ∙ ap (λ m. m / 2 ^ first) (low_bits b r (n + first) le) ∙ field_of b n first

-- the number of bytes from a place on
number_from : (xs : List ℕ) (k : ℕ) → k < length xs → number_of (drop k xs) ≡ get_or xs k 0 + 256 * number_of (drop (suc k) xs)
unfolding number_of
number_from xs k lt = ap number_of (drop-cons xs k 0 lt)

-- a field within one byte
pub field_in_byte : (xs : List ℕ) (byte first last : ℕ) → byte - 1 < length xs → first ≤ last → last < 8
    → field xs byte first last ≡ get_or xs (byte - 1) 0 / 2 ^ first % 2 ^ (last + 1 - first)
unfolding field
field_in_byte xs byte first last inside order below =
    ap (λ m. m / 2 ^ first % 2 ^ (last + 1 - first)) (number_from xs (byte - 1) inside)
    ∙ low_byte (get_or xs (byte - 1) 0) (number_of (drop (suc (byte - 1)) xs)) first (last + 1 - first) (omega arith)

-- a field of two bytes
pub field_of_two : (xs : List ℕ) (byte : ℕ) → suc (byte - 1) < length xs → get_or xs (byte - 1) 0 < 256 → get_or xs (suc (byte - 1)) 0 < 256
    → field xs byte 0 15 ≡ get_or xs (byte - 1) 0 + 256 * get_or xs (suc (byte - 1)) 0
unfolding field
field_of_two xs byte inside lb lc = grind (arith, number_from)

-- a field that is one byte
pub field_whole : (xs : List ℕ) (byte : ℕ) → byte - 1 < length xs → get_or xs (byte - 1) 0 < 256 → field xs byte 0 7 ≡ get_or xs (byte - 1) 0
field_whole xs byte inside lt = grind (arith, field_in_byte)

-- the mask of so many bits
pub mask_of : (k : ℕ) → k < 8 → 255 / 2 ^ k ≡ 2 ^ (8 - k) - 1
mask_of zero lt = refl
mask_of (suc zero) lt = refl
mask_of (suc (suc zero)) lt = refl
mask_of (suc (suc (suc zero))) lt = refl
mask_of (suc (suc (suc (suc zero)))) lt = refl
mask_of (suc (suc (suc (suc (suc zero))))) lt = refl
mask_of (suc (suc (suc (suc (suc (suc zero)))))) lt = refl
mask_of (suc (suc (suc (suc (suc (suc (suc zero))))))) lt = refl
mask_of (suc (suc (suc (suc (suc (suc (suc (suc k)))))))) lt = absurd (omega arith)
