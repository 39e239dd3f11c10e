-- Bytes as bits and as remainders.
use Rattle.std.proofs.Common.{◌≡◌, ℕ, suc, zero, ◌+◌, ◌*◌, ◌/◌, ◌%◌, ◌^◌, ◌<◌, Bool, List, [], ◌∷◌, ◌++◌, length, bit_xor, ◌==◌, refl, ap, ◌∙◌, sym, arith, slice_index, slice_set, length-append, take, ◌-◌}
use Rattle.std.proofs.lemmas.List.{take_more, take_all}
use Rattle.std.proofs.lemmas.Nat.{xor_comm}
use Rattle.std.proofs.lemmas.Nat.Bits.{bit_at_xor, bit_at-lt}
use Rattle.std.specs.Int.{bit_at}
use Rattle.std.specs.Int.Bits.{xor_self}
use Rattle.bch_block.specs.Bits.{xor, bit, byte_bits, bits_of_bytes, flipped}
use Rattle.bch_block.specs.Block.{IsBlock}
use Rattle.bch_block.specs.Division.{Remainder, nothing, step, remainder_from, remainder, times_power, kept}
use Rattle.bch_block.proofs.Quotient.{is_block, remainder_of_block}
use Rattle.bch_block.proofs.Sums.{plus, nothing-plus, remainder_from-plus, equal_remainders}
use Rattle.bch_block.proofs.Powers.{kept_once}

sum_of_bits : (m n : ℕ) → m < 2 → n < 2 → ((m + n) % 2 == 1) ≡ xor (m == 1) (n == 1)
sum_of_bits m n h k = grind arith

bit-xor : (a b i : ℕ) → bit (bit_xor a b) i ≡ xor (bit a i) (bit b i)
bit-xor a b i = ap (λ n. n == 1) (bit_at_xor a b i) ∙ sum_of_bits (bit_at a i) (bit_at b i) (bit_at-lt a i) (bit_at-lt b i)

pub kept-xor : (a b : ℕ) → kept (bit_xor a b) ≡ plus (kept a) (kept b)
kept-xor a b = λ i. record {
  x7 = bit-xor a b 0 i;
  x6 = bit-xor a b 1 i;
  x5 = bit-xor a b 2 i;
  x4 = bit-xor a b 3 i;
  x3 = bit-xor a b 4 i;
  x2 = bit-xor a b 5 i;
  x1 = bit-xor a b 6 i;
  x0 = bit-xor a b 7 i;
}

-- a byte after what is left
pub remainder_from-byte : (r : Remainder) (b : ℕ) → remainder_from r (byte_bits b) ≡ plus (kept b) (times_power r 8)
remainder_from-byte r b = ap (λ (t : Remainder). remainder_from t (byte_bits b)) (sym (nothing-plus r)) ∙ remainder_from-plus (byte_bits b) nothing r

pub remainder_from-append : (x y : List Bool) (r : Remainder) → remainder_from r (x ++ y) ≡ remainder_from (remainder_from r x) y
remainder_from-append [] y r = refl
remainder_from-append (b ∷ x) y r = remainder_from-append x y (step r b)

pub bits_of_bytes-append : (xs ys : List ℕ) → bits_of_bytes (xs ++ ys) ≡ bits_of_bytes xs ++ bits_of_bytes ys
bits_of_bytes-append [] ys = refl
bits_of_bytes-append (b ∷ xs) ys = ap (λ z. byte_bits b ++ z) (bits_of_bytes-append xs ys)

pub length-bits_of_bytes : (xs : List ℕ) → length (bits_of_bytes xs) ≡ 8 * length xs
length-bits_of_bytes [] = refl
length-bits_of_bytes (b ∷ xs) = omega (arith, length-bits_of_bytes xs)

-- `left` is what some bytes leave, as the byte after them meets it
abbrev pub Leaves : List ℕ → ℕ → Type 0
Leaves bytes left = (p : ℕ) → remainder (bits_of_bytes (bytes ++ p ∷ [])) ≡ kept (bit_xor left p)

pub leaves_none : Leaves [] 0
leaves_none p = refl

pub leaves_more : (bytes : List ℕ) (left b next : ℕ) → Leaves bytes left → kept next ≡ times_power (kept (bit_xor left b)) 8 → Leaves (bytes ++ b ∷ []) next
leaves_more bytes left b next was is p = grind (arith, bits_of_bytes-append, remainder_from-append, remainder_from-byte, plus, kept-xor, xor_comm)

-- what a whole block leaves, by its last byte
pub remainder-bits_of : (block : List ℕ) (left : ℕ) → 0 < length block → Leaves (take (length block - 1) block) left → remainder (bits_of_bytes block) ≡ kept (bit_xor left (slice_index block (length block - 1)))
remainder-bits_of block left some leaves = grind (arith, take_more, take_all)

-- it is the one byte that makes a block
kept-self : (a : ℕ) → kept (bit_xor a a) ≡ nothing
kept-self a = ap kept (xor_self a)

pub makes_block : (bytes : List ℕ) (left : ℕ) → Leaves bytes left → IsBlock (bits_of_bytes (bytes ++ left ∷ []))
makes_block bytes left leaves =
    is_block (bits_of_bytes (bytes ++ left ∷ [])) (omega (arith, length-bits_of_bytes (bytes ++ left ∷ []), length-append bytes (left ∷ []))) (leaves left ∙ kept-self left)

pub makes_block_alone : (bytes : List ℕ) (left p : ℕ) → Leaves bytes left → left < 256 → p < 256 → IsBlock (bits_of_bytes (bytes ++ p ∷ [])) → p ≡ left
makes_block_alone bytes left p leaves ll lp b =
    let sum : plus (kept left) (kept p) ≡ nothing = sym (kept-xor left p) ∙ sym (leaves p) ∙ remainder_of_block (bits_of_bytes (bytes ++ p ∷ [])) b in
    sym (kept_once left p ll lp (equal_remainders (kept left) (kept p) sum))

-- a bit of a byte turned over
byte_bits-xor : (b m : ℕ) → byte_bits (bit_xor b m) ≡ xor (bit b 0) (bit m 0) ∷ xor (bit b 1) (bit m 1) ∷ xor (bit b 2) (bit m 2) ∷ xor (bit b 3) (bit m 3) ∷ xor (bit b 4) (bit m 4) ∷ xor (bit b 5) (bit m 5) ∷ xor (bit b 6) (bit m 6) ∷ xor (bit b 7) (bit m 7) ∷ []
byte_bits-xor b m = λ i. bit-xor b m 0 i ∷ bit-xor b m 1 i ∷ bit-xor b m 2 i ∷ bit-xor b m 3 i ∷ bit-xor b m 4 i ∷ bit-xor b m 5 i ∷ bit-xor b m 6 i ∷ bit-xor b m 7 i ∷ []

flipped-byte : (b j : ℕ) (x : List Bool) → j < 8 → byte_bits (bit_xor b (2 ^ j)) ++ x ≡ flipped (byte_bits b ++ x) j
flipped-byte b zero x lt = ap (λ y. y ++ x) (byte_bits-xor b 1)
flipped-byte b (suc zero) x lt = ap (λ y. y ++ x) (byte_bits-xor b 2)
flipped-byte b (suc (suc zero)) x lt = ap (λ y. y ++ x) (byte_bits-xor b 4)
flipped-byte b (suc (suc (suc zero))) x lt = ap (λ y. y ++ x) (byte_bits-xor b 8)
flipped-byte b (suc (suc (suc (suc zero)))) x lt = ap (λ y. y ++ x) (byte_bits-xor b 16)
flipped-byte b (suc (suc (suc (suc (suc zero))))) x lt = ap (λ y. y ++ x) (byte_bits-xor b 32)
flipped-byte b (suc (suc (suc (suc (suc (suc zero)))))) x lt = ap (λ y. y ++ x) (byte_bits-xor b 64)
flipped-byte b (suc (suc (suc (suc (suc (suc (suc zero))))))) x lt = ap (λ y. y ++ x) (byte_bits-xor b 128)
flipped-byte b (suc (suc (suc (suc (suc (suc (suc (suc j)))))))) x lt = absurd (omega arith)

flipped_from : (xs : List ℕ) (k j : ℕ) → k < length xs → j < 8 → bits_of_bytes (slice_set xs k (bit_xor (slice_index xs k) (2 ^ j))) ≡ flipped (bits_of_bytes xs) (8 * k + j)
flipped_from [] k j lk lj = absurd (omega arith)
flipped_from (b ∷ xs) zero j lk lj = let e : 8 * 0 + j ≡ j = omega arith in flipped-byte b j (bits_of_bytes xs) lj ∙ ap (λ n. flipped (bits_of_bytes (b ∷ xs)) n) (sym e)
flipped_from (b ∷ xs) (suc k) j lk lj = grind (arith, flipped_from xs k j)

-- place p is bit p % 8 of byte p / 8
pub flipped-bits_of : (xs : List ℕ) (p : ℕ) → p < 8 * length xs → bits_of_bytes (slice_set xs (p / 8) (bit_xor (slice_index xs (p / 8)) (2 ^ (p % 8)))) ≡ flipped (bits_of_bytes xs) p
flipped-bits_of xs p lt =
    let e : 8 * (p / 8) + p % 8 ≡ p = omega arith in
    flipped_from xs (p / 8) (p % 8) (omega arith) (omega arith) ∙ ap (λ n. flipped (bits_of_bytes xs) n) e

-- the weight of a bit of a byte, as it is shifted
pub weight_of : (j : ℕ) → j < 8 → 1 * 2 ^ j % 256 ≡ 2 ^ j
weight_of zero lt = refl
weight_of (suc zero) lt = refl
weight_of (suc (suc zero)) lt = refl
weight_of (suc (suc (suc zero))) lt = refl
weight_of (suc (suc (suc (suc zero)))) lt = refl
weight_of (suc (suc (suc (suc (suc zero))))) lt = refl
weight_of (suc (suc (suc (suc (suc (suc zero)))))) lt = refl
weight_of (suc (suc (suc (suc (suc (suc (suc zero))))))) lt = refl
weight_of (suc (suc (suc (suc (suc (suc (suc (suc j)))))))) lt = absurd (omega arith)
