-- The transitions and the balance of a character: each of the 1,024 is computed.
use Rattle.std.proofs.Common.{◌≡◌, ℕ, ◌+◌, ◌*◌, ◌/◌, ◌%◌, ◌<◌, Bool, true, refl, ap, sym, ◌∙◌, arith, ◌==◌, eqb-true, bit_and, bit_xor, count_ones}
use Rattle.std.proofs.lemmas.Nat.{ones_cat}
use Rattle.tmds_word.specs.Bits.{bits_of, word_bits, ones, zeros, turns, unlike}
use Rattle.tmds_word.proofs.Below.{passes_below, passes_at}

-- the ones of a number are those of its two parts: counting takes as many steps as the number is large
ones_parted : (n : ℕ) → count_ones n ≡ count_ones (n / 32) + count_ones (n % 32)
ones_parted n =
    let whole : n / 32 * 32 + n % 32 ≡ n = omega arith in
    ap count_ones (sym whole) ∙ ones_cat 5 (n / 32) (n % 32) (omega arith)

turns_agree : ℕ → Bool
turns_agree v = count_ones (bit_and (bit_xor v (v / 2)) 511) == turns (word_bits v)

parts_turn : passes_below 1024 (λ v. count_ones (bit_and (bit_xor v (v / 2)) 511 / 32) + count_ones (bit_and (bit_xor v (v / 2)) 511 % 32) == turns (word_bits v)) ≡ true
unfolding passes_below turns unlike word_bits bits_of lib.Count.ones
parts_turn = refl

all_turns_agree : passes_below 1024 turns_agree ≡ true
unfolding turns_agree
all_turns_agree = (λ i. passes_below 1024 (λ v. ones_parted (bit_and (bit_xor v (v / 2)) 511) i == turns (word_bits v))) ∙ parts_turn

pub turns_by_mask : (v : ℕ) → v < 1024 → count_ones (bit_and (bit_xor v (v / 2)) 511) ≡ turns (word_bits v)
unfolding turns_agree
turns_by_mask v lt = eqb-true _ _ (passes_at 1024 turns_agree v all_turns_agree lt)

ones_agree : ℕ → Bool
ones_agree v = count_ones v == ones (word_bits v)

parts_agree : passes_below 1024 (λ v. count_ones (v / 32) + count_ones (v % 32) == ones (word_bits v)) ≡ true
unfolding passes_below ones word_bits bits_of lib.Count.ones
parts_agree = refl

all_ones_agree : passes_below 1024 ones_agree ≡ true
unfolding ones_agree
all_ones_agree = (λ i. passes_below 1024 (λ v. ones_parted v i == ones (word_bits v))) ∙ parts_agree

pub ones_of_word : (v : ℕ) → v < 1024 → count_ones v ≡ ones (word_bits v)
unfolding ones_agree
ones_of_word v lt = eqb-true _ _ (passes_at 1024 ones_agree v all_ones_agree lt)

ten_agree : ℕ → Bool
ten_agree v = ones (word_bits v) + zeros (word_bits v) == 10

all_ten : passes_below 1024 ten_agree ≡ true
unfolding passes_below ten_agree ones zeros word_bits bits_of
all_ten = refl

pub ten_bits : (v : ℕ) → v < 1024 → ones (word_bits v) + zeros (word_bits v) ≡ 10
unfolding ten_agree
ten_bits v lt = eqb-true _ _ (passes_at 1024 ten_agree v all_ten lt)
