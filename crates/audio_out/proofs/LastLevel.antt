-- The last half cell of a subframe has level 0 exactly where its 28 bits are even.
use Rattle.std.proofs.Common.{◌≡◌, ℕ, ◌+◌, ◌*◌, ◌/◌, ◌%◌, ◌^◌, ◌<◌, Bool, true, cond, ◌==◌, refl, ap, ap₂, ◌∙◌, sym, arith, eqb-true, count_ones, bit_and}
use Rattle.std.specs.Int.{bit_at}
use Rattle.std.proofs.lemmas.Nat.{ones_cat, and_block, and_mask, and_le_r}
use Rattle.std.proofs.lemmas.Nat.Bits.{bit_at_xor}
use Rattle.tmds_word.proofs.Below.{passes_below, passes_at}
use Rattle.audio_packets.specs.Samples.{side_bits}
use Rattle.tmds_word.specs.Bits.{bits_of}
use Rattle.audio_out.specs.Subframes.{preamble}
use Rattle.audio_out.specs.declared.subframe.Mark.{Mark}
use Rattle.audio_out.proofs.Entries.{digit, level_is}
use Rattle.audio_out.proofs.Joined.{level_marked}
use Rattle.audio_out.proofs.Fields.{BORDERS, four_in, found_in, is_bordered, turn_in, turns_of}
use Rattle.audio_out.proofs.Halves.{AreFour, field}

-- the level after four bits, by that before them and how many of them are 1
unfoldable level_holds : ℕ → Bool
level_holds m = cond (is_bordered m) (m / 256 == (m % 2 + count_ones (found_in m)) % 2) true

all_levels : passes_below 512 level_holds ≡ true
unfolding passes_below level_holds found_in is_bordered four_in turn_in lib.Count.ones
all_levels = refl

level_after : (m : ℕ) → m < 512 → is_bordered m ≡ true → m / 256 ≡ (m % 2 + count_ones (found_in m)) % 2
unfolding level_holds
level_after m lt h =
    eqb-true _ _ (sym (ap (λ b. cond b (m / 256 == (m % 2 + count_ones (found_in m)) % 2) true) h) ∙ passes_at 512 level_holds m all_levels lt)

-- the bits after a value
unfoldable side_holds : ℕ → Bool
side_holds n = count_ones n == count_ones (n % 8) + n / 8

all_sides : passes_below 16 side_holds ≡ true
unfolding passes_below side_holds lib.Count.ones
all_sides = refl

side_ones : (n : ℕ) → n < 16 → count_ones n ≡ count_ones (n % 8) + n / 8
unfolding side_holds
side_ones n lt = eqb-true _ _ (passes_at 16 side_holds n all_sides lt)

sum_of : (x1 x2 x3 x4 a b c d e f : ℕ) → x1 ≡ x2 + b → x2 ≡ x3 + c → x3 ≡ x4 + d → x4 ≡ f + e → x1 + a ≡ a + b + c + d + e + f
sum_of x1 x2 x3 x4 a b c d e f p q r s = omega arith

-- a value's ones, four bits at a time
value_ones : (v n0 n1 n2 n3 n4 n5 : ℕ) → n0 < 16 → n1 < 16 → n2 < 16 → n3 < 16 → n4 < 16 → v ≡ n0 + 16 * n1 + (n2 + 16 * n3) * 256 + (n4 + 16 * n5) * 65536
    → count_ones v ≡ count_ones n0 + count_ones n1 + count_ones n2 + count_ones n3 + count_ones n4 + count_ones n5
value_ones v n0 n1 n2 n3 n4 n5 l0 l1 l2 l3 l4 e =
    let x4 = n5 * 16 + n4 in
    let x3 = x4 * 16 + n3 in
    let x2 = x3 * 16 + n2 in
    let x1 = x2 * 16 + n1 in
    let whole : v ≡ x1 * 16 + n0 = omega arith in
    let c0 : count_ones (x1 * 16 + n0) ≡ count_ones x1 + count_ones n0 = ones_cat 4 x1 n0 l0 in
    let c1 : count_ones x1 ≡ count_ones x2 + count_ones n1 = ones_cat 4 x2 n1 l1 in
    let c2 : count_ones x2 ≡ count_ones x3 + count_ones n2 = ones_cat 4 x3 n2 l2 in
    let c3 : count_ones x3 ≡ count_ones x4 + count_ones n3 = ones_cat 4 x4 n3 l3 in
    let c4 : count_ones x4 ≡ count_ones n5 + count_ones n4 = ones_cat 4 n5 n4 l4 in
    ap count_ones whole ∙ c0 ∙ sum_of (count_ones x1) (count_ones x2) (count_ones x3) (count_ones x4) (count_ones n0) (count_ones n1) (count_ones n2) (count_ones n3) (count_ones n4) (count_ones n5) c1 c2 c3 c4

goes_on : (level sum ones next : ℕ) → level ≡ sum % 2 → next ≡ (level + ones) % 2 → next ≡ (sum + ones) % 2
goes_on level sum ones next a b = omega arith

between_0 : (n : ℕ) → field n 7 / 256 ≡ field n 15 % 2
between_0 n = omega arith

between_1 : (n : ℕ) → field n 15 / 256 ≡ field n 23 % 2
between_1 n = omega arith

between_2 : (n : ℕ) → field n 23 / 256 ≡ field n 31 % 2
between_2 n = omega arith

between_3 : (n : ℕ) → field n 31 / 256 ≡ field n 39 % 2
between_3 n = omega arith

between_4 : (n : ℕ) → field n 39 / 256 ≡ field n 47 % 2
between_4 n = omega arith

between_5 : (n : ℕ) → field n 47 / 256 ≡ field n 55 % 2
between_5 n = omega arith

at_end : (n : ℕ) → n < 2 ^ 64 → field n 55 / 256 ≡ n / 2 ^ 63
at_end n lt = omega arith

field_below : (n s : ℕ) → field n s < 512
field_below n s = omega arith

-- the last level, where the first is 0
last_is : (n value side : ℕ) → n < 2 ^ 64 → AreFour n value side → field n 7 % 2 ≡ 0 → n / 2 ^ 63 ≡ (count_ones value + count_ones side) % 2
last_is n value side lt h first =
    let c0 = count_ones (found_in (field n 7)) in
    let c1 = count_ones (found_in (field n 15)) in
    let c2 = count_ones (found_in (field n 23)) in
    let c3 = count_ones (found_in (field n 31)) in
    let c4 = count_ones (found_in (field n 39)) in
    let c5 = count_ones (found_in (field n 47)) in
    let c6 = count_ones (found_in (field n 55)) in
    let s0 : field n 7 % 2 ≡ 0 % 2 = first in
    let s1 : field n 15 % 2 ≡ (0 + c0) % 2 = goes_on (field n 7 % 2) (0) c0 (field n 15 % 2) s0 (sym (between_0 n) ∙ level_after (field n 7) (field_below n 7) h.b0) in
    let s2 : field n 23 % 2 ≡ (0 + c0 + c1) % 2 = goes_on (field n 15 % 2) (0 + c0) c1 (field n 23 % 2) s1 (sym (between_1 n) ∙ level_after (field n 15) (field_below n 15) h.b1) in
    let s3 : field n 31 % 2 ≡ (0 + c0 + c1 + c2) % 2 = goes_on (field n 23 % 2) (0 + c0 + c1) c2 (field n 31 % 2) s2 (sym (between_2 n) ∙ level_after (field n 23) (field_below n 23) h.b2) in
    let s4 : field n 39 % 2 ≡ (0 + c0 + c1 + c2 + c3) % 2 = goes_on (field n 31 % 2) (0 + c0 + c1 + c2) c3 (field n 39 % 2) s3 (sym (between_3 n) ∙ level_after (field n 31) (field_below n 31) h.b3) in
    let s5 : field n 47 % 2 ≡ (0 + c0 + c1 + c2 + c3 + c4) % 2 = goes_on (field n 39 % 2) (0 + c0 + c1 + c2 + c3) c4 (field n 47 % 2) s4 (sym (between_4 n) ∙ level_after (field n 39) (field_below n 39) h.b4) in
    let s6 : field n 55 % 2 ≡ (0 + c0 + c1 + c2 + c3 + c4 + c5) % 2 = goes_on (field n 47 % 2) (0 + c0 + c1 + c2 + c3 + c4) c5 (field n 55 % 2) s5 (sym (between_5 n) ∙ level_after (field n 47) (field_below n 47) h.b5) in
    let s7 : n / 2 ^ 63 ≡ (0 + c0 + c1 + c2 + c3 + c4 + c5 + c6) % 2 = goes_on (field n 55 % 2) (0 + c0 + c1 + c2 + c3 + c4 + c5) c6 (n / 2 ^ 63) s6 (sym (at_end n lt) ∙ level_after (field n 55) (field_below n 55) h.b6) in
    let all = value_ones value _ _ _ _ _ _ h.l0 h.l1 h.l2 h.l3 h.l4 h.value_is in
    let end = ap count_ones h.side_is in
    let none : 0 + c0 + c1 + c2 + c3 + c4 + c5 + c6 ≡ c0 + c1 + c2 + c3 + c4 + c5 + c6 = omega arith in
    s7 ∙ ap (λ k. k % 2) (none ∙ sym (ap₂ (λ a b. a + b) all end))

pub even_is : (n value side : ℕ) → n < 2 ^ 64 → AreFour n value side → field n 7 % 2 ≡ 0 → n / 2 ^ 63 ≡ 0 → side ≡ side_bits value (side % 8)
even_is n value side lt h first last =
    let small : side < 16 = omega (arith, h.side_is, h.l6) in
    omega (arith, last_is n value side lt h first, last, side_ones side small, small)

pub is_even : (n value side : ℕ) → n < 2 ^ 64 → AreFour n value side → field n 7 % 2 ≡ 0 → side ≡ side_bits value (side % 8) → n / 2 ^ 63 ≡ 0
is_even n value side lt h first even =
    let small : side < 16 = omega (arith, h.side_is, h.l6) in
    omega (arith, last_is n value side lt h first, even, side_ones side small, small)

-- borders, and the last half cell after which there is none
abbrev pub ENDS : ℕ
ENDS = 0xaaaaaaaaaaaaaa80

ends_are : (n : ℕ) → n < 2 ^ 64 → bit_and (turns_of n) ENDS ≡ n / 2 ^ 63 * 2 ^ 63 + bit_and (turns_of n) BORDERS
unfolding turns_of
ends_are n lt =
    let t = turns_of n in
    let high = t / 2 ^ 63 in
    let low = t % 2 ^ 63 in
    let whole : t ≡ high * 2 ^ 63 + low = omega arith in
    let all = ap (λ k. bit_and k (1 * 2 ^ 63 + BORDERS)) whole ∙ and_block 63 high 1 low BORDERS (omega arith) (omega arith) in
    let below = ap (λ k. bit_and k (0 * 2 ^ 63 + BORDERS)) whole ∙ and_block 63 high 0 low BORDERS (omega arith) (omega arith) in
    let one : bit_and high 1 ≡ high % 2 ^ 1 = and_mask high 1 in
    let none : bit_and high 0 ≡ high % 2 ^ 0 = and_mask high 0 in
    let last : high % 2 ≡ (bit_at n 63 + bit_at (n / 2 ^ 1) 63) % 2 = bit_at_xor n (n / 2 ^ 1) 63 in
    let here : bit_at n 63 ≡ n / 2 ^ 63 = omega arith in
    let after : bit_at (n / 2 ^ 1) 63 ≡ 0 = omega arith in
    omega (arith, all, below, one, none, last, here, after)

pub ends_apart : (n : ℕ) → n < 2 ^ 64 → bit_and (turns_of n) ENDS ≡ BORDERS → (bit_and (turns_of n) BORDERS ≡ BORDERS) × (n / 2 ^ 63 ≡ 0)
ends_apart n lt is = grind (arith, ends_are, and_le_r, turns_of, BORDERS)

pub ends_both : (n : ℕ) → n < 2 ^ 64 → bit_and (turns_of n) BORDERS ≡ BORDERS → n / 2 ^ 63 ≡ 0 → bit_and (turns_of n) ENDS ≡ BORDERS
ends_both n lt all last = omega (arith, ends_are n lt, all, last)

-- a preamble ends with level 0
pub first_level : (n p : ℕ) (mark : Mark) → p < 256 → field n 7 % 2 ≡ p / 128 → bits_of 8 p ≡ preamble mark → field n 7 % 2 ≡ 0
first_level n p mark lt e h = e ∙ level_is p lt ∙ ap digit (level_marked p mark h)
