-- Nine half cells of a number, the last of a byte and those of the next: which four bits they carry. Each of the 512, and each four bits, is computed.
use Rattle.std.proofs.Common.{◌≡◌, ℕ, ◌+◌, ◌-◌, ◌*◌, ◌/◌, ◌%◌, ◌^◌, ◌<◌, Bool, true, false, cond, ◌&&◌, ◌==◌, refl, ap, ap₂, ◌∙◌, sym, arith, eq-eqb, bit_and, bit_xor}
use Rattle.std.specs.Int.{bit_at}
use Rattle.std.proofs.lemmas.Nat.{field_of, shr-shr}
use Rattle.std.proofs.lemmas.Nat.Bits.{bit_at_and, bit_at_xor, bit_at-lt}
use Rattle.std.proofs.Math.Pow.{mod-mod-pow}
use Rattle.tmds_word.specs.Bits.{bits_of}
use Rattle.tmds_word.proofs.Below.{passes_below, passes_at}
use Rattle.audio_packets.proofs.Pairs.{same, same_is}
use Rattle.audio_out.specs.Levels.{level_after}
use Rattle.audio_out.specs.Subframes.{carries}
use Rattle.audio_out.proofs.Entries.{digit, level_is}
use Rattle.audio_out.proofs.ReadBack.{IsRead}

-- 1 where half cell i is unlike the next
unfoldable pub turn_in : ℕ → ℕ → ℕ
turn_in m i = (m / 2 ^ i % 2 + m / 2 ^ (i + 1) % 2) % 2

unfoldable pub four_in : ℕ → ℕ
four_in m = turn_in m 1 + 2 * turn_in m 3 + 4 * turn_in m 5 + 8 * turn_in m 7

-- each bit begins with a half cell unlike the one before
unfoldable pub is_bordered : ℕ → Bool
is_bordered m = (turn_in m 0 == 1) && ((turn_in m 2 == 1) && ((turn_in m 4 == 1) && (turn_in m 6 == 1)))

-- the four bits, or 16
unfoldable pub found_in : ℕ → ℕ
found_in m = cond (is_bordered m) (four_in m) 16

unfoldable field_holds : ℕ → ℕ → Bool
field_holds m n = same (carries (m % 2 == 1) (bits_of 4 n) (bits_of 8 (m / 2))) (found_in m == n)

all_fields : passes_below 512 (λ m. passes_below 16 (field_holds m)) ≡ true
unfolding passes_below field_holds found_in is_bordered four_in turn_in carries bits_of same
all_fields = refl

field_carries : (m n : ℕ) → m < 512 → n < 16 → carries (m % 2 == 1) (bits_of 4 n) (bits_of 8 (m / 2)) ≡ (found_in m == n)
unfolding field_holds
field_carries m n a b = same_is _ _ (passes_at 16 (field_holds m) n (passes_at 512 (λ m. passes_below 16 (field_holds m)) m all_fields a) b)

level_back : (level : Bool) → (digit level == 1) ≡ level
level_back level = grind arith

-- the four bits that a byte carries after another
pub field_read : (before cells m : ℕ) → before < 256 → cells < 256 → m ≡ before / 128 + 2 * cells → IsRead before cells (found_in m)
field_read before cells m a b e n lt =
    let half : m / 2 ≡ cells = omega arith in
    let low : m % 2 ≡ before / 2 ^ 7 = omega arith in
    let level : (m % 2 == 1) ≡ level_after before = ap (λ k. k == 1) (low ∙ level_is before a) ∙ level_back (level_after before) in
    ap₂ (λ l c. carries l (bits_of 4 n) (bits_of 8 c)) (sym level) (sym half) ∙ field_carries m n (omega arith) lt

-- where its bits are found, they are bordered
pub found_bordered : (m n : ℕ) → n < 16 → found_in m ≡ n → is_bordered m ≡ true
unfolding found_in
found_bordered m n lt e = elim (is_bordered m) as (λ b. cond b (four_in m) 16 ≡ n → b ≡ true) [ true ↦ λ h. refl | false ↦ λ h. absurd (omega (arith, h)) ] e

pub bordered_found : (m : ℕ) → is_bordered m ≡ true → found_in m ≡ four_in m
unfolding found_in
bordered_found m h = ap (λ b. cond b (four_in m) 16) h

-- a bit of the nine from a place on
bit_within : (n s i : ℕ) → i < 9 → n / 2 ^ s % 512 / 2 ^ i % 2 ≡ bit_at n (s + i)
bit_within n s i lt =
    let m = n / 2 ^ s in
    let j = 8 - i in
    let sum : (j + 1) + i ≡ 9 = omega arith in
    let a : m % 2 ^ ((j + 1) + i) / 2 ^ i ≡ m / 2 ^ i % 2 ^ (j + 1) = field_of m (j + 1) i in
    let b : m / 2 ^ i % 2 ^ (j + 1) % 2 ^ 1 ≡ m / 2 ^ i % 2 ^ 1 = mod-mod-pow (m / 2 ^ i) j 1 in
    ap (λ e. m % 2 ^ e / 2 ^ i % 2) (sym sum) ∙ ap (λ x. x % 2) a ∙ b ∙ ap (λ x. x % 2) (shr-shr n s i)

-- which half cells of a number are unlike the next
unfoldable pub turns_of : ℕ → ℕ
turns_of n = bit_xor n (n / 2 ^ 1)

pub turn_at : (n s m c : ℕ) → m ≡ n / 2 ^ s % 512 → c < 8 → bit_at (turns_of n) (s + c) ≡ turn_in m c
unfolding turns_of turn_in
turn_at n s m c e lt =
    let next : 1 + (s + c) ≡ s + (c + 1) = omega arith in
    let high : bit_at (n / 2 ^ 1) (s + c) ≡ bit_at n (s + (c + 1)) = ap (λ x. x % 2) (shr-shr n 1 (s + c)) ∙ ap (bit_at n) next in
    let of : (i : ℕ) → i < 9 → bit_at n (s + i) ≡ m / 2 ^ i % 2 = λ i few. sym (bit_within n s i few) ∙ ap (λ x. x / 2 ^ i % 2) (sym e) in
    bit_at_xor n (n / 2 ^ 1) (s + c) ∙ ap₂ (λ a b. (a + b) % 2) (of c (omega arith)) (high ∙ of (c + 1) (omega arith))

abbrev pub BORDERS : ℕ
BORDERS = 0x2aaaaaaaaaaaaa80

-- a mask that a number has
pub has_bit : (t mask i : ℕ) → bit_and t mask ≡ mask → bit_at mask i ≡ 1 → bit_at t i ≡ 1
has_bit t mask i e one = grind (arith, bit_at_and, same, bit_at-lt)

pub bordered_is : (m : ℕ) → turn_in m 0 ≡ 1 → turn_in m 2 ≡ 1 → turn_in m 4 ≡ 1 → turn_in m 6 ≡ 1 → is_bordered m ≡ true
unfolding is_bordered
bordered_is m a b c d = grind (arith, eq-eqb)

-- the borders of a field of a number that has all borders
pub field_bordered : (n s m : ℕ) → m ≡ n / 2 ^ s % 512 → bit_and (turns_of n) BORDERS ≡ BORDERS
    → bit_at BORDERS (s + 0) ≡ 1 → bit_at BORDERS (s + 2) ≡ 1 → bit_at BORDERS (s + 4) ≡ 1 → bit_at BORDERS (s + 6) ≡ 1 → is_bordered m ≡ true
field_bordered n s m e all a b c d =
    let at : (i : ℕ) → i < 8 → bit_at BORDERS (s + i) ≡ 1 → turn_in m i ≡ 1 = λ i few one. sym (turn_at n s m i e few) ∙ has_bit (turns_of n) BORDERS (s + i) all one in
    bordered_is m (at 0 (omega arith) a) (at 2 (omega arith) b) (at 4 (omega arith) c) (at 6 (omega arith) d)
