-- The 64 half cells of a subframe as a number: its fields of nine are what its bytes carry, and every other one that is unlike the next is a bit.
use Rattle.std.proofs.Common.{◌≡◌, ℕ, zero, suc, ◌+◌, ◌-◌, ◌*◌, ◌/◌, ◌%◌, ◌^◌, ◌<◌, ◌≤◌, Bool, true, cond, ◌&&◌, ◌==◌, List, [], ◌∷◌, get_or, slice_index, refl, ap, ◌∙◌, sym, arith, eqb-true, bit_and, inl, inr}
use Rattle.std.specs.Prelude.{nat_le}
use Rattle.std.specs.Int.{bit_at}
use Rattle.std.proofs.lemmas.Bool.{cases_lt, leb-true}
use Rattle.std.proofs.lemmas.Nat.{and_le_r, shr-shr}
use Rattle.std.proofs.lemmas.Nat.Bits.{bit_at_and, bit_at-lt, same_from_bits_below}
use Rattle.tmds_word.proofs.Below.{passes_below, passes_at, and-left, and-right}
use Rattle.audio_out.specs.Levels.{eight_from}
use Rattle.audio_out.specs.declared.subframe.Subframe.{Subframe}
use Rattle.audio_out.proofs.ReadBack.{AreRead, AreBits, side_below}
use Rattle.audio_out.proofs.Fields.{BORDERS, turns_of, turn_at, turn_in, four_in, found_in, is_bordered, field_read, field_bordered, found_bordered, bordered_found}

abbrev pub field : ℕ → ℕ → ℕ
field n s = n / 2 ^ s % 512

abbrev pub IsJoined : (n p a b c d e f g : ℕ) → Type 0
IsJoined n p a b c d e f g =
    n ≡ p + a * 256 + b * 65536 + c * 16777216 + d * 4294967296 + e * 1099511627776 + f * 281474976710656 + g * 72057594037927936

pub record AreBytes (p a b c d e f g : ℕ) : Type 0 where
  pub of_p : p < 256
  pub of_a : a < 256
  pub of_b : b < 256
  pub of_c : c < 256
  pub of_d : d < 256
  pub of_e : e < 256
  pub of_f : f < 256
  pub of_g : g < 256

field_1 : (n p a b c d e f g : ℕ) → AreBytes p a b c d e f g → IsJoined n p a b c d e f g → field n 7 ≡ p / 128 + 2 * a
field_1 n p a b c d e f g l is = omega (arith, is, l.of_p, l.of_a, l.of_b, l.of_c, l.of_d, l.of_e, l.of_f, l.of_g)

field_3 : (n p a b c d e f g : ℕ) → AreBytes p a b c d e f g → IsJoined n p a b c d e f g → field n 23 ≡ b / 128 + 2 * c
field_3 n p a b c d e f g l is = omega (arith, is, l.of_p, l.of_a, l.of_b, l.of_c, l.of_d, l.of_e, l.of_f, l.of_g)

field_4 : (n p a b c d e f g : ℕ) → AreBytes p a b c d e f g → IsJoined n p a b c d e f g → field n 31 ≡ c / 128 + 2 * d
field_4 n p a b c d e f g l is = omega (arith, is, l.of_p, l.of_a, l.of_b, l.of_c, l.of_d, l.of_e, l.of_f, l.of_g)

field_5 : (n p a b c d e f g : ℕ) → AreBytes p a b c d e f g → IsJoined n p a b c d e f g → field n 39 ≡ d / 128 + 2 * e
field_5 n p a b c d e f g l is = omega (arith, is, l.of_p, l.of_a, l.of_b, l.of_c, l.of_d, l.of_e, l.of_f, l.of_g)

field_6 : (n p a b c d e f g : ℕ) → AreBytes p a b c d e f g → IsJoined n p a b c d e f g → field n 47 ≡ e / 128 + 2 * f
field_6 n p a b c d e f g l is = omega (arith, is, l.of_p, l.of_a, l.of_b, l.of_c, l.of_d, l.of_e, l.of_f, l.of_g)

field_7 : (n p a b c d e f g : ℕ) → AreBytes p a b c d e f g → IsJoined n p a b c d e f g → field n 55 ≡ f / 128 + 2 * g
field_7 n p a b c d e f g l is = omega (arith, is, l.of_p, l.of_a, l.of_b, l.of_c, l.of_d, l.of_e, l.of_f, l.of_g)

pub before_first : (n p a b c d e f g : ℕ) → AreBytes p a b c d e f g → IsJoined n p a b c d e f g → field n 7 % 2 ≡ p / 128
before_first n p a b c d e f g l is = omega (arith, field_1 n p a b c d e f g l is, l.of_p)

pub joined_below : (n p a b c d e f g : ℕ) → AreBytes p a b c d e f g → IsJoined n p a b c d e f g → n < 2 ^ 64
joined_below n p a b c d e f g l is = omega (arith, is, l.of_p, l.of_a, l.of_b, l.of_c, l.of_d, l.of_e, l.of_f, l.of_g)

-- what the bytes carry
pub halves_read : (n p a b c d e f g : ℕ) → AreBytes p a b c d e f g → IsJoined n p a b c d e f g
    → AreRead p a b c d e f g (found_in (field n 7)) (found_in (field n 15)) (found_in (field n 23)) (found_in (field n 31)) (found_in (field n 39)) (found_in (field n 47)) (found_in (field n 55))
halves_read n p a b c d e f g l is = grind (arith, field_read, field_1, field_3, field_4, field_5, field_6, field_7)

-- the borders of a field
bordered_turn : (m c : ℕ) → is_bordered m ≡ true → c < 8 → c % 2 ≡ 0 → turn_in m c ≡ 1
unfolding is_bordered
bordered_turn m c h k l = grind (arith, eqb-true, and-left, turn_in, and-right)

-- where a border is
unfoldable border_test : ℕ → Bool
border_test i = cond (bit_at BORDERS i == 1) ((i % 2 == 1) && (nat_le 7 i && nat_le i 62)) (bit_at BORDERS i == 0)

all_borders : passes_below 64 border_test ≡ true
unfolding passes_below border_test
all_borders = refl

record IsBorder (i : ℕ) : Type 0 where
  odd : i % 2 ≡ 1
  low : 7 ≤ i
  high : i ≤ 62

border_at : (i : ℕ) → i < 64 → bit_at BORDERS i ≡ 1 → IsBorder i
unfolding border_test
border_at i lt one =
    let h = ap (λ n. cond (n == 1) ((i % 2 == 1) && (nat_le 7 i && nat_le i 62)) (n == 0)) (sym one) ∙ passes_at 64 border_test i all_borders lt in
    let r = and-right _ _ h in
    record { odd = eqb-true _ _ (and-left _ _ h); low = leb-true 7 i (and-left _ _ r); high = leb-true i 62 (and-right _ _ r) }

-- a number whose fields have their borders has all
pub has_borders : (n : ℕ) → ((k : ℕ) → k < 7 → is_bordered (field n (8 * k + 7)) ≡ true) → bit_and (turns_of n) BORDERS ≡ BORDERS
has_borders n fields =
    let t = turns_of n in
    same_from_bits_below 64 (bit_and t BORDERS) BORDERS (omega (arith, and_le_r t BORDERS)) (omega arith) (λ i lt.
    let both = bit_at_and t BORDERS i in
    let below = bit_at-lt BORDERS i in
    elim (cases_lt 0 (bit_at BORDERS i)) [
      | inl some ↦
          let one : bit_at BORDERS i ≡ 1 = omega (arith, some, below) in
          let is = border_at i lt one in
          let k = (i - 7) / 8 in
          let c = (i - 7) % 8 in
          let place : i ≡ (8 * k + 7) + c = omega (arith, is.low) in
          let turn : bit_at t i ≡ 1 =
          ap (bit_at t) place ∙ turn_at n (8 * k + 7) (field n (8 * k + 7)) c refl (omega arith)
          ∙ bordered_turn (field n (8 * k + 7)) c (fields k (omega (arith, is.low, is.high))) (omega arith) (omega (arith, is.odd, is.low)) in
          omega (arith, both, one, turn)
      | inr none ↦ omega (arith, both, none)
    ])

-- every other half cell

lower_four : (n q : ℕ) → bit_at (turns_of n / 2 ^ 8) (16 * q) + 2 * bit_at (turns_of n / 2 ^ 8) (16 * q + 2) + 4 * bit_at (turns_of n / 2 ^ 8) (16 * q + 4) + 8 * bit_at (turns_of n / 2 ^ 8) (16 * q + 6)
    ≡ four_in (field n (16 * q + 7))
unfolding four_in
lower_four n q =
    let t = turns_of n in
    let s = 16 * q + 7 in
    let at : (i c : ℕ) → 8 + i ≡ s + c → c < 8 → bit_at (t / 2 ^ 8) i ≡ turn_in (field n s) c = λ i c e lt. ap (λ k. k % 2) (shr-shr t 8 i) ∙ ap (bit_at t) e ∙ turn_at n s (field n s) c refl lt in
    rw (at (16 * q) 1 (omega arith) (omega arith)) (rw (at (16 * q + 2) 3 (omega arith) (omega arith)) (rw (at (16 * q + 4) 5 (omega arith) (omega arith)) (rw (at (16 * q + 6) 7 (omega arith) (omega arith)) (refl))))

upper_four : (n q : ℕ) → bit_at (turns_of n / 2 ^ 8) (16 * q + 8) + 2 * bit_at (turns_of n / 2 ^ 8) (16 * q + 10) + 4 * bit_at (turns_of n / 2 ^ 8) (16 * q + 12) + 8 * bit_at (turns_of n / 2 ^ 8) (16 * q + 14)
    ≡ four_in (field n (16 * q + 15))
unfolding four_in
upper_four n q =
    let t = turns_of n in
    let s = 16 * q + 15 in
    let at : (i c : ℕ) → 8 + i ≡ s + c → c < 8 → bit_at (t / 2 ^ 8) i ≡ turn_in (field n s) c = λ i c e lt. ap (λ k. k % 2) (shr-shr t 8 i) ∙ ap (bit_at t) e ∙ turn_at n s (field n s) c refl lt in
    rw (at (16 * q + 8) 1 (omega arith) (omega arith)) (rw (at (16 * q + 10) 3 (omega arith) (omega arith)) (rw (at (16 * q + 12) 5 (omega arith) (omega arith)) (rw (at (16 * q + 14) 7 (omega arith) (omega arith)) (refl))))

two_fours : (n q : ℕ) → eight_from (turns_of n / 2 ^ 8) (16 * q) ≡ four_in (field n (16 * q + 7)) + 16 * four_in (field n (16 * q + 15))
unfolding eight_from
two_fours n q = omega (arith, lower_four n q, upper_four n q)

-- after the last half cell there is none
none_after : (m : ℕ) → m < 2 → four_in m ≡ 0
unfolding four_in turn_in
none_after m h = grind arith

four_below : (m : ℕ) → four_in m < 16
unfolding four_in turn_in
four_below m = omega arith

pub record AreFour (n value side : ℕ) : Type 0 where
  pub l0 : found_in (field n 7) < 16
  pub l1 : found_in (field n 15) < 16
  pub l2 : found_in (field n 23) < 16
  pub l3 : found_in (field n 31) < 16
  pub l4 : found_in (field n 39) < 16
  pub l5 : found_in (field n 47) < 16
  pub l6 : found_in (field n 55) < 16
  pub b0 : is_bordered (field n 7) ≡ true
  pub b1 : is_bordered (field n 15) ≡ true
  pub b2 : is_bordered (field n 23) ≡ true
  pub b3 : is_bordered (field n 31) ≡ true
  pub b4 : is_bordered (field n 39) ≡ true
  pub b5 : is_bordered (field n 47) ≡ true
  pub b6 : is_bordered (field n 55) ≡ true
  pub value_is :
      value
      ≡ found_in (field n 7) + 16 * found_in (field n 15) + (found_in (field n 23) + 16 * found_in (field n 31)) * 256 + (found_in (field n 39) + 16 * found_in (field n 47)) * 65536
  pub side_is : side ≡ found_in (field n 55)

-- a number with all borders has a value, and the bits after it
pub four_are : (n value side low middle high : ℕ) → n < 2 ^ 64 → bit_and (turns_of n) BORDERS ≡ BORDERS
    → low ≡ eight_from (turns_of n / 2 ^ 8) (16 * 0) → middle ≡ eight_from (turns_of n / 2 ^ 8) (16 * 1) → high ≡ eight_from (turns_of n / 2 ^ 8) (16 * 2) → side ≡ eight_from (turns_of n / 2 ^ 8) (16 * 3)
    → value ≡ low + middle * 256 + high * 65536 → AreFour n value side
four_are n value side low middle high lt all is0 is1 is2 is3 is =
    let g0 = field_bordered n 7 (field n 7) refl all refl refl refl refl in
    let f0 = bordered_found (field n 7) g0 in
    let g1 = field_bordered n 15 (field n 15) refl all refl refl refl refl in
    let f1 = bordered_found (field n 15) g1 in
    let g2 = field_bordered n 23 (field n 23) refl all refl refl refl refl in
    let f2 = bordered_found (field n 23) g2 in
    let g3 = field_bordered n 31 (field n 31) refl all refl refl refl refl in
    let f3 = bordered_found (field n 31) g3 in
    let g4 = field_bordered n 39 (field n 39) refl all refl refl refl refl in
    let f4 = bordered_found (field n 39) g4 in
    let g5 = field_bordered n 47 (field n 47) refl all refl refl refl refl in
    let f5 = bordered_found (field n 47) g5 in
    let g6 = field_bordered n 55 (field n 55) refl all refl refl refl refl in
    let f6 = bordered_found (field n 55) g6 in
    let b0 = four_below (field n 7) in
    let b1 = four_below (field n 15) in
    let b2 = four_below (field n 23) in
    let b3 = four_below (field n 31) in
    let b4 = four_below (field n 39) in
    let b5 = four_below (field n 47) in
    let b6 = four_below (field n 55) in
    let t0 = is0 ∙ two_fours n 0 in
    let t1 = is1 ∙ two_fours n 1 in
    let t2 = is2 ∙ two_fours n 2 in
    let t3 = is3 ∙ two_fours n 3 in
    let none = none_after (field n 63) (omega (arith, lt)) in
    record {
      l0 = omega (arith, f0, b0);
      l1 = omega (arith, f1, b1);
      l2 = omega (arith, f2, b2);
      l3 = omega (arith, f3, b3);
      l4 = omega (arith, f4, b4);
      l5 = omega (arith, f5, b5);
      l6 = omega (arith, f6, b6);
      b0 = g0;
      b1 = g1;
      b2 = g2;
      b3 = g3;
      b4 = g4;
      b5 = g5;
      b6 = g6;
      value_is = omega (arith, is, t0, t1, t2, f0, f1, f2, f3, f4, f5);
      side_is = omega (arith, t3, none, f6);
    }

-- a subframe's number has all borders
pub bits_bordered : (sub : Subframe) (n : ℕ) → sub.flags < 8
    → AreBits sub (found_in (field n 7)) (found_in (field n 15)) (found_in (field n 23)) (found_in (field n 31)) (found_in (field n 39)) (found_in (field n 47)) (found_in (field n 55))
    → bit_and (turns_of n) BORDERS ≡ BORDERS
bits_bordered sub n few b = has_borders n fields
  where
    fields : (k : ℕ) → k < 7 → is_bordered (field n (8 * k + 7)) ≡ true
    fields zero lt = found_bordered (field n 7) _ (omega arith) b.b0
    fields (suc zero) lt = found_bordered (field n 15) _ (omega arith) b.b1
    fields (suc (suc zero)) lt = found_bordered (field n 23) _ (omega arith) b.b2
    fields (suc (suc (suc zero))) lt = found_bordered (field n 31) _ (omega arith) b.b3
    fields (suc (suc (suc (suc zero)))) lt = found_bordered (field n 39) _ (omega arith) b.b4
    fields (suc (suc (suc (suc (suc zero))))) lt = found_bordered (field n 47) _ (omega arith) b.b5
    fields (suc (suc (suc (suc (suc (suc zero)))))) lt = found_bordered (field n 55) _ (side_below sub.value sub.flags few) b.b6
    fields (suc (suc (suc (suc (suc (suc (suc k))))))) lt = absurd (omega arith)

-- The bytes of a group, and those of the value and of the bits after it.

pub each_byte : (bytes : List ℕ) → ((k : ℕ) → get_or bytes k 0 < 256)
    → AreBytes (get_or bytes 0 0) (get_or bytes 1 0) (get_or bytes 2 0) (get_or bytes 3 0) (get_or bytes 4 0) (get_or bytes 5 0) (get_or bytes 6 0) (get_or bytes 7 0)
each_byte bytes h = record { of_p = h 0; of_a = h 1; of_b = h 2; of_c = h 3; of_d = h 4; of_e = h 5; of_f = h 6; of_g = h 7 }

abbrev pub joined : List ℕ → ℕ
joined xs =
    slice_index xs 0 + slice_index xs 1 * 256 + slice_index xs 2 * 65536 + slice_index xs 3 * 16777216 + slice_index xs 4 * 4294967296
    + slice_index xs 5 * 1099511627776 + slice_index xs 6 * 281474976710656 + slice_index xs 7 * 72057594037927936

pub joined_of : (bytes : List ℕ) (n : ℕ)
    → bytes ≡ get_or bytes 0 0 ∷ get_or bytes 1 0 ∷ get_or bytes 2 0 ∷ get_or bytes 3 0 ∷ get_or bytes 4 0 ∷ get_or bytes 5 0 ∷ get_or bytes 6 0 ∷ get_or bytes 7 0 ∷ []
    → n ≡ joined bytes → IsJoined n (get_or bytes 0 0) (get_or bytes 1 0) (get_or bytes 2 0) (get_or bytes 3 0) (get_or bytes 4 0) (get_or bytes 5 0) (get_or bytes 6 0) (get_or bytes 7 0)
joined_of bytes n list is = is ∙ ap joined list

pub four_of : (n x value : ℕ) (r : List ℕ) → n < 2 ^ 64 → bit_and (turns_of n) BORDERS ≡ BORDERS
    → ((q : ℕ) → q < 4 → x / 2 ^ (16 * q) % 256 ≡ eight_from (turns_of n / 2 ^ 8) (16 * q))
    → r ≡ x % 256 ∷ x / 256 % 256 ∷ x / 65536 % 256 ∷ x / 16777216 % 256 ∷ x / 4294967296 % 256 ∷ x / 1099511627776 % 256 ∷ x / 281474976710656 % 256 ∷ x / 72057594037927936 % 256 ∷ []
    → value ≡ get_or r 0 0 + get_or r 2 0 * 256 + get_or r 4 0 * 65536 + 0 → AreFour n value (get_or r 6 0)
four_of n x value r lt all bytes is value_is =
    let low : x % 256 ≡ x / 2 ^ (16 * 0) % 256 = omega arith in
    four_are n value (get_or r 6 0) (get_or r 0 0) (get_or r 2 0) (get_or r 4 0) lt all
    (ap (λ xs. get_or xs 0 0) is ∙ low ∙ bytes 0 (omega arith)) (ap (λ xs. get_or xs 2 0) is ∙ bytes 1 (omega arith)) (ap (λ xs. get_or xs 4 0) is ∙ bytes 2 (omega arith)) (ap (λ xs. get_or xs 6 0) is ∙ bytes 3 (omega arith))
    (omega (arith, value_is))
