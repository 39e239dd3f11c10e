-- The four bits that seven bytes of half cells are read as, and the subframe that they are.
use Rattle.std.proofs.Common.{◌≡◌, ℕ, ◌+◌, ◌*◌, ◌/◌, ◌%◌, ◌<◌, Bool, true, ◌&&◌, [], ◌∷◌, ap₂, ◌∙◌, sym, arith, ◌==◌, eqb-true, eq-eqb}
use Rattle.tmds_word.specs.Bits.{bits_of}
use Rattle.tmds_word.proofs.Below.{and-left, and-right}
use Rattle.audio_packets.specs.Samples.{side_bits}
use Rattle.audio_out.specs.Levels.{level_after}
use Rattle.audio_out.specs.Subframes.{IsSound, IsSubframe, preamble, carries}
use Rattle.audio_out.specs.declared.subframe.Mark.{Mark}
use Rattle.audio_out.specs.declared.subframe.Subframe.{Subframe}
use Rattle.audio_out.proofs.Joined.{seven, is_joined, joined_is}

-- four bits are read of a byte of half cells after another
abbrev pub IsRead : ℕ → ℕ → ℕ → Type 0
IsRead before cells found = (n : ℕ) → n < 16 → carries (level_after before) (bits_of 4 n) (bits_of 8 cells) ≡ (found == n)

pub record AreRead (p a b c d e f g n0 n1 n2 n3 n4 n5 n6 : ℕ) : Type 0 where
  pub r0 : IsRead p a n0
  pub r1 : IsRead a b n1
  pub r2 : IsRead b c n2
  pub r3 : IsRead c d n3
  pub r4 : IsRead d e n4
  pub r5 : IsRead e f n5
  pub r6 : IsRead f g n6

pub record AreBits (sub : Subframe) (n0 n1 n2 n3 n4 n5 n6 : ℕ) : Type 0 where
  pub b0 : n0 ≡ sub.value % 16
  pub b1 : n1 ≡ sub.value / 16 % 16
  pub b2 : n2 ≡ sub.value / 256 % 16
  pub b3 : n3 ≡ sub.value / 4096 % 16
  pub b4 : n4 ≡ sub.value / 65536 % 16
  pub b5 : n5 ≡ sub.value / 1048576 % 16
  pub b6 : n6 ≡ side_bits sub.value sub.flags

pub side_below : (value flags : ℕ) → flags < 8 → side_bits value flags < 16
side_below value flags lt = omega arith

found_is : (before cells found n : ℕ) → IsRead before cells found → n < 16 → carries (level_after before) (bits_of 4 n) (bits_of 8 cells) ≡ true → found ≡ n
found_is before cells found n read lt h = eqb-true _ _ (sym (read n lt) ∙ h)

-- the bits of a subframe are read
pub bits_read : (sub : Subframe) (p a b c d e f g n0 n1 n2 n3 n4 n5 n6 : ℕ) → AreRead p a b c d e f g n0 n1 n2 n3 n4 n5 n6
    → IsSubframe sub (p ∷ a ∷ b ∷ c ∷ d ∷ e ∷ f ∷ g ∷ []) → AreBits sub n0 n1 n2 n3 n4 n5 n6
unfolding seven
bits_read sub p a b c d e f g n0 n1 n2 n3 n4 n5 n6 r h =
    let t0 = joined_is sub p a b c d e f g h in
    let t1 = and-right _ _ t0 in
    let t2 = and-right _ _ t1 in
    let t3 = and-right _ _ t2 in
    let t4 = and-right _ _ t3 in
    let t5 = and-right _ _ t4 in
    let t6 = and-right _ _ t5 in
    record {
      b0 = found_is p a n0 _ r.r0 (omega arith) (and-left _ _ t0);
      b1 = found_is a b n1 _ r.r1 (omega arith) (and-left _ _ t1);
      b2 = found_is b c n2 _ r.r2 (omega arith) (and-left _ _ t2);
      b3 = found_is c d n3 _ r.r3 (omega arith) (and-left _ _ t3);
      b4 = found_is d e n4 _ r.r4 (omega arith) (and-left _ _ t4);
      b5 = found_is e f n5 _ r.r5 (omega arith) (and-left _ _ t5);
      b6 = found_is f g n6 _ r.r6 (side_below sub.value sub.flags h.sound.flags) t6;
    }

carried_found : (before cells found n : ℕ) → IsRead before cells found → n < 16 → found ≡ n → carries (level_after before) (bits_of 4 n) (bits_of 8 cells) ≡ true
carried_found before cells found n read lt e = read n lt ∙ eq-eqb found n e

pub both : (x y : Bool) → x ≡ true → y ≡ true → (x && y) ≡ true
both x y h k = ap₂ (λ a b. a && b) h k

-- and bytes of which a subframe's bits are read are that subframe
pub read_is : (sub : Subframe) (p a b c d e f g n0 n1 n2 n3 n4 n5 n6 : ℕ) → AreRead p a b c d e f g n0 n1 n2 n3 n4 n5 n6
    → IsSound sub → bits_of 8 p ≡ preamble sub.mark → AreBits sub n0 n1 n2 n3 n4 n5 n6 → IsSubframe sub (p ∷ a ∷ b ∷ c ∷ d ∷ e ∷ f ∷ g ∷ [])
unfolding seven
read_is sub p a b c d e f g n0 n1 n2 n3 n4 n5 n6 r sound marked bits =
    is_joined sub p a b c d e f g sound marked
    (both _ _ (carried_found p a n0 _ r.r0 (omega arith) bits.b0)
    (both _ _ (carried_found a b n1 _ r.r1 (omega arith) bits.b1)
    (both _ _ (carried_found b c n2 _ r.r2 (omega arith) bits.b2)
    (both _ _ (carried_found c d n3 _ r.r3 (omega arith) bits.b3)
    (both _ _ (carried_found d e n4 _ r.r4 (omega arith) bits.b4)
    (both _ _ (carried_found e f n5 _ r.r5 (omega arith) bits.b5)
    (carried_found f g n6 _ r.r6 (side_below sub.value sub.flags sound.flags) bits.b6)))))))

-- the value and the flags that the bits have
pub value_back : (sub : Subframe) (n0 n1 n2 n3 n4 n5 n6 : ℕ) → IsSound sub → AreBits sub n0 n1 n2 n3 n4 n5 n6
    → n0 + 16 * n1 + (n2 + 16 * n3) * 256 + (n4 + 16 * n5) * 65536 ≡ sub.value
value_back sub n0 n1 n2 n3 n4 n5 n6 sound b = grind arith

pub flags_back : (sub : Subframe) (side : ℕ) → IsSound sub → side ≡ side_bits sub.value sub.flags → side % 8 ≡ sub.flags
flags_back sub side sound e = let lt = sound.flags in omega arith

-- bits below 16 are those of the value that they make
pub bits_of_value : (mark : Mark) (value flags n0 n1 n2 n3 n4 n5 n6 : ℕ) → n0 < 16 → n1 < 16 → n2 < 16 → n3 < 16 → n4 < 16 → n5 < 16
    → value ≡ n0 + 16 * n1 + (n2 + 16 * n3) * 256 + (n4 + 16 * n5) * 65536 → n6 ≡ side_bits value flags
    → AreBits (record { mark = mark; value = value; flags = flags }) n0 n1 n2 n3 n4 n5 n6
bits_of_value mark value flags n0 n1 n2 n3 n4 n5 n6 l0 l1 l2 l3 l4 l5 e side = grind arith
