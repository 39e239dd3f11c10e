-- The bits of a subframe, four in each byte: every other half cell that is unlike the next.
use Rattle.std.proofs.Common.{◌≡◌, ℕ, ◌+◌, ◌*◌, ◌/◌, ◌%◌, ◌^◌, ◌<◌, List, length, get_or, refl, ap, ◌∙◌, sym, subst, arith}
use Rattle.std.specs.Int.{bit_at}
use Rattle.audio_packets.specs.Samples.{side_bits}
use Rattle.audio_out.specs.Subframes.{IsSubframe}
use Rattle.audio_out.specs.declared.subframe.Subframe.{Subframe}
use Rattle.audio_out.proofs.EveryOther.{fours, fours_are}
use Rattle.audio_out.proofs.Fields.{turns_of, turn_at, turn_in, four_in, found_in, found_bordered, bordered_found}
use Rattle.audio_out.proofs.Halves.{each_byte, field, halves_read, joined, joined_of}
use Rattle.audio_out.proofs.Joined.{eight}
use Rattle.audio_out.proofs.ReadBack.{bits_read, side_below}

four_read : (n q : ℕ) → q < 7 → fours (turns_of n) / 2 ^ (8 * (q + 1)) % 256 ≡ four_in (field n (8 * q + 7))
unfolding four_in
four_read n q lt =
    let t = turns_of n in
    let s = 8 * q + 7 in
    let at : (i c : ℕ) → i ≡ s + c → c < 8 → bit_at t i ≡ turn_in (field n s) c = λ i c e few. ap (bit_at t) e ∙ turn_at n s (field n s) c refl few in
    fours_are t (q + 1) (omega arith)
    ∙ rw (at (8 * (q + 1)) 1 (omega arith) (omega arith)) (rw (at (8 * (q + 1) + 2) 3 (omega arith) (omega arith)) (rw (at (8 * (q + 1) + 4) 5 (omega arith) (omega arith)) (rw (at (8 * (q + 1) + 6) 7 (omega arith) (omega arith)) refl)))

found_four : (m v : ℕ) → v < 16 → found_in m ≡ v → four_in m ≡ v
found_four m v lt e = sym (bordered_found m (found_bordered m v lt e)) ∙ e

pub record AreFours (sub : Subframe) (fours : ℕ) : Type 0 where
  pub is1 : fours / 2 ^ (8 * 1) % 256 ≡ sub.value % 16
  pub is2 : fours / 2 ^ (8 * 2) % 256 ≡ sub.value / 16 % 16
  pub is3 : fours / 2 ^ (8 * 3) % 256 ≡ sub.value / 256 % 16
  pub is4 : fours / 2 ^ (8 * 4) % 256 ≡ sub.value / 4096 % 16
  pub is5 : fours / 2 ^ (8 * 5) % 256 ≡ sub.value / 65536 % 16
  pub is6 : fours / 2 ^ (8 * 6) % 256 ≡ sub.value / 1048576 % 16
  pub is7 : fours / 2 ^ (8 * 7) % 256 ≡ side_bits sub.value sub.flags

pub fours_of : (sub : Subframe) (bytes : List ℕ) (n : ℕ) → length bytes ≡ 8 → ((k : ℕ) → get_or bytes k 0 < 256) → n ≡ joined bytes → IsSubframe sub bytes → AreFours sub (fours (turns_of n))
fours_of sub bytes n reported fits is h =
    let list = eight bytes reported in
    let eight_bytes = each_byte bytes fits in
    let read = halves_read n _ _ _ _ _ _ _ _ eight_bytes (joined_of bytes n list is) in
    let b = bits_read sub _ _ _ _ _ _ _ _ _ _ _ _ _ _ _ read (subst (IsSubframe sub) list h) in
    record {
      is1 = four_read n 0 (omega arith) ∙ found_four (field n 7) _ (omega arith) b.b0;
      is2 = four_read n 1 (omega arith) ∙ found_four (field n 15) _ (omega arith) b.b1;
      is3 = four_read n 2 (omega arith) ∙ found_four (field n 23) _ (omega arith) b.b2;
      is4 = four_read n 3 (omega arith) ∙ found_four (field n 31) _ (omega arith) b.b3;
      is5 = four_read n 4 (omega arith) ∙ found_four (field n 39) _ (omega arith) b.b4;
      is6 = four_read n 5 (omega arith) ∙ found_four (field n 47) _ (omega arith) b.b5;
      is7 = four_read n 6 (omega arith) ∙ found_four (field n 55) _ (side_below sub.value sub.flags h.sound.flags) b.b6;
    }
