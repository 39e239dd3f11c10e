use Rattle.std.proofs.Common.{◌≡◌, ◌≢◌, ℕ, ◌<◌, ◌≤◌, ap, sym, subst, refl, arith}
use Rattle.tmds_word.specs.Bits.{word_bits, turns, bits_of, unlike}
use Rattle.tmds_code.specs.Coding.{sign_of}
use Rattle.tmds_code.specs.Laws.{IsTransitionMinimized}
use Rattle.tmds_code.proofs.TableWords.{coded_turns}
use Rattle.tmds_code.proofs.laws.coded_is_minimized.Goals as goal

turns_354 : turns (word_bits 0x354) ≡ 7
unfolding turns word_bits bits_of unlike
turns_354 = refl

turns_0ab : turns (word_bits 0x0ab) ≡ 7
unfolding turns word_bits bits_of unlike
turns_0ab = refl

turns_154 : turns (word_bits 0x154) ≡ 8
unfolding turns word_bits bits_of unlike
turns_154 = refl

turns_2ab : turns (word_bits 0x2ab) ≡ 8
unfolding turns word_bits bits_of unlike
turns_2ab = refl

unlike_by_turns : (w v n : ℕ) → turns (word_bits w) ≤ 5 → turns (word_bits v) ≡ n → 5 < n → w ≢ v
unlike_by_turns w v n few many over = λ e. absurd (omega (arith, few, many, over, ap (λ u. turns (word_bits u)) e))

minimized : (w : ℕ) → turns (word_bits w) ≤ 5 → IsTransitionMinimized w
minimized w few = grind (arith, unlike_by_turns, turns_354, turns_0ab, turns_154, turns_2ab)

pub returns : goal.returns
returns c = λ disparity byte w lt coded. minimized w (subst (λ u. turns (word_bits u) ≤ 5) (sym coded) (coded_turns (sign_of disparity) byte lt))
