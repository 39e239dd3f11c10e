use Rattle.std.proofs.Common.{arith, ◌≡◌, ℕ, suc, zero, ◌+◌, refl}
use Rattle.std.specs.Prelude.{pos, ◌-ℤ◌, ◌≤ℤ◌}
use mir.Val.{to_z, of_z}
use mir.Syntax.{w8}
use Rattle.tmds_word.specs.Bits.{balance}
use Rattle.tmds_word.proofs.Words.{ones_of_word, ten_bits}
use Rattle.tmds_word.proofs.word.Word.balance.Goals as goal

-- the code's difference, at each count of ones
difference : (n m : ℕ) → n + m ≡ 10 → to_z w8 (of_z w8 (to_z w8 n -ℤ to_z w8 (of_z w8 (pos 10 -ℤ to_z w8 n)))) ≡ pos n -ℤ pos m
difference zero m e = let f : m ≡ 10 = omega arith in rw f refl
difference (suc zero) m e = let f : m ≡ 9 = omega arith in rw f refl
difference (suc (suc zero)) m e = let f : m ≡ 8 = omega arith in rw f refl
difference (suc (suc (suc zero))) m e = let f : m ≡ 7 = omega arith in rw f refl
difference (suc (suc (suc (suc zero)))) m e = let f : m ≡ 6 = omega arith in rw f refl
difference (suc (suc (suc (suc (suc zero))))) m e = let f : m ≡ 5 = omega arith in rw f refl
difference (suc (suc (suc (suc (suc (suc zero)))))) m e = let f : m ≡ 4 = omega arith in rw f refl
difference (suc (suc (suc (suc (suc (suc (suc zero))))))) m e = let f : m ≡ 3 = omega arith in rw f refl
difference (suc (suc (suc (suc (suc (suc (suc (suc zero)))))))) m e = let f : m ≡ 2 = omega arith in rw f refl
difference (suc (suc (suc (suc (suc (suc (suc (suc (suc zero))))))))) m e = let f : m ≡ 1 = omega arith in rw f refl
difference (suc (suc (suc (suc (suc (suc (suc (suc (suc (suc zero)))))))))) m e = let f : m ≡ 0 = omega arith in rw f refl
difference (suc (suc (suc (suc (suc (suc (suc (suc (suc (suc (suc n))))))))))) m e = absurd (omega arith)

pub returns : goal.returns
unfolding balance
returns c = grind (arith, ten_bits, ones_of_word, difference)
