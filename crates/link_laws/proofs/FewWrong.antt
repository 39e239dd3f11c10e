-- Blocks of which at most three bits are wrong: where no fault is found, none is.
use Rattle.std.proofs.Common.{◌≡◌, ℕ, suc, zero, ◌≤◌, Bool, true, false, List, [], ◌∷◌, length, refl, sym, subst, arith}
use Rattle.terc4.specs.Columns.{one_if}
use Rattle.bch_block.specs.Bits.{differences}
use Rattle.bch_block.specs.Block.{IsBlock}
use Rattle.bch_block.specs.Repair.{IsVerdict}
use Rattle.bch_block.specs.declared.Verdict.TheVariants.{Clean}
use Rattle.bch_block.proofs.Distances.{differences-self, same_without_differences}
use Rattle.bch_block.proofs.Verdicts.{four_apart}
use Rattle.island_pack.specs.Repaired.{divides, verdict_of}
use Rattle.island_pack.proofs.Repaired.{verdict_by}
use Rattle.link_laws.specs.Laws.{wrong_bits}

differences_are : (s x : List Bool) → length x ≡ length s → differences s x ≡ wrong_bits s x
unfolding wrong_bits one_if
differences_are [] x e = refl
differences_are (s ∷ ss) [] e = absurd (omega arith)
differences_are (true ∷ ss) (true ∷ xs) e = omega (arith, differences_are ss xs (omega arith))
differences_are (true ∷ ss) (false ∷ xs) e = omega (arith, differences_are ss xs (omega arith))
differences_are (false ∷ ss) (true ∷ xs) e = omega (arith, differences_are ss xs (omega arith))
differences_are (false ∷ ss) (false ∷ xs) e = omega (arith, differences_are ss xs (omega arith))

-- two blocks that differ in three places at most are one
one_block : (s x : List Bool) (n : ℕ) → differences s x ≡ n → n ≤ 3 → length s ≤ 64 → length x ≡ length s → IsBlock s → IsBlock x → x ≡ s
one_block s x zero e few short same bs bx = same_without_differences s x same e
one_block s x (suc n) e few short same bs bx =
    let four = four_apart s x short same bs bx (λ (is : s ≡ x). differ s x n e is) in
    absurd (omega arith)
  where
    differ : (s x : List Bool) (n : ℕ) → differences s x ≡ suc n → s ≡ x → ⊥
    differ s x n e is =
        let none = differences-self s in
        let some : differences s s ≡ suc n = subst (λ y. differences s y ≡ suc n) (sym is) e in
        absurd (omega arith)

clean_is_block : (x : List Bool) → 8 ≤ length x → length x ≤ 64 → verdict_of x ≡ Clean → IsBlock x
unfolding verdict_of
clean_is_block x long short h = subst (IsVerdict x) h (verdict_by x (divides x) long short refl)

-- a block of which no fault is found is the one that was sent
pub clean_block : (s x : List Bool) → 8 ≤ length x → length x ≤ 64 → length x ≡ length s → wrong_bits s x ≤ 3 → IsBlock s → verdict_of x ≡ Clean → x ≡ s
clean_block s x long short same wrong block h =
    let d = differences_are s x same in
    one_block s x (differences s x) refl (omega arith) (omega arith) same block (clean_is_block x long short h)
