use Rattle.std.proofs.Common.{◌≡◌, ◌≢◌, ℕ, ◌<◌, ◌^◌, ◌∙◌, Bool, true, false, not, ◌==◌, bit_and, ap, ap₂, sym, arith, slice_index, eqb-true}
use Rattle.std.specs.Prelude.{◌↔◌, IsTrue, if◌then◌else◌}
use Rattle.std.proofs.lemmas.Bool.{eq-eqb, ne_eqb}
use Rattle.std.proofs.lemmas.Int.{to_z-of_z}
use Rattle.tmds_code.specs.Coding.{Sign, negative, null, positive, coded_at, decoded_byte}
use Rattle.tmds_code.specs.Places.{place_of}
use Rattle.tmds_code.specs.declared.tables.TheConstants.{SIGNS}
use Rattle.tmds_code.proofs.TableWords.{table_mark}
use Rattle.tmds_code.proofs.coding.is_coded.Goals as goal

bit_some : (s : Sign) → 2 ^ place_of s ≢ 0
bit_some negative = λ e. absurd (omega (arith, e))
bit_some null = λ e. absurd (omega (arith, e))
bit_some positive = λ e. absurd (omega (arith, e))

test : (p : Bool) (v n : ℕ) → n ≢ 0 → v ≡ (if p then n else 0) → not (v == 0) ≡ p
test true v n some e = ap not (ne_eqb v 0 (λ z. some (sym e ∙ z)))
test false v n some e = ap not (eq-eqb v 0 e)

marked : (s : Sign) (w m b : ℕ) → w < 1024 → m ≡ slice_index SIGNS w → b ≡ 2 ^ place_of s → IsTrue (not (bit_and m b == 0)) ↔ (w ≡ coded_at s (decoded_byte w))
marked s w m b lt e f =
    let same : not (bit_and m b == 0) ≡ (w == coded_at s (decoded_byte w)) = test _ _ _ (bit_some s) (ap₂ bit_and e f ∙ table_mark s w lt) in
    (λ h. eqb-true w _ (sym same ∙ h), λ h. same ∙ eq-eqb w _ h)

pub returns : goal.returns
returns c = grind (arith, marked, to_z-of_z)
