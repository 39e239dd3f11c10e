-- The masks of the ten lowest bits but one.
use Rattle.std.proofs.Common.{◌≡◌, ℕ, ◌<◌, ◌≤◌, Bool, true, slice_index, refl, arith, ◌==◌, ◌||◌, eqb-true}
use Rattle.tmds_word.specs.Bits.{bit}
use Rattle.tmds_word.proofs.Below.{passes_below, passes_at}
use Rattle.lane_align.specs.declared.search.TheConstants.{OTHERS}

unfoldable has_bit : ℕ → ℕ → Bool
has_bit phase k = (k == phase) || bit (slice_index OTHERS phase) k

unfoldable has_bits : ℕ → Bool
has_bits phase = passes_below 10 (has_bit phase)

all_bits : passes_below 11 has_bits ≡ true
unfolding passes_below has_bits has_bit
all_bits = refl

or_right : (a b : Bool) → (a ≡ true → ⊥) → (a || b) ≡ true → b ≡ true
or_right a b h k = grind arith

pub others_bit : (phase k : ℕ) → phase ≤ 10 → k < 10 → (k ≡ phase → ⊥) → bit (slice_index OTHERS phase) k ≡ true
unfolding has_bits has_bit
others_bit phase k le lt apart =
    or_right (k == phase) (bit (slice_index OTHERS phase) k) (λ h. apart (eqb-true k phase h))
    (passes_at 10 (has_bit phase) k (passes_at 11 has_bits phase all_bits (omega arith)) lt)
