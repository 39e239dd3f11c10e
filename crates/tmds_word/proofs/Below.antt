-- A test that is computed at each number below a bound, and what it says at one of them.
use Rattle.std.proofs.Common.{◌≡◌, ℕ, suc, zero, ◌<◌, Bool, true, arith, ◌&&◌}
use Rattle.std.proofs.lemmas.Bool.{cases_lt}

pub and-left : (a b : Bool) → (a && b) ≡ true → a ≡ true
and-left a b h = grind arith

pub and-right : (a b : Bool) → (a && b) ≡ true → b ≡ true
and-right a b h = grind arith

-- whether each number below n passes a test
unfoldable pub passes_below : ℕ → (ℕ → Bool) → Bool
passes_below zero p = true
passes_below (suc n) p = p n && passes_below n p

pub passes_at : (n : ℕ) (p : ℕ → Bool) (k : ℕ) → passes_below n p ≡ true → k < n → p k ≡ true
unfolding passes_below
passes_at zero p k h lt = absurd (omega arith)
passes_at (suc n) p k h lt = grind (arith, cases_lt, and-right, and-left, passes_at n p k)
