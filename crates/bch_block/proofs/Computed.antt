-- Tests that are computed, and what follows from them.
use Rattle.std.proofs.Common.{◌≡◌, ℕ, suc, zero, ◌<◌, Bool, true, false, ◌&&◌, ◌||◌, arith}
use Rattle.std.proofs.lemmas.Bool.{cases_lt}
use Rattle.bch_block.specs.Division.{Remainder, nothing}
use Rattle.bch_block.proofs.Sums.{plus, equal_remainders}

abbrev pub all_below : ℕ → (ℕ → Bool) → Bool
all_below zero p = true
all_below (suc n) p = p n && all_below n p

pub and-left : (a b : Bool) → (a && b) ≡ true → a ≡ true
and-left a b h = grind arith

pub and-right : (a b : Bool) → (a && b) ≡ true → b ≡ true
and-right a b h = grind arith

-- what was computed for each number below a bound
pub below : (n : ℕ) (p : ℕ → Bool) (k : ℕ) → all_below n p ≡ true → k < n → p k ≡ true
below zero p k h lt = absurd (omega arith)
below (suc n) p k h lt = grind (arith, cases_lt, and-right, and-left, below n p k)

abbrev pub not_bit : Bool → Bool
not_bit true = false
not_bit false = true

abbrev pub is_nothing : Remainder → Bool
is_nothing r = not_bit (r.x7 || (r.x6 || (r.x5 || (r.x4 || (r.x3 || (r.x2 || (r.x1 || r.x0)))))))

-- are two remainders the same?
abbrev pub same : Remainder → Remainder → Bool
same r s = is_nothing (plus r s)

not_left : (a b : Bool) → not_bit (a || b) ≡ true → a ≡ false
not_left a b h = grind arith

not_right : (a b : Bool) → not_bit (a || b) ≡ true → not_bit b ≡ true
not_right a b h = grind arith

not_alone : (a : Bool) → not_bit a ≡ true → a ≡ false
not_alone a h = grind arith

nothing_by_test : (r : Remainder) → is_nothing r ≡ true → r ≡ nothing
nothing_by_test r h = grind (arith, not_right, not_left, not_alone)

pub same_by_test : (r s : Remainder) → same r s ≡ true → r ≡ s
same_by_test r s h = equal_remainders r s (nothing_by_test (plus r s) h)
