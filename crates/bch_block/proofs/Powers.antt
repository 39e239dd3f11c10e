-- The tables, and the powers of x below 64: each is odd, and no two are the same.
use Rattle.std.proofs.Common.{arith, ◌≡◌, ℕ, ◌+◌, ◌<◌, Bool, true, false, cond, Option, Some, None, ◌&&◌, refl, ap, ◌∙◌, sym, eqb-true, nat_lt, ltb-true, ◌==◌, slice_index, slice_index_or, IfSome}
use Rattle.bch_block.specs.Bits.{xor}
use Rattle.bch_block.specs.Division.{Remainder, nothing, kept, power, times_power}
use Rattle.bch_block.specs.declared.tables.TheConstants.{TIMES_X8, POWERS}
use Rattle.bch_block.proofs.Sums.{plus, odd, odd-plus}
use Rattle.bch_block.proofs.Computed.{all_below, below, same, same_by_test, and-left, and-right}

-- the byte that keeps a remainder
pub byte_of : Remainder → ℕ
byte_of r = cond r.x7 1 0 + cond r.x6 2 0 + cond r.x5 4 0 + cond r.x4 8 0 + cond r.x3 16 0 + cond r.x2 32 0 + cond r.x1 64 0 + cond r.x0 128 0

keeps : ℕ → Bool
keeps n = byte_of (kept n) == n

keeps_all : all_below 256 keeps ≡ true
unfolding byte_of keeps
keeps_all = refl

byte_of-kept : (n : ℕ) → n < 256 → byte_of (kept n) ≡ n
unfolding keeps
byte_of-kept n lt = eqb-true _ _ (below 256 keeps n keeps_all lt)

-- two bytes that keep one remainder are the same
pub kept_once : (a b : ℕ) → a < 256 → b < 256 → kept a ≡ kept b → a ≡ b
kept_once a b la lb e = sym (byte_of-kept a la) ∙ ap byte_of e ∙ byte_of-kept b lb

-- the table of products
multiplies : ℕ → Bool
multiplies n = same (kept (slice_index TIMES_X8 n)) (times_power (kept n) 8)

multiplies_all : all_below 256 multiplies ≡ true
unfolding multiplies
multiplies_all = refl

pub kept-times_x8 : (n : ℕ) → n < 256 → kept (slice_index TIMES_X8 n) ≡ times_power (kept n) 8
unfolding multiplies
kept-times_x8 n lt = same_by_test _ _ (below 256 multiplies n multiplies_all lt)

-- the table of powers, from the remainders
entry : ℕ → Option ℕ
entry n = slice_index_or POWERS n None

is_right : ℕ → Option ℕ → Bool
is_right n None = true
is_right n (Some k) = nat_lt k 64 && same (power k) (kept n)

right_all : all_below 256 (λ n. is_right n (entry n)) ≡ true
unfolding is_right entry
right_all = refl

right_some : (n : ℕ) (o : Option ℕ) → is_right n o ≡ true → IfSome o (λ k. (k < 64) × (power k ≡ kept n))
unfolding is_right
right_some n None h = tt
right_some n (Some k) h = (ltb-true k 64 (and-left _ _ h), same_by_test _ _ (and-right _ _ h))

pub power_in_table : (n : ℕ) → n < 256 → IfSome (slice_index_or POWERS n None) (λ k. (k < 64) × (power k ≡ kept n))
unfolding entry
power_in_table n lt = right_some n (entry n) (below 256 (λ m. is_right m (entry m)) n right_all lt)

-- the same from the powers
is_exactly : ℕ → Option ℕ → Bool
is_exactly k None = false
is_exactly k (Some j) = j == k

found_all : all_below 64 (λ k. is_exactly k (entry (byte_of (power k)))) ≡ true
unfolding is_exactly entry byte_of
found_all = refl

exact_some : (k : ℕ) (o : Option ℕ) → is_exactly k o ≡ true → o ≡ Some k
unfolding is_exactly
exact_some k o h = grind (arith, eqb-true)

entry-power : (k : ℕ) → k < 64 → entry (byte_of (power k)) ≡ Some k
entry-power k lt = exact_some k _ (below 64 (λ m. is_exactly m (entry (byte_of (power m)))) k found_all lt)

pub table-power : (n k : ℕ) → n < 256 → k < 64 → power k ≡ kept n → slice_index_or POWERS n None ≡ Some k
unfolding entry
table-power n k ln lk e = ap entry (sym (byte_of-kept n ln) ∙ ap byte_of (sym e)) ∙ entry-power k lk

pub distinct : (k l : ℕ) → k < 64 → l < 64 → power k ≡ power l → k ≡ l
distinct k l lk ll e =
    let found : Some k ≡ Some l = sym (entry-power k lk) ∙ ap (λ r. entry (byte_of r)) e ∙ entry-power l ll in
    cc

is_odd : ℕ → Bool
is_odd k = odd (power k)

odd_all : all_below 64 is_odd ≡ true
unfolding is_odd
odd_all = refl

pub odd-power : (k : ℕ) → k < 64 → odd (power k) ≡ true
unfolding is_odd
odd-power k lt = below 64 is_odd k odd_all lt

-- no power, no sum of two, no sum of three is nothing
pub one_power : (k : ℕ) → k < 64 → power k ≡ nothing → ⊥
one_power k lk e = let t = sym (odd-power k lk) ∙ ap odd e in cc

pub three_powers : (k l m : ℕ) → k < 64 → l < 64 → m < 64 → plus (plus (power k) (power l)) (power m) ≡ nothing → ⊥
three_powers k l m lk ll lm e =
    let sums : odd (plus (plus (power k) (power l)) (power m)) ≡ xor (xor (odd (power k)) (odd (power l))) (odd (power m)) =
    odd-plus (plus (power k) (power l)) (power m) ∙ ap (λ v. xor v (odd (power m))) (odd-plus (power k) (power l)) in
    grind (arith, odd, odd-power)
