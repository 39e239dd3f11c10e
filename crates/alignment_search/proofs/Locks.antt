-- The lock of a lane, found in bits that are lent.
use Rattle.std.proofs.Common.{◌≡◌, ℕ, ◌+◌, ◌-◌, ◌<◌, ◌≤◌, min, Bool, List, length, take, drop, sym, subst, arith, inl, inr, length-drop}
use Rattle.std.proofs.lemmas.Bool.{cases_lt}
use Rattle.lane_align.specs.Lanes.{IsRun, IsLock}
use Rattle.lane_align.specs.Search.{IsOther, IsFirstOther}
use Rattle.lane_align.proofs.Controls.{run_within}
use Rattle.lane_align.proofs.Parts.{run_of_front, run_in_front, run_of_rest, run_in_rest}

module _ (bits xs : List Bool) (skip count base : ℕ) (same : take count (drop skip bits) ≡ drop base xs) where
  -- the runs of the lane are those of the bits
  run_lent : (q : ℕ) → q + 120 ≤ count → IsRun bits (skip + q) → IsRun xs (base + q)
  run_lent q long run = run_of_rest base xs q (subst (λ ys. IsRun ys q) same (run_in_front count (drop skip bits) q long (run_in_rest skip bits q run)))

  lent_run : (q : ℕ) → IsRun xs (base + q) → IsRun bits (skip + q)
  lent_run q run = run_of_rest skip bits q (run_of_front count (drop skip bits) q (subst (λ ys. IsRun ys q) (sym same) (run_in_rest base xs q run)))

  module _ (from until last : ℕ) (many : count ≡ length (drop base xs)) (after : base ≤ from) (is : last ≡ min (count - 119) (until - base))
      (none : (p : ℕ) → p < from → IsRun xs p → ⊥) where
    -- a run before `until` lies before the last place
    within : (p : ℕ) → from ≤ p → p < until → IsRun xs p → p - base < last
    within p late before run =
        let long = run_within xs p run in
        omega (arith, length-drop base xs)

    -- where no place is left
    pub none_left : last ≤ from - base → (p : ℕ) → p < until → IsRun xs p → ⊥
    none_left few p before run = elim (cases_lt p from) [
      | inl early ↦ none p early run
      | inr late ↦ let w = within p late before run in absurd (omega arith)
    ]

    other_of : (p : ℕ) → from ≤ p → p < until → IsRun xs p → IsOther bits (skip + (from - base)) (skip + last) 10 (skip + (p - base))
    other_of p late before run =
        let e : p ≡ base + (p - base) = omega arith in
        let w = within p late before run in
        record {
          after = omega arith;
          before = omega arith;
          apart = λ h. omega arith;
          run = lent_run (p - base) (subst (IsRun xs) e run);
        }

    -- where none is found
    pub none_found : ((p : ℕ) → IsOther bits (skip + (from - base)) (skip + last) 10 p → ⊥) → (p : ℕ) → p < until → IsRun xs p → ⊥
    none_found nothing p before run = elim (cases_lt p from) [
      | inl early ↦ none p early run
      | inr late ↦ nothing (skip + (p - base)) (other_of p late before run)
    ]

    -- the one that is found
    pub lock_found : (place : ℕ) → from ≤ until → IsFirstOther bits (skip + (from - base)) (skip + last) 10 place → IsLock xs (base + (place - skip)) × (from ≤ base + (place - skip))
    lock_found place order first =
        let low = first.other.after in
        let high = first.other.before in
        let e : place ≡ skip + (place - skip) = omega arith in (
          record {
            run = run_lent (place - skip) (omega arith) (subst (IsRun bits) e first.other.run);
            least = λ p less run. elim (cases_lt p from) [
              | inl early ↦ none p early run
              | inr late ↦ first.least (skip + (p - base)) (omega arith) (other_of p late (omega arith) run)
            ];
          },
          omega arith,
        )
