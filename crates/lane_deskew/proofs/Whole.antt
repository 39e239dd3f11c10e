-- Edges of whole rows: where one is, and the next of each lane.
use Rattle.std.proofs.Common.{◌≡◌, ℕ, ◌+◌, ◌-◌, ◌%◌, ◌≤◌, Bool, List, length, take, drop, subst, refl, arith, inl, inr}
use Rattle.std.proofs.lemmas.Bool.{cases_lt}
use Rattle.tmds_word.specs.Bits.{number}
use Rattle.lane_align.specs.Lanes.{HasControl, IsRun, IsLock, IsEdge, IsNextEdge}
use Rattle.lane_align.proofs.Controls.{window_here, other_word}
use Rattle.lane_deskew.specs.Candidates.{AreReached}
use Rattle.lane_deskew.specs.Triples.{IsFirst}

-- a run ends here, at whole characters past the lock
pub edge_here : (xs : List Bool) (lock e : ℕ) → IsLock xs lock → lock + 120 ≤ e → e % 10 ≡ lock % 10 → e + 10 ≤ length xs → IsRun xs (e - 120)
    → (HasControl xs e → ⊥) → IsEdge xs e
edge_here xs lock e is past aligned within run not = record {
  lock = lock;
  is_lock = is;
  past = past;
  aligned = aligned;
  run = run;
  word = number (take 10 (drop e xs));
  here = window_here xs e _ (λ short. omega arith) refl;
  no_control = other_word xs e within not;
}

-- each edge from a place on lies at the next or past it
pub next_least : (xs : List Bool) (from n p : ℕ) → IsNextEdge xs from n → from ≤ p → IsEdge xs p → n ≤ p
next_least xs from n p next after edge = elim (cases_lt p n) [
  | inl less ↦ absurd (next.least p after less edge)
  | inr more ↦ more
]

-- the first edges of three lanes
pub first_reached : (xs ys zs : List Bool) (d e f : ℕ) → IsNextEdge xs 0 d → IsNextEdge ys 0 e → IsNextEdge zs 0 f → AreReached xs ys zs d e f
first_reached xs ys zs d e f first second third = record {
  blue = first.edge;
  green = second.edge;
  red = third.edge;
  before = λ p q r t.
      (next_least xs 0 d p first (omega arith) t.blue, next_least ys 0 e q second (omega arith) t.green, next_least zs 0 f r third (omega arith) t.red);
}

-- equal edges are first too
pub firsts_same : (xs ys zs : List Bool) (d e f p q r : ℕ) → d ≡ p → e ≡ q → f ≡ r → IsFirst xs ys zs d e f → IsFirst xs ys zs p q r
firsts_same xs ys zs d e f p q r a b c first =
    subst (λ n. IsFirst xs ys zs n q r) a (subst (λ n. IsFirst xs ys zs d n r) b (subst (λ n. IsFirst xs ys zs d e n) c first))
