-- A control period that is received whole: an earlier alignment with another skew is doubted there.
use Rattle.std.proofs.Common.{◌≡◌, ℕ, ◌+◌, ◌-◌, ◌*◌, ◌/◌, ◌<◌, ◌≤◌, Bool, true, false, List, Option, Some, ap, ◌∙◌, sym, subst, arith, inl, inr, true≢false}
use Rattle.std.proofs.lemmas.Bool.{cases_lt}
use Rattle.tmds_word.specs.Bits.{window}
use Rattle.terc4.specs.Tables.{is_control}
use Rattle.lane_align.specs.Lanes.{HasControl, IsEdge}
use Rattle.lane_align.proofs.Controls.{one_lock}
use Rattle.lane_align.proofs.Edges.{control_no_edge}
use Rattle.lane_edges.specs.Begins.{IsBeginOf}
use Rattle.relock_laws.specs.Settled.{EndsNineteen}
use Rattle.relock_laws.specs.Refuted.{GoesOn}
use Rattle.relock_laws.specs.Doubted.{IsWholeRun, DoubtsAtWhole}
use Rattle.relock_laws.proofs.Refuting.{whole_apart, contends}

-- One lane.

-- none do shortly after it where no control words follow
pub no_edge_after : (xs : List Bool) (i b : ℕ) → IsEdge xs i → GoesOn xs i → IsEdge xs b → i < b → b ≤ i + 140 → ⊥
no_edge_after xs i b own on edge later near =
    let same = whole_apart xs b i edge own in
    let begins = edge.past in
    let last = edge.run 11 (omega arith) in
    let k = (b - 10 - i) / 10 in
    let at : i + 10 * k ≡ b - 120 + 10 * 11 = omega arith in
    true≢false (sym last.control ∙ on.payload k last.word (omega arith) (ap (window xs) at ∙ last.here))

not_both : (o : Option ℕ) (v w : ℕ) → o ≡ Some v → o ≡ Some w → is_control v ≡ true → is_control w ≡ false → ⊥
not_both o v w here there is apart = cc

-- near the end of a good control period after which no control words follow there is no other edge
pub near_edge : (xs : List Bool) (i b : ℕ) → IsEdge xs i → EndsNineteen xs i → GoesOn xs i → IsEdge xs b → i ≤ b + 140 → b ≤ i + 140 → b ≡ i
near_edge xs i b own good on edge low high = elim (cases_lt i b) [
  | inl later ↦ absurd (no_edge_after xs i b own on edge later high)
  | inr upto ↦ elim (cases_lt b i) [
    | inr not ↦ omega arith
    | inl early ↦
        let same = whole_apart xs b i edge own in
        let begins = good.begins in
        let k = (b + 190 - i) / 10 in
        let at : i - 190 + 10 * k ≡ b = omega arith in
        let c = good.controls k (omega arith) in
        absurd (not_both (window xs b) c.word edge.word (subst (λ p. window xs p ≡ Some c.word) at c.here) edge.here c.control edge.no_control)
  ]
]

-- An earlier edge.

-- what comes before an edge, as far as there are characters: so many control characters, and three others before them
pub record IsRunHere (xs : List Bool) (d n : ℕ) : Type 0 where
  pub controls : (k : ℕ) → k < n → 10 * k + 10 ≤ d → HasControl xs (d - 10 - 10 * k)
  pub others : (k : ℕ) → k < 3 → 10 * n + 10 + 10 * k ≤ d → HasControl xs (d - 10 * n - 10 - 10 * k) → ⊥

-- an earlier edge lies before all of these
pub own_early : (xs : List Bool) (p d n : ℕ) → IsEdge xs p → IsEdge xs d → p < d → IsRunHere xs d n → p + 10 * n + 30 ≤ d
own_early xs p d n own edge later run =
    let same = whole_apart xs p d own edge in
    let past = own.past in
    let m = (d - p) / 10 in
    let last : HasControl xs (p - 10) = let at : p - 120 + 10 * 11 ≡ p - 10 = omega arith in subst (HasControl xs) at (own.run 11 (omega arith)) in
    elim (cases_lt n m) [
      | inr inside ↦
          let at : d - 10 - 10 * (m - 1) ≡ p = omega arith in
          absurd (control_no_edge xs p (subst (HasControl xs) at (run.controls (m - 1) (omega arith) (omega arith))) own)
      | inl before ↦ elim (cases_lt (n + 2) m) [
        | inl far ↦ omega arith
        | inr near ↦
            let k = m - n in
            let at : p - 10 ≡ d - 10 * n - 10 - 10 * k = omega arith in
            absurd (run.others k (omega arith) (omega arith) (subst (HasControl xs) at last))
      ]
    ]

pub run_here : (xs : List Bool) (d n : ℕ) → IsWholeRun xs d n → IsRunHere xs d n
run_here xs d n run = record { controls = λ k lt long. run.controls k lt; others = λ k lt long. run.others k lt }

-- the period begins so many characters before its edge
begins_there : (xs : List Bool) (p d n : ℕ) → IsEdge xs p → IsEdge xs d → p < d → IsWholeRun xs d n → IsBeginOf xs d (d - 10 * n)
begins_there xs p d n own edge later run =
    let early = own_early xs p d n own edge later (run_here xs d n run) in
    let same = whole_apart xs p d own edge in
    let past = own.past in
    let aligned = own.aligned in
    let long = run.begins in
    let some : 0 < n = elim (cases_lt 0 n) [
      | inl some ↦ some
      | inr none ↦
          let at : d - 120 + 10 * 11 ≡ d - 10 * n - 10 - 10 * 0 = omega arith in
          absurd (run.others 0 (omega arith) (subst (HasControl xs) at (edge.run 11 (omega arith))))
    ] in
    record {
      begins = record {
        lock = own.lock;
        is_lock = own.is_lock;
        past = omega arith;
        aligned = omega arith;
        control = let at : d - 10 - 10 * (n - 1) ≡ d - 10 * n = omega arith in subst (HasControl xs) at (run.controls (n - 1) (omega arith));
        others = run.others;
      };
      before = omega arith;
      last = λ r b less. elim (cases_lt (d - 10 * n) r) [
        | inr not ↦ not
        | inl past ↦
            let one = one_lock xs b.lock own.lock b.is_lock own.is_lock in
            let there = b.aligned in
            let k = (d - r) / 10 in
            let at : d - 10 - 10 * k ≡ r - 10 - 10 * 0 = omega arith in
            absurd (b.others 0 (omega arith) (subst (HasControl xs) at (run.controls k (omega arith))))
      ];
    }

pub doubts_at_whole : DoubtsAtWhole
doubts_at_whole fed p q r d e f n own w x y z other =
    let t = own.first.triple in
    let u = w.period.triple in
    record {
      contender = contends fed p q r d e f own w.period x y z other;
      begins = record {
        bits = 10 * n;
        blue = begins_there fed.blue p d n t.blue u.blue x w.blue;
        green = begins_there fed.green q e n t.green u.green y w.green;
        red = begins_there fed.red r f n t.red u.red z w.red;
      };
    }
