-- A lane with nineteen control characters before a place, and none there: in what is left of it from a place on that has the
-- last twelve of them, that place is an edge, where no stray lies before them.
use Rattle.std.proofs.Common.{◌≡◌, ◌⊎◌, ℕ, ◌+◌, ◌-◌, ◌*◌, ◌/◌, ◌%◌, ◌<◌, ◌≤◌, Bool, true, false, List, take, drop, ap, ◌∙◌, sym, subst, arith, inl, inr, Some, length-drop, true≢false}
use native.Mathlib.Decide.{ℕ_discrete}
use Rattle.std.proofs.lemmas.Bool.{cases_lt}
use Rattle.tmds_word.specs.Bits.{number, window}
use Rattle.terc4.specs.Tables.{is_control}
use Rattle.lane_align.specs.Lanes.{HasControl, IsRun, IsLock, IsEdge}
use Rattle.lane_align.proofs.Across.{none_across}
use Rattle.lane_align.proofs.Calm.{control_is, tap_lock}
use Rattle.lane_align.proofs.Controls.{control_within, not_both, one_lock}
use Rattle.lane_align.proofs.Parts.{rest_piece, run_in_rest, run_of_rest}
use Rattle.link_sink.proofs.Decided.{lock_of_run}
use Rattle.lane_track.specs.Strays.{IsStray, HasNoStray}
use Rattle.relock_laws.specs.Settled.{EndsNineteen, IsCalmFrom}
use Rattle.relock_laws.proofs.Windows.{back_window, rest_window}

-- no control word begins between two neighbouring ones
between : (xs : List Bool) (p t : ℕ) → HasControl xs p → HasControl xs (p + 10) → 0 < t → t < 10 → HasControl xs (p + t) → ⊥
between xs p t first second some few across =
    let within = control_within xs (p + 10) second in
    let len = length-drop p xs in
    let next : is_control (number (take 10 (drop 10 (drop p xs)))) ≡ true = ap (λ ys. is_control (number ys)) (rest_piece p 10 xs) ∙ control_is xs (p + 10) second in
    let none = none_across (drop p xs) t (omega arith) some few (control_is xs p first) next in
    true≢false (sym (control_is xs (p + t) across) ∙ sym (ap (λ ys. is_control (number ys)) (rest_piece p t xs)) ∙ none)

-- so a control word among the nineteen begins where one of them does
whole : (xs : List Bool) (e p : ℕ) → EndsNineteen xs e → e ≤ p + 190 → p + 20 ≤ e → HasControl xs p → (p + 190 - e) % 10 ≡ 0
whole xs e p good low high has = elim (ℕ_discrete ((p + 190 - e) % 10) 0) [
  | yes same ↦ same
  | no apart ↦
      let begins = good.begins in
      let k = (p + 190 - e) / 10 in
      let t = (p + 190 - e) % 10 in
      let q = e - 190 + 10 * k in
      let a : e - 190 + 10 * (k + 1) ≡ q + 10 = omega arith in
      let b : p ≡ q + t = omega arith in
      absurd (between xs q t (good.controls k (omega arith)) (subst (HasControl xs) a (good.controls (k + 1) (omega arith))) (omega arith) (omega arith) (subst (HasControl xs) b has))
]

-- the runs among them
run_at : (xs : List Bool) (e j : ℕ) → EndsNineteen xs e → j ≤ 7 → IsRun xs (e - 190 + 10 * j)
run_at xs e j good le k lt =
    let a : e - 190 + 10 * (j + k) ≡ e - 190 + 10 * j + 10 * k = omega arith in
    subst (HasControl xs) a (good.controls (j + k) (omega arith))

-- the lanes' edges are at most so far apart
pub record HasLast (xs : List Bool) (e least z : ℕ) : Type 0 where
  pub good : EndsNineteen xs e
  pub word : ℕ
  pub here : window xs e ≡ Some word
  pub no_control : is_control word ≡ false
  pub after : z + 120 ≤ least
  pub low : least ≤ e
  pub high : e ≤ least + 70
  pub no_stray : (p : ℕ) → IsStray (drop z xs) p → least < z + p + 120

-- the lock lies whole characters before
lock_whole : (xs : List Bool) (e least z lock : ℕ) → HasLast xs e least z → IsLock (drop z xs) lock → lock + z + 120 ≤ e → (e - z) % 10 ≡ lock % 10
lock_whole xs e least z lock h is_lock before = elim (cases_lt (lock + z + 190) e) [
  | inr among ↦
      let has = run_of_rest z xs lock is_lock.run 0 (omega arith) in
      let a : z + lock + 10 * 0 ≡ z + lock = omega arith in
      let begins = h.good.begins in
      let even = whole xs e (z + lock) h.good (omega arith) (omega arith) (subst (HasControl xs) a has) in
      omega arith
  | inl earlier ↦
      let begins = h.good.begins in
      let low = h.low in
      let high = h.high in
      let p = e - 190 - z in
      let at : e - 190 + 10 * 0 ≡ z + p = omega arith in
      let run : IsRun (drop z xs) p = run_in_rest z xs p (subst (IsRun xs) at (run_at xs e 0 h.good (omega arith))) in
      elim (ℕ_discrete (p % 10) (lock % 10)) [
        | yes same ↦ omega arith
        | no apart ↦ let near = h.no_stray p (record { lock = lock; is_lock = is_lock; past = omega arith; apart = apart; run = run }) in absurd (omega arith)
      ]
]

pub edge_at : (xs : List Bool) (e least z : ℕ) → HasLast xs e least z → IsEdge (drop z xs) (e - z)
edge_at xs e least z h =
    let begins = h.good.begins in
    let after = h.after in
    let low = h.low in
    let p = e - z - 120 in
    let at : e - 190 + 10 * 7 ≡ z + p = omega arith in
    let run : IsRun (drop z xs) p = run_in_rest z xs p (subst (IsRun xs) at (run_at xs e 7 h.good (omega arith))) in
    let lock = lock_of_run (drop z xs) p run in
    let le : lock.0 ≤ p = elim (cases_lt p lock.0) [
      | inr le ↦ le
      | inl less ↦ absurd {A = lock.0 ≤ p} (lock.1.least p less run)
    ] in
    record {
      lock = lock.0;
      is_lock = lock.1;
      past = omega arith;
      aligned = lock_whole xs e least z lock.0 h lock.1 (omega arith);
      run = run;
      word = h.word;
      here = rest_window z xs e h.word (omega arith) h.here;
      no_control = h.no_control;
    }

-- an edge before that one lies before the nineteen
pub earlier_edge : (xs : List Bool) (e least z g : ℕ) → HasLast xs e least z → IsEdge (drop z xs) g → z + g ≤ e → (z + g ≡ e) ⊎ (z + g + 200 ≤ e)
earlier_edge xs e least z g h edge le = elim (ℕ_discrete (z + g) e) [
  | yes same ↦ inl same
  | no apart ↦
      let mine = edge_at xs e least z h in
      let same = one_lock (drop z xs) edge.lock mine.lock edge.is_lock mine.is_lock in
      let a = edge.aligned in
      let b = mine.aligned in
      let c = h.low in
      let d = h.after in
      let begins = h.good.begins in
      elim (cases_lt e (z + g + 200)) [
        | inr far ↦ inr far
        | inl near ↦
            let k = 19 - (e - z - g) / 10 in
            let at : e - 190 + 10 * k ≡ z + g = omega arith in
            let run : HasControl xs (z + g) = subst (HasControl xs) at (h.good.controls k (omega arith)) in
            absurd (not_both xs (z + g) edge.word (back_window z xs g edge.word edge.here) edge.no_control run)
      ]
]

-- where the lane is calm from the nineteen on, it has no stray
pub calm_none : (xs : List Bool) (e least z : ℕ) → HasLast xs e least z → IsCalmFrom xs e → HasNoStray (drop z xs)
calm_none xs e least z h c p stray =
    let begins = h.good.begins in
    let after = h.after in
    let low = h.low in
    let high = h.high in
    let near = h.no_stray p stray in
    let edge = edge_at xs e least z h in
    let same = one_lock (drop z xs) stray.lock edge.lock stray.is_lock edge.is_lock in
    let aligned = edge.aligned in
    let start = e - 190 in
    let at : e - 190 + 10 * 0 ≡ start + 0 = omega arith in
    let first : IsRun (drop start xs) 0 = run_in_rest start xs 0 (subst (IsRun xs) at (run_at xs e 0 h.good (omega arith))) in
    let here : z + p ≡ start + (z + p - start) = omega arith in
    let run : IsRun (drop start xs) (z + p - start) = run_in_rest start xs (z + p - start) (subst (IsRun xs) here (run_of_rest z xs p stray.run)) in
    let a = tap_lock c.words c.marks c.calm c.from c.many 0 (subst (λ us. IsRun us 0) c.part first) in
    let b = tap_lock c.words c.marks c.calm c.from c.many (z + p - start) (subst (λ us. IsRun us (z + p - start)) c.part run) in
    stray.apart (omega arith)
