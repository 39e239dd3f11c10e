-- What a finder knows of the beginnings of control periods.
use Rattle.std.proofs.Common.{◌≡◌, ◌⊎◌, ℕ, ◌+◌, ◌-◌, ◌*◌, ◌%◌, ◌<◌, ◌≤◌, min, Bool, true, false, List, ◌++◌, length, Option, Some, None, refl, sym, subst, arith, inl, inr}
use Rattle.std.proofs.lemmas.Bool.{cases_lt}
use Rattle.lane_align.specs.Lanes.{HasControl, IsLock, IsEdge}
use Rattle.lane_align.proofs.Controls.{one_lock, control_within, not_both}
use Rattle.lane_align.proofs.Growing.{control_stays, control_was, lock_stays, lock_was}
use Rattle.lane_edges.specs.Begins.{IsBegin, IsBeginOf, IsLastBegin}
use Rattle.lane_edges.specs.Finders.{HasScanned, HasCounted, others_after}
use Rattle.lane_edges.specs.declared.finder.EdgeFinder.{EdgeFinder}

-- a beginning lies whole characters past the run of the lock
pub begin_apart : (xs : List Bool) (lock next q : ℕ) → IsLock xs lock → next % 10 ≡ lock % 10 → IsBegin xs q → q % 10 ≡ next % 10
begin_apart xs lock next q is_lock aligned b = let same = one_lock xs b.lock lock b.is_lock is_lock in let at = b.aligned in omega arith

-- the last beginning before one place is that before another, where none lies between
pub begun_until : (xs : List Bool) (next m : ℕ) (begun : Option ℕ) → next ≤ m → ((q : ℕ) → next ≤ q → q < m → IsBegin xs q → ⊥) → IsLastBegin xs next begun → IsLastBegin xs m begun
begun_until xs next m None more none known = λ q b. elim (cases_lt q m) [ inl less ↦ absurd (none q (known q b) less b) | inr past ↦ past ]
begun_until xs next m (Some p) more none known =
    let before = known.before in
    record {
      begins = known.begins;
      before = omega arith;
      last = λ r b lt. elim (cases_lt r next) [ inl less ↦ known.last r b less | inr past ↦ absurd (none r past lt b) ];
    }

pub begun_back : (xs : List Bool) (e m : ℕ) (begun : Option ℕ) → e ≤ m → ((q : ℕ) → e ≤ q → q < m → IsBegin xs q → ⊥) → IsLastBegin xs m begun → IsLastBegin xs e begun
begun_back xs e m None less none known = λ q b. let h = known q b in omega arith
begun_back xs e m (Some p) less none known = record {
  begins = known.begins;
  before = elim (cases_lt p e) [ inl before ↦ before | inr past ↦ absurd (none p past known.before known.begins) ];
  last = λ r b lt. known.last r b (omega arith);
}

-- past the run of a lock
pub counted_after : (xs : List Bool) (lock : ℕ) → IsLock xs lock → HasCounted xs lock (lock + 120) 0 None
counted_after xs lock is_lock = record {
  few = omega arith;
  past = omega arith;
  none = λ k lt. absurd (omega arith);
  control = λ lt. let e : lock + 10 * 11 ≡ lock + 120 - 10 - 10 * 0 = omega arith in subst (HasControl xs) e (is_lock.run 11 (omega arith));
  begun = λ lt q b. let same = one_lock xs b.lock lock b.is_lock is_lock in let past = b.past in omega arith;
}

module _ (xs : List Bool) (lock next others : ℕ) (begun : Option ℕ) (is_lock : IsLock xs lock) (aligned : next % 10 ≡ lock % 10) (was : HasCounted xs lock next others begun) where
  -- no beginning lies at one character
  still : (IsBegin xs next → ⊥) → IsLastBegin xs next begun → IsLastBegin xs (next + 10) begun
  still not known = begun_until xs next (next + 10) begun (omega arith)
      (λ q from less b. let apart = begin_apart xs lock next q is_lock aligned b in let e : q ≡ next = omega arith in not (subst (IsBegin xs) e b)) known

  -- one more control word
  counted_control : (now : Option ℕ) → (3 ≤ others → now ≡ Some next) → (others < 3 → now ≡ begun) → HasControl xs next → HasCounted xs lock (next + 10) 0 now
  counted_control now begins goes_on here =
      let past = was.past in
      record {
        few = omega arith;
        past = omega arith;
        none = λ k lt. absurd (omega arith);
        control = λ lt. let e : next ≡ next + 10 - 10 - 10 * 0 = omega arith in subst (HasControl xs) e here;
        begun = λ lt. elim (cases_lt others 3) [
          | inl few ↦ subst (IsLastBegin xs (next + 10)) (sym (goes_on few)) (still (λ b. b.others others few (was.control few)) (was.begun few))
          | inr many ↦ subst (IsLastBegin xs (next + 10)) (sym (begins many)) (record {
            begins = record { lock = lock; is_lock = is_lock; past = omega arith; aligned = aligned; control = here; others = λ k three. was.none k (omega arith) };
            before = omega arith;
            last = λ r b less. let apart = begin_apart xs lock next r is_lock aligned b in omega arith;
          })
        ];
      }

  -- one more that is none
  counted_other : (HasControl xs next → ⊥) → HasCounted xs lock (next + 10) (min (others + 1) 3) begun
  counted_other not =
      let past = was.past in
      let few = was.few in
      record {
        few = omega arith;
        past = omega arith;
        none = λ k lt has. elim (cases_lt 0 k) [
          | inl some ↦
              let e : next + 10 - 10 - 10 * k ≡ next - 10 - 10 * (k - 1) = omega arith in
              was.none (k - 1) (omega arith) (subst (HasControl xs) e has)
          | inr first ↦ let e : next + 10 - 10 - 10 * k ≡ next = omega arith in not (subst (HasControl xs) e has)
        ];
        control = λ lt.
            let e : next - 10 - 10 * others ≡ next + 10 - 10 - 10 * min (others + 1) 3 = omega arith in
            subst (HasControl xs) e (was.control (omega arith));
        begun = λ lt. still (λ b. not b.control) (was.begun (omega arith));
      }

  counted_by : (control : Bool) (now : Option ℕ) → (control ≡ true → 3 ≤ others → now ≡ Some next) → ((control ≡ false) ⊎ (others < 3) → now ≡ begun)
      → ((control ≡ true → HasControl xs next) × (HasControl xs next → control ≡ true)) → HasCounted xs lock (next + 10) (others_after others control) now
  counted_by true now begins goes_on is = counted_control now (begins refl) (λ few. goes_on (inr few)) (is.0 refl)
  counted_by false now begins goes_on is =
      subst (HasCounted xs lock (next + 10) (min (others + 1) 3)) (sym (goes_on (inl refl))) (counted_other (λ has. let e : false ≡ true = is.1 has in cc))

-- after one more character
pub counted_more : (xs : List Bool) (lock : ℕ) (before now : EdgeFinder) (control : Bool) → IsLock xs lock → before.next % 10 ≡ lock % 10
    → HasCounted xs lock before.next before.others before.begun → now.next ≡ before.next + 10 → now.others ≡ others_after before.others control
    → (control ≡ true → 3 ≤ before.others → now.begun ≡ Some before.next) → ((control ≡ false) ⊎ (before.others < 3) → now.begun ≡ before.begun)
    → ((control ≡ true → HasControl xs before.next) × (HasControl xs before.next → control ≡ true)) → HasCounted xs lock now.next now.others now.begun
counted_more xs lock before now control is_lock aligned was at others begins goes_on is =
    subst (λ n. HasCounted xs lock n now.others now.begun) (sym at)
    (subst (λ n. HasCounted xs lock (before.next + 10) n now.begun) (sym others)
    (counted_by xs lock before.next before.others before.begun is_lock aligned was control now.begun begins goes_on is))

-- three others run up to a later place
pub counted_others : (xs : List Bool) (lock next others : ℕ) (begun : Option ℕ) → 3 ≤ others → others ≤ 3 → lock + 150 ≤ next
    → ((k : ℕ) → k < 3 → HasControl xs (next - 10 - 10 * k) → ⊥) → HasCounted xs lock next others begun
counted_others xs lock next others begun many few past three = record {
  few = few;
  past = omega arith;
  none = λ k lt. three k (omega arith);
  control = λ lt. absurd (omega arith);
  begun = λ lt. absurd (omega arith);
}

-- control words run up to a later place
pub counted_controls : (xs : List Bool) (lock next m others : ℕ) (begun : Option ℕ) → IsLock xs lock → next % 10 ≡ lock % 10 → next ≤ m → HasControl xs (next - 10) → HasControl xs (m - 10)
    → ((q : ℕ) → next ≤ q → q < m → q % 10 ≡ next % 10 → HasControl xs (q - 10)) → HasCounted xs lock next others begun → HasCounted xs lock m others begun
counted_controls xs lock next m others begun is_lock aligned more first last between was = elim (cases_lt 0 others) [
  | inl some ↦ let e : next - 10 ≡ next - 10 - 10 * 0 = omega arith in absurd (was.none 0 some (subst (HasControl xs) e first))
  | inr none ↦
      let past = was.past in
      record {
        few = was.few;
        past = omega arith;
        none = λ k lt. absurd (omega arith);
        control = λ lt. let e : m - 10 ≡ m - 10 - 10 * others = omega arith in subst (HasControl xs) e last;
        begun = λ lt. begun_until xs next m begun more (λ q from less b.
            let e : q - 10 ≡ q - 10 - 10 * 0 = omega arith in
            b.others 0 (omega arith) (subst (HasControl xs) e (between q from less (begin_apart xs lock next q is_lock aligned b)))) (was.begun lt);
      }
]

-- Of a lane that grows.

module _ (xs us more : List Bool) (grown : us ≡ xs ++ more) where
  pub begin_stays : (q : ℕ) → IsBegin xs q → IsBegin us q
  begin_stays q b =
      let long = control_within xs q b.control in
      record {
        lock = b.lock;
        is_lock = lock_stays xs us more grown b.lock b.is_lock;
        past = b.past;
        aligned = b.aligned;
        control = control_stays xs us more grown q b.control;
        others = λ k lt has. b.others k lt (control_was xs us more grown (q - 10 - 10 * k) (omega arith) has);
      }

  pub begin_was : (q : ℕ) → q + 10 ≤ length xs → IsBegin us q → IsBegin xs q
  begin_was q long b =
      let past = b.past in
      record {
        lock = b.lock;
        is_lock = lock_was xs us more grown b.lock (omega arith) b.is_lock;
        past = past;
        aligned = b.aligned;
        control = control_was xs us more grown q long b.control;
        others = λ k lt has. b.others k lt (control_stays xs us more grown (q - 10 - 10 * k) has);
      }

  -- the last one before an edge
  pub begin_of_stays : (e q : ℕ) → e + 10 ≤ length xs → IsBeginOf xs e q → IsBeginOf us e q
  begin_of_stays e q long b = record {
    begins = begin_stays q b.begins;
    before = b.before;
    last = λ r other lt. b.last r (begin_was r (omega arith) other) lt;
  }

  pub begin_of_was : (e q : ℕ) → e + 10 ≤ length xs → IsBeginOf us e q → IsBeginOf xs e q
  begin_of_was e q long b =
      let before = b.before in
      record {
        begins = begin_was q (omega arith) b.begins;
        before = before;
        last = λ r other lt. b.last r (begin_stays r other) lt;
      }

  last_begin_stays : (e : ℕ) (found : Option ℕ) → ((r : ℕ) → IsBegin us r → r < e → r + 10 ≤ length xs) → IsLastBegin xs e found → IsLastBegin us e found
  last_begin_stays e None within none = λ q b. elim (cases_lt q e) [
    | inl less ↦ let h = none q (begin_was q (within q b less) b) in omega arith
    | inr past ↦ past
  ]
  last_begin_stays e (Some p) within is = record { begins = begin_stays p is.begins; before = is.before; last = λ r b lt. is.last r (begin_was r (within r b lt) b) lt }

  pub counted_grows : (lock next others : ℕ) (begun : Option ℕ) → IsLock us lock → next % 10 ≡ lock % 10 → next ≤ length xs → HasCounted xs lock next others begun
      → HasCounted us lock next others begun
  counted_grows lock next others begun is_lock aligned long was =
      let past = was.past in
      record {
        few = was.few;
        past = past;
        none = λ k lt has. was.none k lt (control_was xs us more grown (next - 10 - 10 * k) (omega arith) has);
        control = λ lt. control_stays xs us more grown (next - 10 - 10 * others) (was.control lt);
        begun = λ lt. last_begin_stays next begun (λ r b less. let apart = begin_apart us lock next r is_lock aligned b in omega arith) (was.begun lt);
      }

-- At an edge that was found.

-- the next character is that after it: the last beginning before that is the last before the edge
pub begun_at_edge : (xs : List Bool) (lock e : ℕ) (finder : EdgeFinder) → HasScanned xs lock finder → IsEdge xs e → finder.next ≡ e + 10 → IsLastBegin xs e finder.begun
begun_at_edge xs lock e finder was edge at =
    let counted = was.counted in
    let past = edge.past in
    let last : HasControl xs (e - 10) = let p : e - 120 + 10 * 11 ≡ e - 10 = omega arith in subst (HasControl xs) p (edge.run 11 (omega arith)) in
    let few : finder.others < 3 = elim (cases_lt finder.others 3) [
      | inl few ↦ few
      | inr many ↦ let p : e - 10 ≡ finder.next - 10 - 10 * 1 = omega arith in absurd (counted.none 1 (omega arith) (subst (HasControl xs) p last))
    ] in
    begun_back xs e finder.next finder.begun (omega arith)
    (λ q from less b.
    let apart = begin_apart xs lock finder.next q was.is_lock was.aligned b in
    let p : q ≡ e = omega arith in
    not_both xs e edge.word edge.here edge.no_control (subst (HasControl xs) p b.control))
    (counted.begun few)
