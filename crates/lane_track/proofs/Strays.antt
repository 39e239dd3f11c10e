-- Strays of all lists, and of calm lanes.
use Rattle.std.proofs.Common.{◌≡◌, ℕ, ◌+◌, ◌-◌, ◌*◌, ◌/◌, ◌%◌, ◌<◌, ◌≤◌, Bool, true, false, List, ◌++◌, length, take, drop, ap, ◌∙◌, sym, arith, inl, inr, length-drop}
use Rattle.std.proofs.lemmas.Bool.{cases_lt}
use Rattle.std.proofs.lemmas.List.{drop-drop}
use Rattle.tmds_word.specs.Bits.{number}
use Rattle.tmds_word.specs.Taps.{part_of}
use Rattle.terc4.specs.Tables.{is_control}
use Rattle.lane_align.specs.Lanes.{IsRun, IsLock}
use Rattle.lane_align.specs.Laws.{IsCalm}
use Rattle.lane_align.proofs.Controls.{one_lock, run_within}
use Rattle.lane_align.proofs.Calm.{control_is, tap_lock}
use Rattle.lane_align.proofs.Across.{none_across}
use Rattle.lane_track.specs.Strays.{IsStray, IsFirstStray, HasNoStray}
use Rattle.lane_align.proofs.Parts.{run_of_front, run_of_rest}
use Rattle.lane_track.proofs.Cutting.{run_grows, run_was}

-- where all runs lie whole characters apart there is no stray
pub none_apart : (xs : List Bool) (from : ℕ) → ((p : ℕ) → IsRun xs p → (p + from) % 10 ≡ 0) → HasNoStray xs
none_apart xs from whole p stray =
    let a = whole stray.lock stray.is_lock.run in
    let b = whole p stray.run in
    stray.apart (omega arith)

pub calm_has_none : (words : List ℕ) (marks : List Bool) → IsCalm words marks → (from many : ℕ) → HasNoStray (part_of words from many)
calm_has_none words marks calm from many = none_apart (part_of words from many) from (tap_lock words marks calm from many)

pub calm_rest_has_none : (words : List ℕ) (marks : List Bool) → IsCalm words marks → (from many z : ℕ)
    → HasNoStray (drop z (part_of words from many)) × HasNoStray (take z (part_of words from many))
calm_rest_has_none words marks calm from many z = (
  none_apart (drop z (part_of words from many)) (from + z)
      (λ p run. let h = tap_lock words marks calm from many (z + p) (run_of_rest z (part_of words from many) p run) in omega arith),
  none_apart (take z (part_of words from many)) from
      (λ p run. tap_lock words marks calm from many p (run_of_front z (part_of words from many) p run)),
)

-- two runs that lie no whole characters apart
runs_apart : (xs : List Bool) (lock p : ℕ) → IsRun xs lock → IsRun xs p → lock < p → p < lock + 110 → 0 < (p - lock) % 10 → ⊥
runs_apart xs lock p first second past near apart =
    let k = (p - lock) / 10 in
    let t = (p - lock) % 10 in
    let zs = drop (lock + 10 * k) xs in
    let within = run_within xs p second in
    let e : lock + 10 * k + 10 ≡ lock + 10 * (k + 1) = omega arith in
    let f : lock + 10 * k + t ≡ p + 10 * 0 = omega arith in
    let next : is_control (number (take 10 (drop 10 zs))) ≡ true =
    ap (λ ys. is_control (number (take 10 ys))) (drop-drop 10 (lock + 10 * k) xs ∙ ap (λ m. drop m xs) e) ∙ control_is xs (lock + 10 * (k + 1)) (first (k + 1) (omega arith)) in
    let here : is_control (number (take 10 (drop t zs))) ≡ true =
    ap (λ ys. is_control (number (take 10 ys))) (drop-drop t (lock + 10 * k) xs ∙ ap (λ m. drop m xs) f) ∙ control_is xs (p + 10 * 0) (second 0 (omega arith)) in
    let none = none_across zs t (omega (arith, length-drop (lock + 10 * k) xs)) apart (omega arith) (control_is xs (lock + 10 * k) (first k (omega arith))) next in
    let g : true ≡ false = sym here ∙ none in
    cc

pub stray_is_far : (xs : List Bool) (lock p : ℕ) → IsLock xs lock → IsStray xs p → lock + 111 ≤ p
stray_is_far xs lock p is_lock stray =
    let e : stray.lock ≡ lock = one_lock xs stray.lock lock stray.is_lock is_lock in
    let past = stray.past in
    let apart : (p - lock) % 10 ≡ 0 → ⊥ = λ h. stray.apart (omega arith) in
    elim (cases_lt p (lock + 111)) [
      | inr far ↦ far
      | inl near ↦ elim (cases_lt 0 ((p - lock) % 10)) [
        | inr none ↦ absurd (apart (omega arith))
        | inl some ↦ absurd (runs_apart xs lock p is_lock.run stray.run (omega arith) (omega arith) some)
      ]
    ]

-- the lock of a list stays
pub lock_grows : (xs ys : List Bool) (p : ℕ) → IsLock xs p → IsLock (xs ++ ys) p
lock_grows xs ys p lock =
    let within = run_within xs p lock.run in
    record { run = run_grows xs ys p lock.run; least = λ q less run. lock.least q less (run_was xs ys q (omega arith) run) }

pub stray_grows : (xs ys : List Bool) (p : ℕ) → IsStray xs p → IsStray (xs ++ ys) p
stray_grows xs ys p stray =
    record {
      lock = stray.lock;
      is_lock = lock_grows xs ys stray.lock stray.is_lock;
      past = stray.past;
      apart = stray.apart;
      run = run_grows xs ys p stray.run;
    }

-- a stray within a list of which more arrived
pub stray_was : (xs ys : List Bool) (p : ℕ) → p + 120 ≤ length xs → IsStray (xs ++ ys) p → IsStray xs p
stray_was xs ys p long stray =
    let past = stray.past in
    record {
      lock = stray.lock;
      is_lock = record {
        run = run_was xs ys stray.lock (omega arith) stray.is_lock.run;
        least = λ q less run. stray.is_lock.least q less (run_grows xs ys q run);
      };
      past = past;
      apart = stray.apart;
      run = run_was xs ys p long stray.run;
    }

pub stray_stays : (xs ys : List Bool) (p : ℕ) → IsFirstStray xs p → IsFirstStray (xs ++ ys) p
stray_stays xs ys p first =
    let within = run_within xs p first.stray.run in
    record { stray = stray_grows xs ys p first.stray; least = λ q less stray. first.least q less (stray_was xs ys q (omega arith) stray) }

pub one_stray : (xs : List Bool) (p q : ℕ) → IsFirstStray xs p → IsFirstStray xs q → p ≡ q
one_stray xs p q a b = elim (cases_lt p q) [
  | inl less ↦ absurd (b.least p less a.stray)
  | inr more ↦ elim (cases_lt q p) [
    | inl less ↦ absurd (a.least q less b.stray)
    | inr equal ↦ omega arith
  ]
]
