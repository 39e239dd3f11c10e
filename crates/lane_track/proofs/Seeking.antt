-- What a scout knows after it looked at more places.
use Rattle.std.proofs.Common.{◌≡◌, ℕ, ◌+◌, ◌-◌, ◌%◌, ◌<◌, ◌≤◌, ◌↔◌, Bool, List, drop, Option, Some, None, sym, subst, arith, inl, inr}
use Rattle.std.specs.Prelude.{MatchOption}
use Rattle.std.proofs.lemmas.Bool.{cases_lt}
use Rattle.lane_align.specs.Lanes.{IsRun, IsLock}
use Rattle.lane_align.proofs.Controls.{one_lock}
use Rattle.lane_track.specs.Strays.{IsStray, IsFirstStray}
use Rattle.lane_align.specs.Search.{IsOther, IsFirstOther}
use Rattle.lane_track.specs.Scouts.{HoldsBits, HasSought}
use Rattle.lane_track.proofs.Strays.{stray_is_far}
use Rattle.lane_align.proofs.Parts.{run_of_front, run_in_front, run_of_rest, run_in_rest}

-- the runs of a lane are those of the bits that it is held in
run_held : (bits xs : List Bool) (base count p : ℕ) → HoldsBits bits xs base count → p + 120 ≤ count → IsRun bits p → IsRun xs (base + p)
run_held bits xs base count p holds long run =
    run_of_rest base xs p (run_of_front count (drop base xs) p (subst (λ ys. IsRun ys p) holds.same (run_in_front count bits p long run)))

held_run : (bits xs : List Bool) (base count p : ℕ) → HoldsBits bits xs base count → p + 120 ≤ count → IsRun xs (base + p) → IsRun bits p
held_run bits xs base count p holds long run =
    run_of_front count bits p (subst (λ ys. IsRun ys p) (sym holds.same) (run_in_front count (drop base xs) p long (run_in_rest base xs p run)))

-- after the first bits there is no run
pub none_past : (bits : List Bool) (skip from until phase other : ℕ) → ((k : ℕ) → (skip + k) % 10 ≡ other ↔ k % 10 ≡ phase)
    → ((p : ℕ) → IsOther bits (skip + from) (skip + until) other p → ⊥) → (p : ℕ) → IsOther (drop skip bits) from until phase p → ⊥
none_past bits skip from until phase other same none p is = grind (arith, run_of_rest)

-- or the least one
pub first_past : (bits : List Bool) (skip from until phase other p : ℕ) → ((k : ℕ) → (skip + k) % 10 ≡ other ↔ k % 10 ≡ phase)
    → IsFirstOther bits (skip + from) (skip + until) other p → IsFirstOther (drop skip bits) from until phase (p - skip)
first_past bits skip from until phase other p same first =
    let after = first.other.after in
    let before = first.other.before in
    let e : skip + (p - skip) ≡ p = omega arith in
    record {
      other = grind (arith, run_in_rest);
      least = λ q less is.
          let from = is.after in
          let to = is.before in
          first.least (skip + q) (omega arith) (record { after = omega arith; before = omega arith; apart = λ h. is.apart ((same q).0 h); run = run_of_rest skip bits q is.run });
    }

-- no run in the stretch: there is no lock yet, and no stray
pub no_lock_yet : (bits : List Bool) (xs : List Bool) (base count from until : ℕ) → HoldsBits bits xs base count → until + 119 ≤ count
    → HasSought xs (base + from) None → ((p : ℕ) → IsOther bits from until 10 p → ⊥) → HasSought xs (base + until) None
no_lock_yet bits xs base count from until holds long was none =
    let no_run : (p : ℕ) → p < base + until → IsRun xs p → ⊥ =
    λ p lt run. elim (cases_lt p (base + from)) [
      | inl before ↦ was.lock p before run
      | inr here ↦
          let e : base + (p - base) ≡ p = omega arith in
          none (p - base) (record {
            after = omega arith;
            before = omega arith;
            apart = λ h. omega arith;
            run = held_run bits xs base count (p - base) holds (omega arith) (subst (IsRun xs) (sym e) run);
          })
    ] in
    record { lock = no_run; none = λ p lt stray. no_run p lt stray.run }

-- the least run of the stretch is the lock
pub lock_here : (bits : List Bool) (xs : List Bool) (base count from until p next : ℕ) → HoldsBits bits xs base count → until + 119 ≤ count
    → HasSought xs (base + from) None → IsFirstOther bits from until 10 p → p < next → next ≤ p + 111 → HasSought xs (base + next) (Some (base + p))
lock_here bits xs base count from until p next holds long was first more near =
    let before = first.other.before in
    let after = first.other.after in
    let lock : IsLock xs (base + p) = record {
      run = run_held bits xs base count p holds (omega arith) first.other.run;
      least = λ q less run. elim (cases_lt q (base + from)) [
        | inl early ↦ was.lock q early run
        | inr here ↦
            let e : base + (q - base) ≡ q = omega arith in
            first.least (q - base) (omega arith) (record {
              after = omega arith;
              before = omega arith;
              apart = λ h. omega arith;
              run = held_run bits xs base count (q - base) holds (omega arith) (subst (IsRun xs) (sym e) run);
            })
      ];
    } in
    record {
      lock = (lock, omega arith);
      none = λ q lt stray. let far = stray_is_far xs (base + p) q lock stray in omega arith;
    }

other_of : (bits : List Bool) (xs : List Bool) (base count from until phase lock p : ℕ) → HoldsBits bits xs base count → until + 119 ≤ count → (phase + base) % 10 ≡ lock % 10 → phase < 10
    → IsLock xs lock → base + from ≤ p → p < base + until → IsStray xs p → IsOther bits from until phase (p - base)
other_of bits xs base count from until phase lock p holds long same few is_lock after before stray =
    let e : base + (p - base) ≡ p = omega arith in
    grind (arith, one_lock, held_run)

-- with a lock: no other run in the stretch
pub none_more : (bits : List Bool) (xs : List Bool) (base count from until phase lock : ℕ) → HoldsBits bits xs base count → until + 119 ≤ count → (phase + base) % 10 ≡ lock % 10 → phase < 10
    → from ≤ until → HasSought xs (base + from) (Some lock) → ((p : ℕ) → IsOther bits from until phase p → ⊥) → HasSought xs (base + until) (Some lock)
none_more bits xs base count from until phase lock holds long same few order was none =
    let seen = was.lock.1 in
    record {
      lock = (was.lock.0, omega arith);
      none = λ p lt stray. elim (cases_lt p (base + from)) [
        | inl early ↦ was.none p early stray
        | inr here ↦ none (p - base) (other_of bits xs base count from until phase lock p holds long same few was.lock.0 here lt stray)
      ];
    }

-- the least other run is the first stray
pub stray_here : (bits : List Bool) (xs : List Bool) (base count from until phase lock p : ℕ) → HoldsBits bits xs base count → until + 119 ≤ count → (phase + base) % 10 ≡ lock % 10 → phase < 10
    → HasSought xs (base + from) (Some lock) → IsFirstOther bits from until phase p → IsFirstStray xs (base + p)
stray_here bits xs base count from until phase lock p holds long same few was first =
    let seen = was.lock.1 in
    let after = first.other.after in
    let before = first.other.before in
    record {
      stray = record {
        lock = lock;
        is_lock = was.lock.0;
        past = omega arith;
        apart = λ h. first.other.apart (omega arith);
        run = run_held bits xs base count p holds (omega arith) first.other.run;
      };
      least = λ q less stray. elim (cases_lt q (base + from)) [
        | inl early ↦ was.none q early stray
        | inr here ↦ first.least (q - base) (omega arith) (other_of bits xs base count from until phase lock q holds long same few was.lock.0 here (omega arith) stray)
      ];
    }

pub stray_after : (bits : List Bool) (xs : List Bool) (base count from until phase lock : ℕ) → HoldsBits bits xs base count → until + 119 ≤ count → (phase + base) % 10 ≡ lock % 10 → phase < 10
    → from ≤ until → HasSought xs (base + from) (Some lock) → (found : Option ℕ)
    → MatchOption found ((p : ℕ) → IsOther bits from until phase p → ⊥) (λ p. IsFirstOther bits from until phase p)
    → MatchOption found (HasSought xs (base + until) (Some lock)) (λ p. IsFirstStray xs (base + p))
stray_after bits xs base count from until phase lock holds long same few order was None none = none_more bits xs base count from until phase lock holds long same few order was none
stray_after bits xs base count from until phase lock holds long same few order was (Some p) first = stray_here bits xs base count from until phase lock p holds long same few was first
