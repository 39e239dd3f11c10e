-- What was looked through of lanes that grow, and where an end of them lies.
use Rattle.std.proofs.Common.{◌≡◌, ◌⊎◌, ℕ, suc, zero, ◌+◌, ◌<◌, ◌≤◌, Bool, List, ◌++◌, length, Option, Some, None, ap, ◌∙◌, sym, subst, arith, inl, inr, append-nil}
use Rattle.std.specs.Prelude.{MatchOption}
use Rattle.std.proofs.lemmas.Bool.{cases_lt}
use Rattle.lane_align.specs.Lanes.{IsRun, IsLock}
use Rattle.lane_track.specs.Strays.{IsStray}
use Rattle.lane_track.specs.Scouts.{HasSought}
use Rattle.lane_track.proofs.Cutting.{run_was}
use Rattle.lane_track.proofs.Strays.{lock_grows, stray_was}
use Rattle.link_sink.specs.Sinks.{Fed}
use Rattle.track_sink.specs.Epochs.{lane_of, most_of, IsEnd}
use Rattle.track_sink.specs.Seeking.{AreSought, IsSought}
use Rattle.track_sink.specs.Tracks.{Grows}
use Rattle.track_sink.specs.declared.strays.Strays.{Strays}
use Rattle.track_sink.specs.Feds.{longest_is, most_grows}

-- where the places before one are all decided, more bits change nothing there
lock_stays : (xs ys : List Bool) (seen : ℕ) (lock : Option ℕ) → ((p : ℕ) → p < seen → p + 120 ≤ length xs) → MatchOption lock ((p : ℕ) → p < seen → IsRun xs p → ⊥) (λ l. IsLock xs l × (l < seen))
    → MatchOption lock ((p : ℕ) → p < seen → IsRun (xs ++ ys) p → ⊥) (λ l. IsLock (xs ++ ys) l × (l < seen))
lock_stays xs ys seen None within none = λ p lt run. none p lt (run_was xs ys p (within p lt) run)
lock_stays xs ys seen (Some l) within is = (lock_grows xs ys l is.0, is.1)

sought_grows : (xs ys : List Bool) (seen : ℕ) (lock : Option ℕ) → (seen ≡ 0) ⊎ (seen + 119 ≤ length xs) → HasSought xs seen lock → HasSought (xs ++ ys) seen lock
sought_grows xs ys seen lock known was =
    let within : (p : ℕ) → p < seen → p + 120 ≤ length xs = λ p lt. elim known [ inl none ↦ absurd (omega arith) | inr long ↦ omega arith ] in
    record { lock = lock_stays xs ys seen lock within was.lock; none = λ p lt stray. was.none p lt (stray_was xs ys p (within p lt) stray) }

-- a lane of them: the longest so far, or one that stays
lane_sought : (before now : Fed) (l seen : ℕ) (lock : Option ℕ) → l < 3 → (seen ≡ 0) ⊎ (seen + 119 ≤ most_of before) → Grows before now → HasSought (lane_of before l) seen lock → HasSought (lane_of now l) seen lock
lane_sought before now l seen lock lt decided grows was =
    let a = grows l lt in
    let P : List Bool → Type 0 = λ us. HasSought us seen lock in
    elim a.2 [
      | inl longest ↦
          let long : most_of before ≤ length (lane_of before l) = longest_is before (most_of before ≤ length (lane_of before l)) (λ m few e. let h = longest m few in omega arith) in
          subst P (sym a.1) (sought_grows (lane_of before l) a.0 seen lock (elim decided [ inl none ↦ inl none | inr far ↦ inr (omega arith) ]) was)
      | inr none ↦ subst P (sym (a.1 ∙ ap (λ us. lane_of before l ++ us) none ∙ append-nil (lane_of before l))) was
    ]

pub sought_on : (w : Strays) (before now : Fed) → IsSought w before → Grows before now → IsSought w now
sought_on w before now was grows =
    let more = most_grows before now grows in
    record {
      sought = record {
        blue = lane_sought before now 0 w.seen w.blue.lock (omega arith) was.decided grows was.sought.blue;
        green = lane_sought before now 1 w.seen w.green.lock (omega arith) was.decided grows was.sought.green;
        red = lane_sought before now 2 w.seen w.red.lock (omega arith) was.decided grows was.sought.red;
      };
      decided = elim was.decided [ inl none ↦ inl none | inr far ↦ inr (omega arith) ];
    }

-- an end lies after the places that were looked at
pub end_after : (fed : Fed) (w : Strays) (seen lane place : ℕ) → AreSought w seen fed → IsEnd fed lane place → seen ≤ place
end_after fed w seen lane place sought end = elim (cases_lt place seen) [
  | inr after ↦ after
  | inl before ↦ absurd (on_lane lane before end.stray)
]
  where
    on_lane : (l : ℕ) → place < seen → IsStray (lane_of fed l) place → ⊥
    on_lane zero lt stray = sought.blue.none place lt stray
    on_lane (suc zero) lt stray = sought.green.none place lt stray
    on_lane (suc (suc l)) lt stray = sought.red.none place lt stray
