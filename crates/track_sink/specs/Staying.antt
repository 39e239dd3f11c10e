-- An end that is found stays.
use Rattle.std.proofs.Common.{◌≡◌, ◌⊎◌, ℕ, ◌+◌, ◌≤◌, Bool, List, [], ◌++◌, length, sym, subst, arith, inl, inr, append-nil}
use Rattle.std.proofs.lemmas.Bool.{cases_lt}
use Rattle.lane_align.proofs.Controls.{run_within}
use Rattle.lane_track.specs.Strays.{IsStray}
use Rattle.lane_track.proofs.Strays.{stray_grows, stray_was}
use Rattle.link_sink.specs.Sinks.{Fed}
use Rattle.track_sink.specs.Epochs.{lane_of, IsEnd}
use Rattle.track_sink.specs.Tracks.{Grows}

-- a stray of a lane that has more bits, where its bits up to the end of the run had arrived or none arrived
pub was_stray : (xs ys more : List Bool) (p : ℕ) → ys ≡ xs ++ more → (p + 120 ≤ length xs) ⊎ (more ≡ []) → IsStray ys p → IsStray xs p
was_stray xs ys more p e known stray = grind (arith, stray_was, append-nil)

pub end_stays : (before now : Fed) (lane place : ℕ) → IsEnd before lane place → Grows before now → IsEnd now lane place
end_stays before now lane place end grows =
    let mine = grows lane end.within in
    let long = run_within (lane_of before lane) place end.stray.run in
    record {
      within = end.within;
      stray = subst (λ us. IsStray us place) (sym mine.1) (stray_grows (lane_of before lane) mine.0 place end.stray);
      least = λ l p lt stray.
          let that = grows l lt in
          elim (cases_lt place p) [
            | inl more ↦ inl more
            | inr few ↦
                let known : (p + 120 ≤ length (lane_of before l)) ⊎ (that.0 ≡ []) =
                elim that.2 [
                  | inl longest ↦ let h = longest lane end.within in inl (omega arith)
                  | inr none ↦ inr none
                ] in
                end.least l p lt (was_stray (lane_of before l) (lane_of now l) that.0 p that.1 known stray)
          ];
    }
