-- A slip within a line is noticed, or it is not.
use Rattle.std.proofs.Common.{◌≡◌, ◌⊎◌, ℕ, ◌+◌, ◌-◌, ◌*◌, ◌<◌, ◌≤◌, true, arith, inl, inr}
use Rattle.std.specs.Prelude.{slice_index}
use mathlib.Core.Logic.Dec.{and as both}
use native.Mathlib.Decide.{dec_le}
use Rattle.std.proofs.Math.Bool.{Bool-discrete}
use Rattle.std.proofs.lemmas.Bool.{cases_lt}
use Rattle.terc4.specs.Tables.{is_control}
use Rattle.lane_align.specs.Lanes.{IsRun}
use Rattle.link_sink.proofs.Decided.{IsLeast, each_below, least_or_none}
use Rattle.track_sink.specs.Epochs.{lane_of}
use Rattle.track_sink.specs.Ends.{run_decided}
use Rattle.track_laws.specs.Laws.{words_at}
use Rattle.hdmi_cli.specs.Headline.{TappedStream}
use Rattle.hdmi_cli.specs.TrackPasses.{EndsBeforeTwelve, HasNoLockBefore, IsLockBefore, IsNoticedOrNot, IsUnnoticed}
use Rattle.hdmi_cli.specs.TrackSlip.{IsNoticed, LineSlip, lanes_of}

-- a lane had a lock before a place, or it had none
lock_or_none : (t : TappedStream) (s : LineSlip) → ((lock : ℕ) × IsLockBefore t s lock) ⊎ HasNoLockBefore t s
lock_or_none t s = by (least_or_none (IsRun (lane_of (lanes_of t) s.lane)) (s.place - 119) (run_decided (lane_of (lanes_of t) s.lane)))
  where
    by : ((p : ℕ) × IsLeast (IsRun (lane_of (lanes_of t) s.lane)) (s.place - 119) p) ⊎ ((p : ℕ) → p < s.place - 119 → IsRun (lane_of (lanes_of t) s.lane) p → ⊥)
        → ((lock : ℕ) × IsLockBefore t s lock) ⊎ HasNoLockBefore t s
    by (inl least) = inl (least.0, (record { run = least.1.here; least = least.1.least }, let below = least.1.below in omega arith))
    by (inr none) = inr (λ lock is. let before = is.1 in none lock (omega arith) is.0.run)

-- so many pixels right before the control period were received as control characters, and the lane has twelve characters from there on
abbrev HasTwelve : TappedStream → LineSlip → ℕ → Type 0
HasTwelve t s early =
    ((k : ℕ) → k < early → is_control (slice_index (words_at t.received s.lane) (s.next - 1 - k)) ≡ true)
    × (10 * (s.next - early + 12) ≤ t.offset + slice_index t.skews s.lane + slice_index t.counts s.lane)

twelve_or_not : (t : TappedStream) (s : LineSlip) → ((early : ℕ) × (early ≤ 2) × HasTwelve t s early) ⊎ EndsBeforeTwelve t s
twelve_or_not t s = by (least_or_none (HasTwelve t s) 3 decided)
  where
    decided : (early : ℕ) → Dec (HasTwelve t s early)
    decided early = both (each_below (λ k. is_control (slice_index (words_at t.received s.lane) (s.next - 1 - k)) ≡ true) early
        (λ k. Bool-discrete (is_control (slice_index (words_at t.received s.lane) (s.next - 1 - k))) true)) (dec_le _ _)

    by : ((early : ℕ) × IsLeast (HasTwelve t s) 3 early) ⊎ ((early : ℕ) → early < 3 → HasTwelve t s early → ⊥)
        → ((early : ℕ) × (early ≤ 2) × HasTwelve t s early) ⊎ EndsBeforeTwelve t s
    by (inl least) = inl (least.0, let below = least.1.below in omega arith, least.1.here)
    by (inr none) = inr (λ early few control.
        elim (cases_lt (t.offset + slice_index t.skews s.lane + slice_index t.counts s.lane) (10 * (s.next - early + 12))) [
          | inl short ↦ short
          | inr whole ↦ absurd (none early (omega arith) (control, whole))
        ])

not_both : (t : TappedStream) (s : LineSlip) → IsNoticed t s → IsUnnoticed t s → ⊥
not_both t s noticed (inl none) = none noticed.lock (noticed.is_lock, noticed.before)
not_both t s noticed (inr short) =
    let less = short noticed.early noticed.few noticed.control in
    let whole = noticed.whole in
    omega arith

pub noticed_or_not : (t : TappedStream) (s : LineSlip) → IsNoticedOrNot t s
noticed_or_not t s = (by (lock_or_none t s) (twelve_or_not t s), not_both t s)
  where
    by : ((lock : ℕ) × IsLockBefore t s lock) ⊎ HasNoLockBefore t s → ((early : ℕ) × (early ≤ 2) × HasTwelve t s early) ⊎ EndsBeforeTwelve t s
        → IsNoticed t s ⊎ IsUnnoticed t s
    by (inr none) twelve = inr (inl none)
    by (inl lock) (inr short) = inr (inr short)
    by (inl lock) (inl twelve) = inl (record {
      lock = lock.0;
      is_lock = lock.1.0;
      before = lock.1.1;
      early = twelve.0;
      few = twelve.1;
      control = twelve.2.0;
      whole = twelve.2.1;
    })
