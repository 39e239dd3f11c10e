-- Where one lane slips once within a line, the first alignment is not unconfirmed: so the epochs end where those of lanes do whose
-- alignments are always used.
use Rattle.std.proofs.Common.{◌≡◌, ◌⊎◌, ℕ, ◌+◌, ◌-◌, ◌<◌, ◌≤◌, Bool, List, ap, sym, subst, arith, inl, inr}
use Rattle.std.specs.Prelude.{slice_index}
use Rattle.tmds_word.specs.Column.{Column}
use Rattle.tmds_word.specs.Taps.{part_of, HasSmallSkew}
use Rattle.lane_align.specs.Lanes.{IsRun, IsLock}
use Rattle.island_pack.specs.Kinds.{kinds_of}
use Rattle.island_pack.specs.Periods.{Period}
use Rattle.link_laws.proofs.Freely.{free_received}
use Rattle.link_laws.proofs.Shapes.{alternating}
use Rattle.link_sink.proofs.Decided.{IsLeast, least_or_none}
use Rattle.link_sink.specs.Sinks.{Fed}
use Rattle.track_sink.specs.Ends.{run_decided}
use Rattle.track_sink.specs.Epochs.{lane_of, rest_of}
use Rattle.track_laws.specs.Laws.{Received, Slipped, SlipsInVideo, later_skews, words_at}
use Rattle.track_laws.proofs.Ends.{same_lane, slipped_is, other_lane}
use Rattle.track_laws.proofs.Noticed.{second_epoch}
use Rattle.track_laws.proofs.Slipping.{marks_at, received_at, calm_lanes, slips_at}
use Rattle.relock_sink.specs.Relocks.{IsUnconfirmed}
use Rattle.relock_laws.specs.Laws.{EndsAtSlip}
use Rattle.relock_laws.proofs.Last.{payload_confirmed}
use Rattle.relock_laws.proofs.Seen.{IsSeen, part_seen, AreClose, AreSeen, seen_confirmed}
use Rattle.relock_laws.proofs.SlipSeen.{kept_seen, passed_seen}

-- The skews.

-- before the slip they differ by up to 79 where those after it are small
before_slip : (offset : ℕ) (skews : List ℕ) (lane dropped : ℕ) → lane < 3 → dropped < 10 → HasSmallSkew (later_skews skews lane dropped)
    → AreClose (offset + slice_index skews 0) (offset + slice_index skews 1) × AreClose (offset + slice_index skews 0) (offset + slice_index skews 2)
before_slip offset skews lane dropped h k l = grind arith

-- they are as close where they are small
pub after_slip : (offset : ℕ) (skews : List ℕ) → HasSmallSkew skews
    → AreClose (offset + slice_index skews 0) (offset + slice_index skews 1) × AreClose (offset + slice_index skews 0) (offset + slice_index skews 2)
after_slip offset skews small = grind arith

pub later_own : (skews : List ℕ) (lane dropped : ℕ) → lane < 3 → slice_index (later_skews skews lane dropped) lane ≡ slice_index skews lane + dropped
later_own skews lane dropped h = grind arith

pub later_other : (skews : List ℕ) (lane dropped l : ℕ) → lane < 3 → l < 3 → (l ≡ lane → ⊥) → slice_index (later_skews skews lane dropped) l ≡ slice_index skews l
later_other skews lane dropped l h k apart = grind arith

-- The lanes.

-- a lane had a lock before a place, or it had none
lock_or_none : (xs : List Bool) (place : ℕ) → ((lock : ℕ) × IsLock xs lock × (lock + 120 ≤ place)) ⊎ ((lock : ℕ) → IsLock xs lock → lock + 120 ≤ place → ⊥)
lock_or_none xs place = by (least_or_none (IsRun xs) (place - 119) (run_decided xs))
  where
    by : ((p : ℕ) × IsLeast (IsRun xs) (place - 119) p) ⊎ ((p : ℕ) → p < place - 119 → IsRun xs p → ⊥)
        → ((lock : ℕ) × IsLock xs lock × (lock + 120 ≤ place)) ⊎ ((lock : ℕ) → IsLock xs lock → lock + 120 ≤ place → ⊥)
    by (inl least) = inl (least.0, record { run = least.1.here; least = least.1.least }, let below = least.1.below in omega arith)
    by (inr none) = inr (λ lock is before. none lock (omega arith) is.run)

-- the lanes after the slip, from places of theirs on
pub slip_seen : (ps : List Period) (sent received : List Column) (offset : ℕ) (skews counts : List ℕ) (x y : Fed) (lane place dropped first next : ℕ)
    → Received ps sent received offset skews counts x → Slipped x lane place dropped y
    → SlipsInVideo ps sent received offset skews counts lane place dropped first next
    → (from : ℕ → ℕ) × AreSeen ps received from y
slip_seen ps sent received offset skews counts x y lane place dropped first next reception slip s =
    let kinds = kinds_of ps in
    let alternates = alternating ps reception.reception.conforming in
    let from : ℕ → ℕ = λ l. offset + slice_index skews l in
    let many : ℕ → ℕ = λ l. slice_index counts l in
    let lanes = calm_lanes ps sent received offset skews counts x reception s.alone in
    let slips = slips_at ps sent received offset skews counts x y lane place dropped first next reception slip s in
    let mine = slipped_is x y (words_at received) (marks_at sent received) from many lane place dropped lanes slip in
    let r : (l : ℕ) → _ = λ l. received_at ps sent received reception.reception s.alone l in
    let other : (l : ℕ) → l < 3 → (l ≡ lane → ⊥) → IsSeen kinds (words_at received l) (from l) (lane_of y l) =
    λ l lt apart.
    subst (IsSeen kinds (words_at received l) (from l)) (sym (other_lane x y (words_at received) (marks_at sent received) from many lane place dropped lanes slip l lt apart))
    (part_seen kinds (words_at received l) (marks_at sent received l) alternates (r l) (from l) (many l)) in
    elim (lock_or_none (part_of (words_at received lane) (from lane) (many lane)) place) [
      | inl found ↦
          let own = kept_seen kinds (words_at received lane) (marks_at sent received lane) alternates (r lane) (from lane) (many lane) place dropped slips found.0 found.1 found.2 in
          let here : IsSeen kinds (words_at received lane) (from lane) (lane_of y lane) = subst (IsSeen kinds (words_at received lane) (from lane)) (sym mine) own in
          let close = before_slip offset skews lane dropped slip.within slip.few.1 s.small in (
            from,
            record {
              seen = λ l lt. elim (same_lane l lane) [
                | inl same ↦ subst (λ k. IsSeen kinds (words_at received k) (from k) (lane_of y k)) (sym same) here
                | inr apart ↦ other l lt apart
              ];
              blue_green = close.0;
              blue_red = close.1;
            },
          )
      | inr none ↦
          let own = passed_seen kinds (words_at received lane) (marks_at sent received lane) alternates (r lane) (from lane) (many lane) place dropped slips none in
          let later : ℕ → ℕ = λ l. offset + slice_index (later_skews skews lane dropped) l in
          let at : from lane + dropped ≡ later lane = omega (arith, later_own skews lane dropped slip.within) in
          let here : IsSeen kinds (words_at received lane) (later lane) (lane_of y lane) =
          subst (λ n. IsSeen kinds (words_at received lane) n (lane_of y lane)) at (subst (IsSeen kinds (words_at received lane) (from lane + dropped)) (sym mine) own) in
          let close = after_slip offset (later_skews skews lane dropped) s.small in (
            later,
            record {
              seen = λ l lt. elim (same_lane l lane) [
                | inl same ↦ subst (λ k. IsSeen kinds (words_at received k) (later k) (lane_of y k)) (sym same) here
                | inr apart ↦
                    subst (λ n. IsSeen kinds (words_at received l) n (lane_of y l)) (ap (λ n. offset + n) (sym (later_other skews lane dropped l slip.within lt apart))) (other l lt apart)
              ];
              blue_green = close.0;
              blue_red = close.1;
            },
          )
    ]

pub slip_is_confirmed : (ps : List Period) (sent received : List Column) (offset : ℕ) (skews counts : List ℕ) (x y : Fed) (lane place dropped first next : ℕ)
    → Received ps sent received offset skews counts x → Slipped x lane place dropped y
    → SlipsInVideo ps sent received offset skews counts lane place dropped first next
    → (d e f : ℕ) → IsUnconfirmed y d e f → ⊥
slip_is_confirmed ps sent received offset skews counts x y lane place dropped first next reception slip s d e f u =
    let lanes = slip_seen ps sent received offset skews counts x y lane place dropped first next reception slip s in
    seen_confirmed ps sent received (free_received ps sent received reception.reception) s.alone lanes.0 y lanes.1 d e f u

pub slip_ends : (ps : List Period) (sent received : List Column) (offset : ℕ) (skews counts : List ℕ) (x y : Fed) (lane place dropped first next : ℕ)
    → Received ps sent received offset skews counts x → Slipped x lane place dropped y
    → SlipsInVideo ps sent received offset skews counts lane place dropped first next → EndsAtSlip y
slip_ends ps sent received offset skews counts x y lane place dropped first next reception slip s =
    let confirmed = slip_is_confirmed ps sent received offset skews counts x y lane place dropped first next reception slip s in
    record {
      ends = λ found start end. record { end = end; before = λ d e f u. absurd (confirmed d e f u) };
      then = λ found start end.
          let second = second_epoch ps sent received offset skews counts x y lane place dropped first next reception slip s found start end.end in
          record {
            no_stray = second.3;
            confirmed = λ d e f u.
                let is = second.4 d e f u.first in
                payload_confirmed ps sent received (free_received ps sent received reception.reception) s.alone (rest_of start y) d e f is.0 is.1 u;
          };
      confirmed = λ at end. confirmed end.blue end.green end.red end.unconfirmed;
      last = λ none. record { no_stray = none; confirmed = confirmed };
    }
