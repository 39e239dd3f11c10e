-- Where a slip within a line is noticed, and what is reported of the epoch that begins there.
use Rattle.std.proofs.Common.{◌≡◌, ℕ, ◌+◌, ◌-◌, ◌*◌, ◌<◌, ◌≤◌, Bool, true, List, length, drop, ap, ◌∙◌, sym, subst, arith, inl, inr}
use Rattle.std.specs.Prelude.{slice_index}
use Rattle.std.proofs.lemmas.Bool.{cases_lt}
use Rattle.tmds_word.specs.Column.{Column}
use Rattle.tmds_word.specs.Taps.{part_of}
use Rattle.terc4.specs.Tables.{is_control}
use Rattle.lane_align.specs.Lanes.{IsLock}
use Rattle.lane_deskew.specs.Triples.{IsFirst}
use Rattle.lane_deskew.specs.Aligned.{aligned_columns}
use Rattle.island_pack.specs.Periods.{Period}
use Rattle.link_laws.specs.Laws.{BeginColumn, IsAccounted}
use Rattle.link_sink.specs.Sinks.{Fed}
use Rattle.link_laws.proofs.Tapped.{payload_accounted}
use Rattle.lane_track.specs.Slips.{Slips, slipped_part}
use Rattle.lane_track.specs.Strays.{IsStray, IsFirstStray, HasNoStray}
use Rattle.lane_track.proofs.Around.{length-part, runs_around, no_lock_no_stray}
use Rattle.lane_track.proofs.Begins.{stray_begins_control, stray_starts}
use Rattle.lane_track.proofs.Cutting.{run_before, run_stays_before}
use Rattle.lane_track.proofs.Strays.{calm_has_none}
use Rattle.track_sink.specs.Epochs.{lane_of, rest_of, IsEnd, HasNoEnd}
use Rattle.track_laws.specs.Laws.{Received, Slipped, SlipsInVideo, BeginsAgain, later_skews, words_at}
use Rattle.track_laws.proofs.Ends.{none_of, slipped_is, other_lane, same_lane, at_most_two}
use Rattle.track_laws.proofs.Second.{second_reported}
use Rattle.track_laws.proofs.Slipping.{marks_at, calm_lanes, slips_at, begins_control}

-- a lane that has a stray has a lock before the slip
pub lock_before : (words : List ℕ) (marks : List Bool) (from many place dropped : ℕ) → Slips words marks from many place dropped
    → (p : ℕ) → IsStray (slipped_part words from many place dropped) p → (lock : ℕ) × IsLock (part_of words from many) lock × (lock + 120 ≤ place)
lock_before words marks from many place dropped s p stray =
    let xs = part_of words from many in
    let len : length xs ≡ many = length-part words from many s.within in
    let ends = s.ends in
    let around = runs_around words marks from many place dropped s in
    let past = stray.past in
    elim (around stray.lock stray.is_lock.run) [
      | inl early ↦
          let before = early.0 in (
            stray.lock,
            record {
              run = run_before xs place dropped stray.lock (omega arith) before stray.is_lock.run;
              least = λ q less run. stray.is_lock.least q less (run_stays_before xs place dropped q (omega arith) (omega arith) run);
            },
            before,
          )
      | inr late ↦ elim (around p stray.run) [
        | inl early ↦ let a = late.0 in let b = early.0 in absurd (omega arith)
        | inr other ↦ let a = late.1 in let b = other.1 in absurd (stray.apart (omega arith))
      ]
    ]

-- the end of an epoch is its lane's first stray
pub first_stray : (y : Fed) (lane start : ℕ) → IsEnd y lane start → IsFirstStray (lane_of y lane) start
first_stray y lane start end =
    record {
      stray = end.stray;
      least = λ q less stray. elim (end.least lane q end.within stray) [
        | inl more ↦ absurd (omega arith)
        | inr same ↦ let e = same.0 in absurd (omega arith)
      ];
    }

-- the lane that slipped, with its first stray and the lock before the slip
pub record Found (received : List Column) (offset : ℕ) (skews counts : List ℕ) (lane place dropped start : ℕ) : Type 0 where
  pub first : IsFirstStray (slipped_part (words_at received lane) (offset + slice_index skews lane) (slice_index counts lane) place dropped) start
  pub lock : ℕ
  pub is_lock : IsLock (part_of (words_at received lane) (offset + slice_index skews lane) (slice_index counts lane)) lock
  pub before : lock + 120 ≤ place

pub found_at : (ps : List Period) (sent received : List Column) (offset : ℕ) (skews counts : List ℕ) (x y : Fed) (lane place dropped first next start : ℕ)
    → Received ps sent received offset skews counts x → Slipped x lane place dropped y
    → SlipsInVideo ps sent received offset skews counts lane place dropped first next
    → IsEnd y lane start → Found received offset skews counts lane place dropped start
found_at ps sent received offset skews counts x y lane place dropped first next start reception slip s end =
    let lanes = calm_lanes ps sent received offset skews counts x reception s.alone in
    let slips = slips_at ps sent received offset skews counts x y lane place dropped first next reception slip s in
    let mine = slipped_is x y (words_at received) (marks_at sent received) (λ l. offset + slice_index skews l) (λ l. slice_index counts l) lane place dropped lanes slip in
    let here = subst (λ us. IsFirstStray us start) mine (first_stray y lane start end) in
    let lock = lock_before (words_at received lane) (marks_at sent received lane) (offset + slice_index skews lane) (slice_index counts lane) place dropped slips start here.stray in
    record { first = here; lock = lock.0; is_lock = lock.1; before = lock.2 }

pub begins_again : (ps : List Period) (sent received : List Column) (offset : ℕ) (skews counts : List ℕ) (x y : Fed) (lane place dropped first next start : ℕ)
    → Received ps sent received offset skews counts x → Slipped x lane place dropped y
    → SlipsInVideo ps sent received offset skews counts lane place dropped first next
    → IsEnd y lane start → BeginsAgain received offset skews lane dropped next start
begins_again ps sent received offset skews counts x y lane place dropped first next start reception slip s end =
    let slips = slips_at ps sent received offset skews counts x y lane place dropped first next reception slip s in
    let found = found_at ps sent received offset skews counts x y lane place dropped first next start reception slip s end in
    let b = begins_control ps sent received offset skews counts lane place dropped first next reception.reception s in
    let at = stray_starts (words_at received lane) (marks_at sent received lane) (offset + slice_index skews lane) (slice_index counts lane) place dropped slips
    found.lock found.is_lock found.before next b start found.first in
    let e = at.4 in
    record { early = at.0; few = at.1; control = at.2; plain = at.3; place = omega arith }

pub second_epoch : (ps : List Period) (sent received : List Column) (offset : ℕ) (skews counts : List ℕ) (x y : Fed) (lane place dropped first next : ℕ)
    → Received ps sent received offset skews counts x → Slipped x lane place dropped y
    → SlipsInVideo ps sent received offset skews counts lane place dropped first next
    → (found start : ℕ) → IsEnd y found start
    → (found ≡ lane) × (place ≤ start) × BeginsAgain received offset skews lane dropped next start × HasNoEnd (rest_of start y)
    × ((d e f : ℕ) → IsFirst (drop start y.blue) (drop start y.green) (drop start y.red) d e f
    → (a : ℕ) × IsAccounted ps sent received (aligned_columns (drop start y.blue) (drop start y.green) (drop start y.red) d e f) a
    × BeginColumn (offset + start) (later_skews skews lane dropped) (a + 12) d e f)
second_epoch ps sent received offset skews counts x y lane place dropped first next reception slip s found start end =
    let lanes = calm_lanes ps sent received offset skews counts x reception s.alone in
    let slips = slips_at ps sent received offset skews counts x y lane place dropped first next reception slip s in
    let two = at_most_two x y (words_at received) (marks_at sent received) (λ l. offset + slice_index skews l) (λ l. slice_index counts l) lane place dropped lanes slips slip found start end in
    let here : IsEnd y lane start = subst (λ l. IsEnd y l start) two.0 end in (
      two.0,
      two.1,
      begins_again ps sent received offset skews counts x y lane place dropped first next start reception slip s here,
      two.2,
      second_reported payload_accounted ps sent received offset skews counts x y lane place dropped start reception s.alone slip s.small two.1,
    )

-- Whether it is noticed.

-- the other lanes have no stray
pub others_none : (ps : List Period) (sent received : List Column) (offset : ℕ) (skews counts : List ℕ) (x y : Fed) (lane place dropped first next : ℕ)
    → Received ps sent received offset skews counts x → Slipped x lane place dropped y
    → SlipsInVideo ps sent received offset skews counts lane place dropped first next
    → (l : ℕ) → l < 3 → (l ≡ lane → ⊥) → HasNoStray (lane_of y l)
others_none ps sent received offset skews counts x y lane place dropped first next reception slip s l lt apart =
    let lanes = calm_lanes ps sent received offset skews counts x reception s.alone in
    let same = other_lane x y (words_at received) (marks_at sent received) (λ l. offset + slice_index skews l) (λ l. slice_index counts l) lane place dropped lanes slip l lt apart in
    none_of (lane_of y l) _ same (calm_has_none (words_at received l) (marks_at sent received l) (lanes.calm l lt) (offset + slice_index skews l) (slice_index counts l))

pub slip_noticed : (ps : List Period) (sent received : List Column) (offset : ℕ) (skews counts : List ℕ) (x y : Fed) (lane place dropped first next : ℕ)
    → Received ps sent received offset skews counts x → Slipped x lane place dropped y
    → SlipsInVideo ps sent received offset skews counts lane place dropped first next
    → (lock : ℕ) → IsLock (lane_of x lane) lock → lock + 120 ≤ place
    → (ahead : ℕ) → ahead ≤ 2 → ((k : ℕ) → k < ahead → is_control (slice_index (words_at received lane) (next - 1 - k)) ≡ true)
    → 10 * (next - ahead + 12) ≤ offset + slice_index skews lane + slice_index counts lane
    → (start : ℕ) × IsEnd y lane start
slip_noticed ps sent received offset skews counts x y lane place dropped first next reception slip s lock is_lock before ahead two control whole =
    let from = offset + slice_index skews lane in
    let many = slice_index counts lane in
    let lanes = calm_lanes ps sent received offset skews counts x reception s.alone in
    let slips = slips_at ps sent received offset skews counts x y lane place dropped first next reception slip s in
    let mine = slipped_is x y (words_at received) (marks_at sent received) (λ l. offset + slice_index skews l) (λ l. slice_index counts l) lane place dropped lanes slip in
    let lock_is = subst (λ us. IsLock us lock) (lanes.parts lane slip.within) is_lock in
    let b = begins_control ps sent received offset skews counts lane place dropped first next reception.reception s in
    let at = stray_begins_control (words_at received lane) (marks_at sent received lane) from many place dropped slips lock lock_is before next b ahead two control whole in
    let few = at.1 in
    let ends = s.before in
    let start = 10 * (next - at.0) - dropped - from in
    let stray = subst (λ us. IsFirstStray us start) (sym mine) (at.4 start (omega arith)) in (
      start,
      record {
        within = slip.within;
        stray = stray.stray;
        least = λ l p lt other. elim (same_lane l lane) [
          | inr apart ↦ absurd (others_none ps sent received offset skews counts x y lane place dropped first next reception slip s l lt apart p other)
          | inl same ↦
              let own = subst (λ m. IsStray (lane_of y m) p) same other in
              elim (cases_lt start p) [
                | inl more ↦ inl more
                | inr few ↦ elim (cases_lt p start) [
                  | inl less ↦ absurd (stray.least p less own)
                  | inr equal ↦ inr (omega arith, omega arith)
                ]
              ]
        ];
      },
    )

pub slip_passes : (ps : List Period) (sent received : List Column) (offset : ℕ) (skews counts : List ℕ) (x y : Fed) (lane place dropped first next : ℕ)
    → Received ps sent received offset skews counts x → Slipped x lane place dropped y
    → SlipsInVideo ps sent received offset skews counts lane place dropped first next
    → ((lock : ℕ) → IsLock (lane_of x lane) lock → lock + 120 ≤ place → ⊥) → HasNoEnd y
slip_passes ps sent received offset skews counts x y lane place dropped first next reception slip s none l lt =
    let lanes = calm_lanes ps sent received offset skews counts x reception s.alone in
    let slips = slips_at ps sent received offset skews counts x y lane place dropped first next reception slip s in
    let mine = slipped_is x y (words_at received) (marks_at sent received) (λ l. offset + slice_index skews l) (λ l. slice_index counts l) lane place dropped lanes slip in
    let own = lanes.parts lane slip.within in
    elim (same_lane l lane) [
      | inr apart ↦ others_none ps sent received offset skews counts x y lane place dropped first next reception slip s l lt apart
      | inl same ↦ none_of (lane_of y l) _ (ap (lane_of y) same ∙ mine)
          (no_lock_no_stray (words_at received lane) (marks_at sent received lane) (offset + slice_index skews lane) (slice_index counts lane) place dropped slips
          (λ lock is_lock. none lock (subst (λ us. IsLock us lock) (sym own) is_lock)))
    ]
