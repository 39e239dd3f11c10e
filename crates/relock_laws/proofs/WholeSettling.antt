-- At a control period that is received whole, from three characters before it on, the lanes have its skew, or a lane has a stray there: an
-- alignment before it with another one is doubted.
use Rattle.std.proofs.Common.{◌≡◌, ◌⊎◌, ℕ, ◌+◌, ◌-◌, ◌*◌, ◌<◌, ◌≤◌, Bool, List, drop, subst, arith, inl, inr}
use Rattle.lane_align.specs.Lanes.{HasControl, IsEdge}
use Rattle.link_sink.specs.Sinks.{Fed}
use Rattle.track_sink.specs.Epochs.{rest_of}
use Rattle.relock_sink.specs.Rivals.{HaveSameSkew}
use Rattle.relock_sink.specs.Refuting.{refuting_rule}
use Rattle.relock_laws.specs.Doubted.{IsWholeRun}
use Rattle.relock_laws.specs.RefutingSettled.{IsSettledBy, SlipsThere, IsWholeGoodFrom, SettlesAtWhole, WholeHasSkew, RecoversAtWhole}
use Rattle.relock_laws.proofs.Again.{calm_again}
use Rattle.relock_laws.proofs.Doubting.{IsRunHere, own_early, doubts_at_whole}
use Rattle.relock_laws.proofs.RefutingAgain.{same_skew_is_last}
use Rattle.relock_laws.proofs.RefutingSettling.{late_by, rest_period, long_after, confirmed_before, same_or_not, let_go_there, settles_by_refuting, settled_no_stray}
use Rattle.relock_laws.proofs.Settling.{least_of, have_last}
use Rattle.relock_laws.proofs.Windows.{rest_window, back_window}

-- One lane.

control_rest : (z : ℕ) (xs : List Bool) (p q : ℕ) → p ≡ z + q → HasControl xs p → HasControl (drop z xs) q
control_rest z xs p q at has =
    let here : p - z ≡ q = omega arith in
    subst (HasControl (drop z xs)) here (record { word = has.word; here = rest_window z xs p has.word (omega arith) has.here; control = has.control })

control_back : (z : ℕ) (xs : List Bool) (p q : ℕ) → p ≡ z + q → HasControl (drop z xs) q → HasControl xs p
control_back z xs p q at has =
    let here : z + q ≡ p = omega arith in
    subst (HasControl xs) here (record { word = has.word; here = back_window z xs q has.word has.here; control = has.control })

-- what is left of a lane after a place that lies before an edge of it before the period
rest_run : (z : ℕ) (xs : List Bool) (p d n : ℕ) → IsEdge (drop z xs) p → IsEdge (drop z xs) (d - z) → z + p < d → IsWholeRun xs d n → IsWholeRun (drop z xs) (d - z) n
rest_run z xs p d n own edge later run =
    let here : IsRunHere (drop z xs) (d - z) n = record {
      controls = λ k lt long. control_rest z xs (d - 10 - 10 * k) (d - z - 10 - 10 * k) (omega arith) (run.controls k lt);
      others = λ k lt long has. run.others k lt (control_back z xs (d - 10 * n - 10 - 10 * k) (d - z - 10 * n - 10 - 10 * k) (omega arith) has);
    } in
    let early = own_early (drop z xs) p (d - z) n own edge (omega arith) here in
    record {
      begins = omega arith;
      controls = λ k lt. here.controls k lt (omega arith);
      others = λ k lt. here.others k lt (omega arith);
    }

-- Three lanes.

module _ (fed : Fed) (d e f n : ℕ) (w : IsWholeGoodFrom fed d e f n) (z p q r : ℕ) (is : IsSettledBy refuting_rule fed d e f z p q r) where
  -- an alignment with another skew, before the period, is let go there
  slips_apart : z + p + 200 ≤ d → z + q + 200 ≤ e → z + r + 200 ≤ f → (HaveSameSkew p q r d e f → ⊥) → SlipsThere fed d e f z
  slips_apart x y v apart =
      let h = have_last fed d e f z w.good.good is.begins (late_by fed z (least_of d e f) is.ends) in
      let b = long_after z fed.blue d (omega arith) w.good.blue_on in
      let g = long_after z fed.green e (omega arith) w.good.green_on in
      let a = long_after z fed.red f (omega arith) w.good.red_on in
      let t = is.first.triple in
      let pb = t.blue.past in
      let pg = t.green.past in
      let pr = t.red.past in
      let own = confirmed_before (rest_of z fed) p q r is.first is.confirmed (omega arith) (omega arith) (omega arith) in
      let period = rest_period fed d e f z w.good h (omega arith) (omega arith) (omega arith) in
      let doubted = doubts_at_whole (rest_of z fed) p q r (d - z) (e - z) (f - z) n own
      (record {
        period = period;
        blue = rest_run z fed.blue p d n t.blue period.triple.blue (omega arith) w.blue;
        green = rest_run z fed.green q e n t.green period.triple.green (omega arith) w.green;
        red = rest_run z fed.red r f n t.red period.triple.red (omega arith) w.red;
      })
      (omega arith) (omega arith) (omega arith) (λ same. let s = same.0 in let u = same.1 in apart (omega arith, omega arith)) in
      let_go_there fed d e f z p q r w.good is.begins is.ends (inr doubted)

  pub skew_at_whole : HaveSameSkew p q r d e f ⊎ SlipsThere fed d e f z
  skew_at_whole = elim is.place [
    | inl at ↦ let x = at.0 in let y = at.1 in let v = at.2 in inl (omega arith, omega arith)
    | inr before ↦ elim (same_or_not p q r d e f) [
      | inl same ↦ inl same
      | inr apart ↦ inr (slips_apart before.0 before.1 before.2 apart)
    ]
  ]

pub settles_at_whole : SettlesAtWhole
settles_at_whole fed d e f n w =
    let s = settles_by_refuting fed d e f w.good.good in
    (s.0, s.1, (s.2.0, s.2.1, s.2.2, s.2.3, skew_at_whole fed d e f n w s.0 s.2.0 s.2.1 s.2.2 s.2.3))

pub whole_has_skew : WholeHasSkew
whole_has_skew fed d e f n w blue green red z p q r is =
    let none = settled_no_stray fed d e f z p q r w.good.good blue green red is in (
      none,
      elim (skew_at_whole fed d e f n w z p q r is) [
        | inl same ↦ same
        | inr slip ↦ let end = slip.2.slip.end in absurd (none slip.0 end.within slip.1 end.stray)
      ],
    )

pub recovers_at_whole : RecoversAtWhole
recovers_at_whole ps sent received offset skews counts x fed before a d e f n again w each_is_spared =
    let calm = calm_again ps sent received offset skews counts x fed before a d e f again in
    let s = settles_by_refuting fed d e f w.good.good in
    let z = s.0 in
    let p = s.2.0 in
    let q = s.2.1 in
    let r = s.2.2 in
    let is = s.2.3 in
    let skew = (whole_has_skew fed d e f n w calm.blue calm.green calm.red z p q r is).1 in
    (z, s.1, (p, q, r, is, skew, same_skew_is_last ps sent received offset skews counts x fed before a d e f again each_is_spared z p q r is skew (inr w.good)))
