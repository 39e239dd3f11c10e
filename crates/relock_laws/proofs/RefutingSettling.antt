-- At a good control period whose guard band is received whole the lanes have its skew, or by the one they have too something opens
-- there, or a lane has a stray there: another alignment is refuted.
use Rattle.std.proofs.Common.{◌≡◌, ◌⊎◌, ℕ, suc, zero, ◌+◌, ◌-◌, ◌*◌, ◌<◌, ◌≤◌, Bool, true, false, List, length, take, drop, refl, subst, arith, inl, inr, Some, length-drop}
use native.Mathlib.Decide.{ℕ_discrete}
use Rattle.std.proofs.lemmas.Bool.{cases_lt}
use Rattle.tmds_word.specs.Bits.{number, window}
use Rattle.tmds_word.specs.Column.{Column}
use Rattle.lane_align.proofs.Controls.{window_here, window_is}
use Rattle.lane_deskew.specs.Triples.{IsFirst}
use Rattle.lane_deskew.specs.Aligned.{aligned_column}
use Rattle.link_sink.specs.Sinks.{Fed}
use Rattle.track_sink.specs.Epochs.{EpochRule, rest_of, HasNoEnd}
use Rattle.track_sink.specs.Rules.{IsRule}
use Rattle.relock_sink.specs.Relocks.{is_announced, IsFirstSo, IsUnconfirmed}
use Rattle.relock_sink.specs.Rivals.{is_guard_band, HaveSameSkew, IsConfirmed}
use Rattle.relock_sink.specs.Doubts.{IsLetGo}
use Rattle.relock_sink.specs.Refuting.{refuting_rule}
use Rattle.relock_sink.specs.RefuterRule.{refuting_is_rule}
use Rattle.relock_laws.specs.Settled.{EndsNineteen, IsGoodPeriod, IsCalmFrom}
use Rattle.relock_laws.specs.Refuted.{GoesOn, IsWholePeriod}
use Rattle.relock_laws.specs.RefutingLaws.{EndsBy}
use Rattle.relock_laws.specs.RefutingSettled.{IsStartBy, first_start, next_start, IsWholeGoodPeriod, IsSettledBy, OpensThere, SlipsThere, SettlesByRefuting, SettlesUnrefuted, SettledHasSkew}
use Rattle.relock_laws.proofs.GoodPeriod.{calm_none}
use Rattle.relock_laws.proofs.Refuting.{column_of_windows, period_refutes}
use Rattle.relock_laws.proofs.RefutingEnding.{unconfirmed_leaves, stray_leaves, let_go_leaves}
use Rattle.relock_laws.proofs.Settling.{least_of, IsLate, HaveLast, AreAt, spread, are_settled, have_last, triple_at, edges_at, none_at}
use Rattle.relock_laws.proofs.Windows.{rest_window, back_window}

-- The epoch that has the last twelve characters.

-- no end lies before them
abbrev pub EndsLateBy : EpochRule → Fed → ℕ → ℕ → Type 0
EndsLateBy r fed z least = (place : ℕ) → EndsBy r (rest_of z fed) place → least < z + place + 120

abbrev Reaches : EpochRule → Fed → ℕ → Type 0
Reaches r fed least = (start : ℕ) × IsStartBy r fed start × (start + 120 ≤ least) × EndsLateBy r fed start least

reach : (r : EpochRule) → IsRule r → (n : ℕ) (fed : Fed) (z least : ℕ) → IsStartBy r fed z → z + 120 ≤ least → least < z + 120 + n → Reaches r fed least
reach r rule zero fed z least start after fuel = absurd (omega arith)
reach r rule (suc n) fed z least start after fuel = elim (rule.decided (rest_of z fed)) [
  | inr none ↦ (z, start, after, λ place ends. absurd (rule.excludes (rest_of z fed) ends.0 place none ends.1))
  | inl end ↦
      let past = (rule.within (rest_of z fed) end.0 end.1 end.2).0 in
      elim (cases_lt least (z + end.1 + 120)) [
        | inl late ↦ (z, start, after, λ place ends. let same = (rule.one_end (rest_of z fed) ends.0 end.0 place end.1 ends.1 end.2).1 in omega arith)
        | inr early ↦ reach r rule n fed (z + end.1) least (next_start fed z end.1 start (end.0, end.2)) (omega arith) (omega arith)
      ]
]

pub late_by : (fed : Fed) (z least : ℕ) → EndsLateBy refuting_rule fed z least → IsLate fed z least
late_by fed z least late = record {
  ends = λ lane p end.
      let ends = stray_leaves (rest_of z fed) lane p end in
      let far = late ends.0 ends.1 in
      let before = ends.2 in
      omega arith;
  unconfirmed = λ p q r u.
      let ends = unconfirmed_leaves (rest_of z fed) p q r u in
      let far = late ends.0 ends.1 in
      let early = ends.2 in
      omega arith;
}

-- The good control period in that epoch.

rest_nineteen : (z : ℕ) (xs : List Bool) (d : ℕ) → z + 190 ≤ d → EndsNineteen xs d → EndsNineteen (drop z xs) (d - z)
rest_nineteen z xs d after good = record {
  begins = omega arith;
  controls = λ k lt.
      let c = good.controls k lt in
      let at : d - 190 + 10 * k - z ≡ d - z - 190 + 10 * k = omega arith in
      record { word = c.word; here = subst (λ n. window (drop z xs) n ≡ Some c.word) at (rest_window z xs (d - 190 + 10 * k) c.word (omega arith) c.here); control = c.control };
}

rest_goes_on : (z : ℕ) (xs : List Bool) (d : ℕ) → z ≤ d → GoesOn xs d → GoesOn (drop z xs) (d - z)
rest_goes_on z xs d after on = record {
  whole = λ k lt.
      let w = on.whole k lt in
      let at : d + 10 * k - z ≡ d - z + 10 * k = omega arith in
      (w.0, subst (λ n. window (drop z xs) n ≡ Some w.0) at (rest_window z xs (d + 10 * k) w.0 (omega arith) w.1));
  payload = λ k w lt here.
      let at : z + (d - z + 10 * k) ≡ d + 10 * k = omega arith in
      on.payload k w lt (subst (λ n. window xs n ≡ Some w) at (back_window z xs (d - z + 10 * k) w here));
}

-- sixteen characters of the lane follow in the epoch
pub long_after : (z : ℕ) (xs : List Bool) (d : ℕ) → z ≤ d → GoesOn xs d → d - z + 160 ≤ length (drop z xs)
long_after z xs d after on =
    let w = on.whole 15 (omega arith) in
    let is = window_is xs (d + 10 * 15) w.0 w.1 in
    let within = is.0 in
    let len = length-drop z xs in
    omega arith

pub rest_period : (fed : Fed) (d e f z : ℕ) → IsWholeGoodPeriod fed d e f → HaveLast fed d e f z → z + 190 ≤ d → z + 190 ≤ e → z + 190 ≤ f → IsWholePeriod (rest_of z fed) (d - z) (e - z) (f - z)
rest_period fed d e f z w h blue green red =
    let good = w.good in
    record {
      triple = triple_at fed d e f z good h;
      blue = rest_nineteen z fed.blue d blue good.blue;
      green = rest_nineteen z fed.green e green good.green;
      red = rest_nineteen z fed.red f red good.red;
      blue_on = rest_goes_on z fed.blue d (omega arith) w.blue_on;
      green_on = rest_goes_on z fed.green e (omega arith) w.green_on;
      red_on = rest_goes_on z fed.red f (omega arith) w.red_on;
      band = edges_at fed d e f z (d - z) (e - z) (f - z) is_guard_band true (omega arith) (omega arith) (omega arith) (omega arith) (omega arith) (omega arith) w.band;
    }

-- An alignment before it.

character : (xs : List Bool) (p : ℕ) → p + 10 ≤ length xs → (w : ℕ) × (window xs p ≡ Some w)
character xs p long = (number (take 10 (drop p xs)), window_here xs p (number (take 10 (drop p xs))) (λ short. omega arith) refl)

column : (fed : Fed) (p q r j : ℕ) → p - 120 + 10 * j + 10 ≤ length fed.blue → q - 120 + 10 * j + 10 ≤ length fed.green → r - 120 + 10 * j + 10 ≤ length fed.red
    → (c : Column) × (aligned_column fed.blue fed.green fed.red p q r j ≡ Some c)
column fed p q r j b g w =
    let x = character fed.blue (p - 120 + 10 * j) b in
    let y = character fed.green (q - 120 + 10 * j) g in
    let v = character fed.red (r - 120 + 10 * j) w in
    (record { blue = x.0; green = y.0; red = v.0 }, column_of_windows fed p q r j x.0 y.0 v.0 x.1 y.1 v.1)

-- an alignment so far before is confirmed, where it is not unconfirmed: its two columns have arrived
pub confirmed_before : (fed : Fed) (p q r : ℕ) → IsFirst fed.blue fed.green fed.red p q r → (IsUnconfirmed fed p q r → ⊥)
    → p + 20 ≤ length fed.blue → q + 20 ≤ length fed.green → r + 20 ≤ length fed.red → IsConfirmed fed p q r
confirmed_before fed p q r first none b g w =
    by (is_announced here.0 next.0) (record { first = first; columns = record { here = here.0; next = next.0; is_here = here.1; is_next = next.1; so = refl } })
  where
    past_blue : 120 ≤ p
    past_blue = let a = first.triple.blue.past in omega arith

    past_green : 120 ≤ q
    past_green = let a = first.triple.green.past in omega arith

    past_red : 120 ≤ r
    past_red = let a = first.triple.red.past in omega arith

    here : (c : Column) × (aligned_column fed.blue fed.green fed.red p q r 12 ≡ Some c)
    here = let x = past_blue in let y = past_green in let z = past_red in column fed p q r 12 (omega arith) (omega arith) (omega arith)

    next : (c : Column) × (aligned_column fed.blue fed.green fed.red p q r 13 ≡ Some c)
    next = let x = past_blue in let y = past_green in let z = past_red in column fed p q r 13 (omega arith) (omega arith) (omega arith)

    by : (b : Bool) → IsFirstSo b fed p q r → IsConfirmed fed p q r
    by true is = is
    by false is = absurd (none is)

pub same_or_not : (p q r d e f : ℕ) → HaveSameSkew p q r d e f ⊎ (HaveSameSkew p q r d e f → ⊥)
same_or_not p q r d e f = elim (ℕ_discrete (d + q) (e + p)) [
  | no apart ↦ inr (λ same. apart same.0)
  | yes one ↦ elim (ℕ_discrete (d + r) (f + p)) [
    | no apart ↦ inr (λ same. apart same.1)
    | yes two ↦ inl (one, two)
  ]
]

-- where it is let go there, the epoch ends at a stray there, since it does not end before
pub let_go_there : (fed : Fed) (d e f z p q r : ℕ) → IsWholeGoodPeriod fed d e f → z + 120 ≤ least_of d e f → EndsLateBy refuting_rule fed z (least_of d e f)
    → IsLetGo (rest_of z fed) p q r (d - z) (e - z) (f - z) → SlipsThere fed d e f z
let_go_there fed d e f z p q r w after late is =
    let b = long_after z fed.blue d (omega arith) w.blue_on in
    let g = long_after z fed.green e (omega arith) w.green_on in
    let h = long_after z fed.red f (omega arith) w.red_on in
    elim (let_go_leaves (rest_of z fed) p q r (d - z) (e - z) (f - z) is (omega arith)) [
      | inl ends ↦ let far = late ends.0 ends.1 in let early = ends.2 in absurd (omega arith)
      | inr slip ↦ let early = slip.3 in (slip.0, slip.1, slip.2, omega arith)
    ]

-- the skew of the epoch's alignment
abbrev Outcome : Fed → (d e f z p q r : ℕ) → Type 0
Outcome fed d e f z p q r = HaveSameSkew p q r d e f ⊎ (OpensThere fed d e f z p q r ⊎ SlipsThere fed d e f z)

earlier_skew : (fed : Fed) (d e f z p q r : ℕ) → IsWholeGoodPeriod fed d e f → z + 120 ≤ least_of d e f → EndsLateBy refuting_rule fed z (least_of d e f)
    → HaveLast fed d e f z → IsFirst (drop z fed.blue) (drop z fed.green) (drop z fed.red) p q r → (IsUnconfirmed (rest_of z fed) p q r → ⊥)
    → z + p + 200 ≤ d → z + q + 200 ≤ e → z + r + 200 ≤ f → (HaveSameSkew p q r d e f → ⊥) → Outcome fed d e f z p q r
earlier_skew fed d e f z p q r w after late h first none x y v apart =
    let b = long_after z fed.blue d (omega arith) w.blue_on in
    let g = long_after z fed.green e (omega arith) w.green_on in
    let a = long_after z fed.red f (omega arith) w.red_on in
    let pb = first.triple.blue.past in
    let pg = first.triple.green.past in
    let pr = first.triple.red.past in
    let own = confirmed_before (rest_of z fed) p q r first none (omega arith) (omega arith) (omega arith) in
    let period = rest_period fed d e f z w h (omega arith) (omega arith) (omega arith) in
    elim (period_refutes (rest_of z fed) p q r (d - z) (e - z) (f - z) own period (omega arith) (omega arith) (omega arith)
    (λ same. let s = same.0 in let t = same.1 in apart (omega arith, omega arith))) [
      | inl refuted ↦ inr (inr (let_go_there fed d e f z p q r w after late (inl refuted)))
      | inr opens ↦ inr (inl opens)
    ]

pub skew_of : (fed : Fed) (d e f z p q r : ℕ) → IsWholeGoodPeriod fed d e f → z + 120 ≤ least_of d e f → EndsLateBy refuting_rule fed z (least_of d e f)
    → HaveLast fed d e f z → IsFirst (drop z fed.blue) (drop z fed.green) (drop z fed.red) p q r → (IsUnconfirmed (rest_of z fed) p q r → ⊥)
    → AreAt z d e f p q r → Outcome fed d e f z p q r
skew_of fed d e f z p q r w after late h first none (inl at) = let x = at.0 in let y = at.1 in let v = at.2 in inl (omega arith, omega arith)
skew_of fed d e f z p q r w after late h first none (inr before) = elim (same_or_not p q r d e f) [
  | inl same ↦ inl same
  | inr apart ↦ earlier_skew fed d e f z p q r w after late h first none before.0 before.1 before.2 apart
]

pub settles_by_refuting : SettlesByRefuting
settles_by_refuting fed d e f good =
    let s = spread d e f good.blue_green good.green_red good.blue_red in
    let b = good.blue.begins in
    let high = s.blue_high in
    let at = reach refuting_rule refuting_is_rule (suc (least_of d e f)) fed 0 (least_of d e f) (first_start fed) (omega arith) (omega arith) in
    let z = at.0 in
    let after = at.2 in
    let late = at.3 in
    let found = are_settled fed d e f z good after (late_by fed z (least_of d e f) late) in
    let is = found.3 in (
      z,
      at.1,
      (
        found.0,
        found.1,
        found.2,
        record { begins = after; ends = late; first = is.first; place = is.place; confirmed = is.confirmed },
      ),
    )

pub settles_unrefuted : SettlesUnrefuted
settles_unrefuted fed d e f w =
    let s = settles_by_refuting fed d e f w.good in
    let z = s.0 in
    let p = s.2.0 in
    let q = s.2.1 in
    let r = s.2.2 in
    let is = s.2.3 in
    let h = have_last fed d e f z w.good is.begins (late_by fed z (least_of d e f) is.ends) in
    (z, s.1, (p, q, r, is, skew_of fed d e f z p q r w is.begins is.ends h is.first is.confirmed is.place))

-- Where the lanes have few damaged characters from there on.

pub settled_no_stray : (fed : Fed) (d e f start p q r : ℕ) → IsGoodPeriod fed d e f → IsCalmFrom fed.blue d → IsCalmFrom fed.green e → IsCalmFrom fed.red f
    → IsSettledBy refuting_rule fed d e f start p q r → HasNoEnd (rest_of start fed)
settled_no_stray fed d e f z p q r good blue green red is =
    let h = have_last fed d e f z good is.begins (late_by fed z (least_of d e f) is.ends) in
    none_at fed z (calm_none fed.blue d (least_of d e f) z h.blue blue) (calm_none fed.green e (least_of d e f) z h.green green) (calm_none fed.red f (least_of d e f) z h.red red)

pub settled_has_skew : SettledHasSkew
settled_has_skew fed d e f w blue green red z p q r is =
    let none = settled_no_stray fed d e f z p q r w.good blue green red is in
    let h = have_last fed d e f z w.good is.begins (late_by fed z (least_of d e f) is.ends) in (
      none,
      elim (skew_of fed d e f z p q r w is.begins is.ends h is.first is.confirmed is.place) [
        | inl same ↦ inl same
        | inr other ↦ elim other [
          | inl opens ↦ inr opens
          | inr slip ↦ let end = slip.2.slip.end in absurd (none slip.0 end.within slip.1 end.stray)
        ]
      ],
    )
