-- Whether the first alignment of an epoch is confirmed, and where the epoch ends.
use Rattle.std.proofs.Common.{◌≡◌, ℕ, zero, suc, ◌+◌, ◌-◌, ◌<◌, ◌≤◌, max, Bool, true, false, List, slice_index, length, Option, Some, None, ◌∙◌, subst, arith, inl, inr, length-drop}
use Rattle.std.specs.Prelude.{MatchBool, MatchOption}
use Rattle.std.proofs.lemmas.Bool.{cases_lt}
use Rattle.lane_align.proofs.Controls.{run_within}
use Rattle.lane_track.specs.Strays.{IsStray}
use Rattle.lane_track.specs.Scouts.{HasSought}
use Rattle.lane_deskew.specs.Triples.{IsAlignment}
use Rattle.alignment_search.specs.Alignments.{greatest, least, IsNextAlignment}
use Rattle.alignment_search.specs.Searches.{HasSearched}
use Rattle.alignment_search.proofs.Alignments.{next_is_first}
use Rattle.alignment_search.proofs.Growing.{search_grows}
use Rattle.link_sink.specs.Sinks.{Fed}
use Rattle.track_sink.specs.Epochs.{front_of, most_of, stray_ends, IsEnd, HasNoEnd}
use Rattle.track_sink.specs.Lents.{AreLent}
use Rattle.track_sink.specs.Seeking.{IsSought}
use Rattle.track_sink.specs.declared.watch.LentLanes.{LentLanes}
use Rattle.track_sink.specs.StrayRule.{stray_is_rule, stray_is_watch}
use Rattle.track_sink.specs.declared.strays.Strays.{Strays}
use Rattle.track_sink.specs.declared.watch.Cause.{Cause}
use Rattle.track_sink.specs.declared.watch.Cause.TheVariants.{Slip, Unconfirmed, Refuted}
use Rattle.track_sink.specs.declared.watch.End.{End}
use Rattle.track_sink.specs.Ends.{end_within, one_end}
use Rattle.relock_sink.specs.Relocks.{is_announced, IsUnconfirmed, IsLastEpoch, relock_ends}
use Rattle.relock_sink.specs.Columns.{IsOpened, IsDoubted}
use Rattle.relock_sink.specs.Watches.{IsJudged, HasNoneWhatever, IsSeeking, HasWatched, passed_of, IsDoubt, HasNoDoubt}
use Rattle.relock_sink.specs.declared.relock.Relock.{Relock}
use Rattle.relock_sink.specs.Growing.{lane_grows_from, shown_within}
use Rattle.relock_sink.specs.Ends.{far_edges, end_was}
use Rattle.relock_sink.specs.Watching.{none_yet, never_so}
use Rattle.relock_sink.specs.FrontsGrowing.{most_front, front_grows}
use Rattle.relock_sink.proofs.Places.{so_at_edges, so_here, far_edges as far_alignment}

when_true : (P Q : Type 0) (b : Bool) → b ≡ true → P → MatchBool b P Q
when_true P Q true e p = p
when_true P Q false e p = absurd cc

when_false : (P Q : Type 0) (b : Bool) → b ≡ false → Q → MatchBool b P Q
when_false P Q false e q = q
when_false P Q true e q = absurd cc

is_true : (P Q : Type 0) (b : Bool) → b ≡ true → MatchBool b P Q → P
is_true P Q true e p = p
is_true P Q false e q = absurd cc

is_false : (P Q : Type 0) (b : Bool) → b ≡ false → MatchBool b P Q → Q
is_false P Q false e q = q
is_false P Q true e p = absurd cc

pub is_seeking : (w : Relock) (fed : Fed) → w.is_judged ≡ false → HasWatched w fed → IsSeeking w fed
is_seeking w fed flag watched = is_false (IsJudged fed) (IsSeeking w fed) w.is_judged flag watched.judged

pub is_judged_by : (w : Relock) (fed : Fed) → w.is_judged ≡ true → HasWatched w fed → IsJudged fed
is_judged_by w fed flag watched = is_true (IsJudged fed) (IsSeeking w fed) w.is_judged flag watched.judged

-- The columns at an alignment.

module _ (fed : Fed) (edges : List ℕ) (first : IsAlignment fed.blue fed.green fed.red edges) where
  -- a period opens there, or the columns are not whole
  opened_stands : IsOpened fed edges → IsUnconfirmed fed (slice_index edges 0) (slice_index edges 1) (slice_index edges 2) → ⊥
  opened_stands opened is =
      let s = so_here fed edges first.triple is_announced false is.columns in
      let e = opened s.here s.next s.is_here s.is_next in
      let no_guard = s.so in
      cc

  -- none does
  pub doubt_found : (limit place : ℕ) → greatest edges < limit → IsDoubted fed edges place → IsDoubt fed limit place
  doubt_found limit place before doubted =
      let far = far_alignment fed edges first.triple in
      let at = doubted.at in
      record {
        blue = slice_index edges 0;
        green = slice_index edges 1;
        red = slice_index edges 2;
        unconfirmed = record { first = first; columns = so_at_edges fed edges first.triple is_announced false doubted.columns };
        before = before;
        forgets = omega arith;
      }

-- The first alignment is not unconfirmed.

pub judged_here : (w : Relock) (fed : Fed) (limit : ℕ) (edges : List ℕ) → w.is_judged ≡ true → IsAlignment fed.blue fed.green fed.red edges → greatest edges < limit → limit + 19 ≤ most_of fed
    → IsOpened fed edges → HasNoDoubt w fed limit
judged_here w fed limit edges flag first before long opened =
    let judged : IsJudged fed = record {
      blue = slice_index edges 0;
      green = slice_index edges 1;
      red = slice_index edges 2;
      first = first;
      shown = omega arith;
      never = opened_stands fed edges first opened;
    } in
    record { none = λ p q r is. absurd (never_so false fed p q r judged is); known = when_true (IsJudged fed) (HasNoneWhatever w fed × (w.alignment.limit ≡ limit)) w.is_judged flag judged }

-- no alignment is found yet
pub none_here : (w : Relock) (fed : Fed) (limit : ℕ) → w.is_judged ≡ false → w.alignment.past ≡ 0 → w.alignment.limit ≡ limit → limit + 19 ≤ most_of fed → HasSearched w.alignment fed.blue fed.green fed.red → HasNoDoubt w fed limit
none_here w fed limit flag first at long searched =
    let near : w.alignment.limit + 9 ≤ most_of fed = omega arith in
    let whatever : HasNoneWhatever w fed = (
      first,
      λ later grows.
          search_grows w.alignment fed.blue fed.green fed.red later.blue later.green later.red
          (lane_grows_from fed later w.alignment.limit grows near 0 (omega arith)) (lane_grows_from fed later w.alignment.limit grows near 1 (omega arith))
          (lane_grows_from fed later w.alignment.limit grows near 2 (omega arith)) searched,
    ) in
    record {
      none = λ d e f is. let late = none_yet w fed whatever d e f is.first.triple in omega arith;
      known = when_false (IsJudged fed) (HasNoneWhatever w fed × (w.alignment.limit ≡ limit)) w.is_judged flag (whatever, at);
    }

-- Where the epoch ends.

-- after a stray no sooner than the alignment's bits
pub slip_end : (w : Relock) (fed : Fed) (place : ℕ) (cause : Cause) → stray_ends fed cause place → HasNoDoubt w fed (place + 100) → relock_ends fed cause place
slip_end w fed place (Slip lane) end doubt = record { end = end; before = λ d e f is. let late = doubt.none d e f is in omega arith }
slip_end w fed place Unconfirmed end doubt = absurd end
slip_end w fed place Refuted end doubt = absurd end

-- or by the alignment, where no stray is shown before
pub doubt_end : (fed : Fed) (limit place : ℕ) → IsDoubt fed limit place → ((lane p : ℕ) → IsEnd fed lane p → limit ≤ p + 100) → relock_ends fed Unconfirmed place
doubt_end fed limit place doubt late =
    let before = doubt.before in
    record {
      blue = doubt.blue;
      green = doubt.green;
      red = doubt.red;
      unconfirmed = doubt.unconfirmed;
      forgets = doubt.forgets;
      before = λ lane p end. let h = late lane p end in omega arith;
    }

-- a stray that is found in the first bits is the first
pub late_after : (fed : Fed) (shown place lane p : ℕ) (cause : Cause) → stray_ends (front_of shown fed) cause place → IsEnd fed lane p → place ≡ p
late_after fed shown place lane p (Slip l) found end =
    (one_end fed l lane place p (stray_is_rule.stays (front_of shown fed) fed (Slip l) place found (front_grows shown fed)) end).1
late_after fed shown place lane p Unconfirmed found end = absurd found
late_after fed shown place lane p Refuted found end = absurd found

-- where the first bits have none
pub late_past : (fed : Fed) (shown lane p : ℕ) → HasNoEnd (front_of shown fed) → shown ≤ most_of fed → IsEnd fed lane p → shown < p + 120
late_past fed shown lane p none long end = elim (cases_lt shown (p + 120)) [
  | inl past ↦ past
  | inr within ↦
      let most = most_front shown fed in
      let was = end_was (front_of shown fed) fed lane p (front_grows shown fed) (omega arith) end in
      absurd (none lane was.within p was.stray)
]

-- a stray's run lies within the bits
pub slip_within : (fed : Fed) (cause : Cause) (place : ℕ) → stray_ends fed cause place → place + 120 ≤ most_of fed
slip_within fed (Slip lane) place end = end_within fed lane place end
slip_within fed Unconfirmed place end = absurd end
slip_within fed Refuted place end = absurd end

-- it is an end, where the alignment stands
pub slip_judged : (fed : Fed) (cause : Cause) (place : ℕ) → stray_ends fed cause place → IsJudged fed → relock_ends fed cause place
slip_judged fed (Slip lane) place end judged = record { end = end; before = λ d e f is. absurd (never_so false fed d e f judged is) }
slip_judged fed Unconfirmed place end judged = absurd end
slip_judged fed Refuted place end judged = absurd end

pub last_judged : (fed : Fed) → HasNoEnd fed → IsJudged fed → IsLastEpoch fed
last_judged fed none judged = record { no_stray = none; confirmed = λ d e f is. never_so false fed d e f judged is }

-- all places that are decided were looked at
no_stray_left : (xs : List Bool) (seen : ℕ) (lock : Option ℕ) → HasSought xs seen lock → length xs ≤ seen + 119 → (p : ℕ) → IsStray xs p → ⊥
no_stray_left xs seen lock sought all p stray = elim (cases_lt p seen) [
  | inl early ↦ sought.none p early stray
  | inr late ↦ let long = run_within xs p stray.run in omega arith
]

pub last_seeking : (w : Relock) (fed : Fed) → IsSought w.strays fed → IsSeeking w fed → most_of fed ≤ w.strays.seen + 119 → IsLastEpoch fed
last_seeking w fed sought seeking all = record {
  no_stray = none;
  confirmed = λ d e f is.
      let late = none_yet w fed seeking.searched d e f is.first.triple in
      let shown = shown_within fed d e f is in
      let far = far_edges fed d e f is in
      elim seeking.far [
        | inl nothing ↦ let z = nothing.0 in omega arith
        | inr some ↦ omega arith
      ];
}
  where
    none : HasNoEnd fed
    none zero lt p stray = no_stray_left fed.blue w.strays.seen w.strays.blue.lock sought.sought.blue (omega arith) p stray
    none (suc zero) lt p stray = no_stray_left fed.green w.strays.seen w.strays.green.lock sought.sought.green (omega arith) p stray
    none (suc (suc l)) lt p stray = no_stray_left fed.red w.strays.seen w.strays.red.lock sought.sought.red (omega arith) p stray

-- What a search answers.

pub judged_by : (w : Relock) (fed : Fed) (limit : ℕ) (edges : List ℕ) (found : Option ℕ) → w.is_judged ≡ true → IsAlignment fed.blue fed.green fed.red edges → greatest edges < limit → limit + 19 ≤ most_of fed
    → MatchOption found (IsOpened fed edges) (IsDoubted fed edges) → MatchOption found (HasNoDoubt w fed limit) (IsDoubt fed limit)
judged_by w fed limit edges None flag first before long opened = judged_here w fed limit edges flag first before long opened
judged_by w fed limit edges (Some place) flag first before long doubted = doubt_found fed edges first limit place before doubted

-- the next alignment after none is the first
pub first_found : (w : Relock) (fed : Fed) (edges : List ℕ) → w.alignment.past ≡ 0 → IsNextAlignment fed.blue fed.green fed.red w.alignment.past edges → IsAlignment fed.blue fed.green fed.red edges
first_found w fed edges first next = (next_is_first fed.blue fed.green fed.red edges).0 (subst (λ n. IsNextAlignment fed.blue fed.green fed.red n edges) first next)

-- an alignment that is found lies near the place from which on it was looked for
pub edges_lent : (fed : Fed) (edges : List ℕ) (limit base : ℕ) → IsAlignment fed.blue fed.green fed.red edges → limit ≤ greatest edges → base ≤ limit - 119 → base ≤ least edges
edges_lent fed edges limit base first late after =
    let a = first.triple.blue_green in
    let b = first.triple.green_red in
    let c = first.triple.blue_red in
    omega arith

-- The end that the bits before a place show.

module _ (fed : Fed) (shown : ℕ) (long : shown ≤ most_of fed) where
  abbrev pub IsFirstSlip : Strays → Option End → Type 0
  IsFirstSlip w slip =
      MatchOption slip (IsSought w (front_of shown fed) × HasNoEnd (front_of shown fed) × (most_of (front_of shown fed) ≤ w.seen + 119)) (λ end. stray_ends (front_of shown fed) end.cause end.place)

  abbrev pub IsUntil : Option End → ℕ → Type 0
  IsUntil slip until = MatchOption slip (until ≡ shown - 119) (λ end. until ≡ end.place)

  pub until_within : (w : Strays) (slip : Option End) (until : ℕ) → 119 < shown → IsFirstSlip w slip → IsUntil slip until → until + 119 ≤ shown
  until_within w None until some found at = omega (arith, at)
  until_within w (Some end) until some found at = omega (arith, at, slip_within (front_of shown fed) end.cause end.place found, most_front shown fed)

  pub until_after : (before w : Strays) (slip : Option End) (until : ℕ) → IsSought before (front_of shown fed) → before.seen + 119 < shown → IsFirstSlip w slip → IsUntil slip until → before.seen ≤ until
  until_after before w None until sought more found at = omega (arith, at)
  until_after before w (Some end) until sought more found at = omega (arith, at, stray_is_watch.not_before before (front_of shown fed) end.cause end.place sought found)

  -- an alignment that is shown before the first stray's run ends is left
  pub doubt_first : (w : Strays) (slip : Option End) (until place : ℕ) → 119 < shown → IsFirstSlip w slip → IsUntil slip until → IsDoubt fed (until + 100) place → relock_ends fed Unconfirmed place
  doubt_first w None until place some found at doubt =
      doubt_end fed (until + 100) place doubt (λ lane p end. omega (arith, at, late_past fed shown lane p found.1 long end))
  doubt_first w (Some slip) until place some found at doubt =
      doubt_end fed (until + 100) place doubt (λ lane p end. omega (arith, at, late_after fed shown slip.place lane p slip.cause found end))

  -- where none is, the stray ends the epoch, or more is to be looked at
  pub none_first : (w : Relock) (slip : Option End) (until : ℕ) → 119 < shown → IsFirstSlip w.strays slip → IsUntil slip until → HasNoDoubt w fed (until + 100)
      → MatchOption slip (HasWatched w fed × (w.strays.seen + 119 ≡ shown)) (λ end. relock_ends fed end.cause end.place)
  none_first w (Some slip) until some found at doubt =
      slip_end w fed slip.place slip.cause (stray_is_rule.stays (front_of shown fed) fed slip.cause slip.place found (front_grows shown fed)) (subst (λ n. HasNoDoubt w fed (n + 100)) at doubt)
  none_first w None until some found at doubt =
      let most = most_front shown fed in
      let all = found.2 in
      let here : w.strays.seen + 119 ≡ shown = elim found.0.decided [
        | inl none ↦ absurd (omega arith)
        | inr few ↦ omega arith
      ] in
      let limit : until + 100 ≡ w.strays.seen + 100 = omega (arith, at) in (
        record {
          sought = stray_is_watch.looks_on w.strays (front_of shown fed) fed found.0 (front_grows shown fed);
          judged = by w.is_judged limit doubt.known;
        },
        here,
      )
    where
      by : (b : Bool) → until + 100 ≡ w.strays.seen + 100 → MatchBool b (IsJudged fed) (HasNoneWhatever w fed × (w.alignment.limit ≡ until + 100)) → MatchBool b (IsJudged fed) (IsSeeking w fed)
      by true e judged = judged
      by false e known = let f = known.1 in record { searched = known.0; far = inr (f ∙ e) }

-- How far the limit of the search is, at first.

pub limit_before : (w : Relock) (fed : Fed) (base : ℕ) → IsSeeking w fed → base ≤ passed_of w → base ≤ w.alignment.limit - 119
limit_before w fed base seeking from = elim seeking.far [
  | inl none ↦ let a = none.0 in let b = none.1 in omega arith
  | inr some ↦ omega arith
]

pub limit_rises : (w : Relock) (fed : Fed) (until : ℕ) → IsSeeking w fed → w.strays.seen ≤ until → w.alignment.limit ≤ until + 100
limit_rises w fed until seeking after = elim seeking.far [
  | inl none ↦ let a = none.0 in let b = none.1 in omega arith
  | inr some ↦ omega arith
]

-- all bits of the longest lane are lent
pub all_lent : (lanes : LentLanes) (fed : Fed) (longest : ℕ) → AreLent lanes fed → longest ≡ max lanes.blue.count (max lanes.green.count lanes.red.count) → lanes.base + longest ≡ most_of fed
all_lent lanes fed longest lent is =
    let a = lent.blue.many in
    let b = lent.green.many in
    let c = lent.red.many in
    let within = lent.within in
    omega (arith, length-drop lanes.base fed.blue, length-drop lanes.base fed.green, length-drop lanes.base fed.red)

-- strays are all that is looked for of an alignment that stands
pub judged_on : (w now : Relock) (fed : Fed) (found : Option End) → w.is_judged ≡ true → now.is_judged ≡ true → HasWatched w fed
    → MatchOption found (IsSought now.strays fed × HasNoEnd fed × (most_of fed ≤ now.strays.seen + 119)) (λ end. stray_ends fed end.cause end.place)
    → MatchOption found (HasWatched now fed × IsLastEpoch fed × (most_of fed ≤ passed_of now + 209)) (λ end. relock_ends fed end.cause end.place)
judged_on w now fed None flag still watched none =
    let judged = is_judged_by w fed flag watched in
    let all = none.2 in
    (record { sought = none.0; judged = when_true (IsJudged fed) (IsSeeking now fed) now.is_judged still judged }, last_judged fed none.1 judged, omega arith)
judged_on w now fed (Some end) flag still watched slip = slip_judged fed end.cause end.place slip (is_judged_by w fed flag watched)

-- where no place is left to look at
pub seeking_on : (w : Relock) (fed : Fed) → w.is_judged ≡ false → HasWatched w fed → most_of fed ≤ w.strays.seen + 119 → HasWatched w fed × IsLastEpoch fed × (most_of fed ≤ passed_of w + 209)
seeking_on w fed flag watched all = (watched, last_seeking w fed watched.sought (is_seeking w fed flag watched) all, omega arith)
