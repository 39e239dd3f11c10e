-- Where an epoch ends whose alignment is let go once it is refuted.
use Rattle.std.proofs.Common.{◌≡◌, ◌⊎◌, ℕ, ◌+◌, ◌-◌, ◌<◌, ◌≤◌, max, Option, Some, None, sym, subst, refl, arith, inl, inr}
use Rattle.std.specs.Prelude.{MatchOption, IfSome, ◌^◌}
use Rattle.tmds_word.specs.declared.TheConstants.{MOST_BITS}
use Rattle.std.proofs.lemmas.Bool.{cases_lt}
use Rattle.link_sink.specs.Sinks.{Fed}
use Rattle.track_sink.specs.Epochs.{lane_of, most_of, front_of, IsEnd}
use Rattle.track_sink.specs.Feds.{no_longer}
use Rattle.lane_align.proofs.Controls.{run_within}
use Rattle.relock_sink.specs.Growing.{shown_within}
use Rattle.track_sink.specs.Ends.{end_within, one_end}
use Rattle.track_sink.specs.Staying.{end_stays}
use Rattle.track_sink.specs.declared.watch.Cause.{Cause}
use Rattle.track_sink.specs.declared.watch.Cause.TheVariants.{Slip, Unconfirmed, Refuted}
use Rattle.track_sink.specs.declared.watch.End.{End}
use Rattle.relock_sink.specs.Relocks.{IsLastEpoch, relock_ends}
use Rattle.relock_sink.specs.Ends.{stays as relock_stays, within as relock_within}
use Rattle.relock_sink.specs.FrontsGrowing.{most_front, front_grows, fronts_grow, front_whole}
use Rattle.relock_sink.specs.RelockRule.{relock_is_watch}
use Rattle.relock_sink.specs.Watches.{HasWatched, passed_of}
use Rattle.relock_sink.specs.Refuting.{IsRefutedEnd, IsLastUnrefuted, refuting_ends}
use Rattle.relock_sink.specs.Refuters.{HasLooked, limit_by, limit_at}
use Rattle.relock_sink.specs.RefuterWatching.{no_stray_shown}
use Rattle.relock_sink.specs.RivalSearches.{HasSoughtRivals, IsRefutedBefore}
use Rattle.relock_sink.specs.declared.relock.Relock.{Relock}
use Rattle.relock_sink.specs.declared.refuter.Refuter.{Refuter}

-- what was looked at of the first bits is so of more of them
pub watched_on : (w : Refuter) (fed : Fed) (shown : ℕ) → HasLooked w fed → w.shown ≤ shown → HasWatched w.relock (front_of shown fed)
watched_on w fed shown looked more = relock_is_watch.looks_on w.relock (front_of w.shown fed) (front_of shown fed) looked.watched (fronts_grow w.shown shown fed more)

-- what the first bits show of the other ends
abbrev pub IsShown : Relock → Fed → ℕ → Option End → Type 0
IsShown now fed shown end =
    MatchOption end (HasWatched now (front_of shown fed) × IsLastEpoch (front_of shown fed) × (most_of (front_of shown fed) ≤ passed_of now + 209)) (λ found. relock_ends (front_of shown fed) found.cause found.place)

module _ (w : Refuter) (fed : Fed) (shown : ℕ) (looked : HasLooked w fed) (more : w.shown ≤ shown) (long : shown ≤ most_of fed) where
  -- a stray that is found there was not shown before
  slip_late : (lane place : ℕ) → IsEnd (front_of shown fed) lane place → (w.shown < place + 120) × (place + 120 ≤ shown)
  slip_late lane place end =
      let most = most_front shown fed in
      let within = end_within (front_of shown fed) lane place end in
      let late = no_stray_shown fed w.shown lane place looked.within looked.last (end_stays (front_of shown fed) fed lane place end (front_grows shown fed)) in
      (late, omega arith)

  pub limit_within : (now : Relock) (end : Option End) → IsShown now fed shown end → (limit_at end shown ≡ 0) ⊎ (limit_at end shown + 89 ≤ most_of fed)
  limit_within now None is = elim (cases_lt shown 90) [ inl few ↦ inl (omega arith) | inr many ↦ inr (omega arith) ]
  limit_within now (Some end) is = by end.cause is
    where
      by : (cause : Cause) → relock_ends (front_of shown fed) cause end.place → (limit_by cause end.place ≡ 0) ⊎ (limit_by cause end.place + 89 ≤ most_of fed)
      by (Slip lane) slip = let h = slip_late lane end.place slip.end in inr (omega (arith, h.1))
      by Unconfirmed is = inl refl
      by Refuted is = absurd is

  pub limit_rises : (now : Relock) (end : Option End) → IsShown now fed shown end → (limit_at end shown ≡ 0) ⊎ (w.rivals.alignments.limit ≤ limit_at end shown)
  limit_rises now None is = let at = looked.limit in inr (omega arith)
  limit_rises now (Some end) is = by end.cause is
    where
      by : (cause : Cause) → relock_ends (front_of shown fed) cause end.place → (limit_by cause end.place ≡ 0) ⊎ (w.rivals.alignments.limit ≤ limit_by cause end.place)
      by (Slip lane) slip = let h = slip_late lane end.place slip.end in let at = looked.limit in inr (omega (arith, h.0))
      by Unconfirmed is = inl refl
      by Refuted is = absurd is

  pub place_small : (now : Relock) (end : Option End) → IsShown now fed shown end → IfSome end (λ found. found.place < most_of fed)
  place_small now None is = tt
  place_small now (Some end) is =
      let within = relock_within (front_of shown fed) end.cause end.place is in
      let most = most_front shown fed in
      omega (arith, within.1)

-- The end that is found.

module _ (fed : Fed) (shown : ℕ) (long : shown ≤ most_of fed) where
  refuted_is_end : (limit place : ℕ) → IsRefutedBefore fed limit place → ((lane p : ℕ) → IsEnd fed lane p → limit ≤ p + 30) → IsRefutedEnd fed place
  refuted_is_end limit place is late =
      let less = is.before in
      record {
        own_blue = is.own_blue;
        own_green = is.own_green;
        own_red = is.own_red;
        blue = is.blue;
        green = is.green;
        red = is.red;
        refuted = is.first.refuted;
        shown = is.first.shown;
        least = is.first.least;
        begins = is.begins;
        before = λ lane p end. let h = late lane p end in omega arith;
      }

  -- edges that refute the alignment end the epoch, where no stray is shown before
  pub refuted_found : (now : Relock) (end : Option End) (place : ℕ) → IsShown now fed shown end → IsRefutedBefore fed (limit_at end shown) place → IsRefutedEnd fed place
  refuted_found now None place is refuted =
      refuted_is_end (shown - 89) place refuted (λ lane p end. let late = no_stray_shown fed shown lane p long is.1 end in omega arith)
  refuted_found now (Some found) place is refuted = by found.cause is refuted
    where
      by : (cause : Cause) → relock_ends (front_of shown fed) cause found.place → IsRefutedBefore fed (limit_by cause found.place) place → IsRefutedEnd fed place
      by (Slip lane) slip refuted =
          let stays = end_stays (front_of shown fed) fed lane found.place slip.end (front_grows shown fed) in
          refuted_is_end (found.place + 30) place refuted (λ l p end. let same = one_end fed lane l found.place p stays end in let at = same.1 in omega arith)
      by Unconfirmed other refuted = let less = refuted.before in absurd (omega arith)
      by Refuted other refuted = absurd other

  -- where none do, another end is the first, or more is to be looked at
  pub none_found : (w : Refuter) (limit : ℕ) (end : Option End) → IsShown w.relock fed shown end → w.shown ≡ shown → HasSoughtRivals w.rivals fed → w.rivals.alignments.limit ≡ max limit (limit_at end shown) → limit ≤ shown - 89
      → MatchOption end (HasLooked w fed) (λ found. refuting_ends fed found.cause found.place)
  none_found w limit None is at rivals is_limit before =
      let P : ℕ → Type 0 = λ n. HasWatched w.relock (front_of n fed) in
      let Q : ℕ → Type 0 = λ n. IsLastEpoch (front_of n fed) in
      let most = most_front shown fed in
      let far = is.2 in
      record {
        within = omega arith;
        watched = subst P (sym at) is.0;
        far = omega arith;
        last = subst Q (sym at) is.1;
        rivals = rivals;
        limit = omega arith;
      }
  none_found w limit (Some found) is at rivals is_limit before = by found.cause is is_limit
    where
      by : (cause : Cause) → relock_ends (front_of shown fed) cause found.place → w.rivals.alignments.limit ≡ max limit (limit_by cause found.place) → refuting_ends fed cause found.place
      by (Slip lane) slip is_limit = record {
        slip = relock_stays (front_of shown fed) fed (Slip lane) found.place slip (front_grows shown fed);
        before = λ p q r d e f other. let late = rivals.none p q r d e f other in omega arith;
      }
      by Unconfirmed other is_limit = relock_stays (front_of shown fed) fed Unconfirmed found.place other (front_grows shown fed)
      by Refuted other is_limit = absurd other

-- where all bits were looked through there is no end
pub none_left : (w : Refuter) (fed : Fed) → HasLooked w fed → most_of fed ≤ w.shown → IsLastUnrefuted fed
none_left w fed looked all =
    let within = looked.within in
    let at : w.shown ≡ most_of fed = omega arith in
    let P : ℕ → Type 0 = λ n. IsLastEpoch (front_of n fed) in
    let limit = looked.limit in
    record {
      last = subst IsLastEpoch (front_whole fed) (subst P at looked.last);
      unrefuted = λ p q r d e f is. let late = looked.rivals.none p q r d e f is in omega arith;
    }

-- no bits show no end
pub last_nothing : (fed : Fed) → IsLastEpoch (front_of 0 fed)
last_nothing fed =
    let most = most_front 0 fed in
    record {
      no_stray = λ lane lt p stray.
          let long = run_within (lane_of (front_of 0 fed) lane) p stray.run in
          let most_is = no_longer (front_of 0 fed) lane in
          omega arith;
      confirmed = λ d e f is. let shown = shown_within (front_of 0 fed) d e f is in omega arith;
    }

pub looked_new : (w : Refuter) (fed : Fed) → w.shown ≡ 0 → ((front : Fed) → HasWatched w.relock front) → HasSoughtRivals w.rivals fed → w.rivals.alignments.limit ≡ 0 → HasLooked w fed
looked_new w fed none watched rivals limit = record {
  within = omega arith;
  watched = watched (front_of w.shown fed);
  far = omega arith;
  last = subst (λ n. IsLastEpoch (front_of n fed)) (sym none) (last_nothing fed);
  rivals = rivals;
  limit = omega arith;
}

-- a place before the end of the bits is small
pub small_place : (end : Option End) (most : ℕ) → most < MOST_BITS → IfSome end (λ found. found.place < most) → IfSome end (λ found. found.place < 2 ^ 63)
small_place None most small is = is
small_place (Some found) most small is = omega arith
