-- What was looked at of an epoch, when more bits arrive, and that it has no end there.
use Rattle.std.proofs.Common.{◌≡◌, ◌⊎◌, ℕ, ◌+◌, ◌-◌, ◌≤◌, max, Bool, true, false, subst, arith, inl, inr}
use Rattle.std.specs.Prelude.{MatchBool}
use Rattle.std.proofs.lemmas.Bool.{cases_lt}
use Rattle.lane_deskew.proofs.First.{one_first}
use Rattle.lane_deskew.specs.Triples.{IsTriple}
use Rattle.link_sink.specs.Sinks.{Fed}
use Rattle.track_sink.specs.Epochs.{most_of}
use Rattle.track_sink.specs.Tracks.{Grows}
use Rattle.track_sink.specs.StrayRule.{stray_is_watch}
use Rattle.track_sink.specs.declared.watch.Cause.{Cause}
use Rattle.track_sink.specs.declared.watch.Cause.TheVariants.{Slip, Unconfirmed, Refuted}
use Rattle.track_sink.specs.Feds.{grows_twice, same_grows, most_grows}
use Rattle.relock_sink.specs.Relocks.{IsFirstSo, relock_ends}
use Rattle.relock_sink.specs.Watches.{IsNever, IsJudged, HasNoneWhatever, IsSeeking, HasWatched, passed_of}
use Rattle.relock_sink.specs.declared.relock.Relock.{Relock}
use Rattle.relock_sink.specs.Growing.{first_stays, first_so_was}

pub never_on : (opens : Bool) (before now : Fed) → Grows before now → IsNever opens before → IsNever opens now
never_on opens before now grows was =
    let more = most_grows before now grows in
    let shown = was.shown in
    record {
      blue = was.blue;
      green = was.green;
      red = was.red;
      first = first_stays before now grows was.blue was.green was.red was.first;
      shown = omega arith;
      never = λ is. was.never (first_so_was before now grows was.blue was.green was.red opens was.shown is);
    }

pub whatever_on : (w : Relock) (before now : Fed) → Grows before now → HasNoneWhatever w before → HasNoneWhatever w now
whatever_on w before now grows was = (was.0, λ later more. was.1 later (grows_twice before now later grows more))

-- none has all edges before the limit now
pub none_yet : (w : Relock) (fed : Fed) → HasNoneWhatever w fed → (d e f : ℕ) → IsTriple fed.blue fed.green fed.red d e f → w.alignment.limit ≤ max d (max e f)
none_yet w fed none d e f t = let first = none.0 in (none.1 fed (same_grows fed)).none d e f t (omega arith)

pub looks_on : (w : Relock) (before now : Fed) → HasWatched w before → Grows before now → HasWatched w now
looks_on w before now was grows = record {
  sought = stray_is_watch.looks_on w.strays before now was.sought grows;
  judged = by w.is_judged was.judged;
}
  where
    by : (b : Bool) → MatchBool b (IsJudged before) (IsSeeking w before) → MatchBool b (IsJudged now) (IsSeeking w now)
    by true judged = never_on false before now grows judged
    by false seeking = record { searched = whatever_on w before now grows seeking.searched; far = seeking.far }

-- no other alignment is the first
pub never_so : (opens : Bool) (fed : Fed) (d e f : ℕ) → IsNever opens fed → IsFirstSo opens fed d e f → ⊥
never_so opens fed d e f never is =
    let s = one_first fed.blue fed.green fed.red d e f never.blue never.green never.red is.first never.first in
    never.never (subst (λ p. IsFirstSo opens fed p never.green never.red) s.0 (subst (λ q. IsFirstSo opens fed d q never.red) s.1 (subst (λ r. IsFirstSo opens fed d e r) s.2 is)))

pub not_before : (w : Relock) (fed : Fed) (cause : Cause) (place : ℕ) → HasWatched w fed → relock_ends fed cause place → passed_of w ≤ place
not_before w fed (Slip lane) place looked is =
    let past = stray_is_watch.not_before w.strays fed (Slip lane) place looked.sought is.end in
    omega arith
not_before w fed Unconfirmed place looked is = by w.is_judged looked.judged
  where
    by : (b : Bool) → MatchBool b (IsJudged fed) (IsSeeking w fed) → w.strays.seen - 90 ≤ place
    by true judged = absurd (never_so false fed is.blue is.green is.red judged is.unconfirmed)
    by false seeking =
        let t = is.unconfirmed.first.triple in
        let late = none_yet w fed seeking.searched is.blue is.green is.red t in
        let a = t.blue_green in
        let b = t.green_red in
        let c = t.blue_red in
        let at = is.forgets in
        elim seeking.far [
          | inl none ↦ let z = none.0 in omega arith
          | inr some ↦ omega arith
        ]
not_before w fed Refuted place looked is = absurd is

pub reaches : (w : Relock) (fed : Fed) → HasWatched w fed → (passed_of w ≡ 0) ⊎ (passed_of w + 209 ≤ most_of fed)
reaches w fed looked = elim looked.sought.decided [
  | inl none ↦ inl (omega arith)
  | inr some ↦ elim (cases_lt w.strays.seen 90) [
    | inl few ↦ inl (omega arith)
    | inr many ↦ inr (omega arith)
  ]
]
