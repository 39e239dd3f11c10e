-- What was looked at of an epoch, when more bits arrive, and that it has no end there.
use Rattle.std.proofs.Common.{◌≡◌, ◌⊎◌, ℕ, ◌+◌, ◌<◌, ◌≤◌, false, sym, subst, arith, inl, inr}
use Rattle.std.proofs.lemmas.Bool.{cases_lt}
use Rattle.link_sink.specs.Sinks.{Fed}
use Rattle.track_sink.specs.Epochs.{most_of, front_of, IsEnd}
use Rattle.track_sink.specs.Tracks.{Grows}
use Rattle.track_sink.specs.Feds.{most_grows}
use Rattle.track_sink.specs.declared.watch.Cause.{Cause}
use Rattle.track_sink.specs.declared.watch.Cause.TheVariants.{Slip, Unconfirmed, Refuted}
use Rattle.relock_sink.specs.Relocks.{IsUnconfirmed, IsUnconfirmedEnd, IsLastEpoch, shown_at}
use Rattle.relock_sink.specs.Growing.{first_so_was}
use Rattle.relock_sink.specs.Ends.{end_was}
use Rattle.relock_sink.specs.FrontsGrowing.{most_front, front_grows, front_stays}
use Rattle.relock_sink.specs.Watches.{HasWatched}
use Rattle.relock_sink.specs.Refuting.{IsRefutedEnd, refuting_ends}
use Rattle.relock_sink.specs.RefutedDecided.{later_of}
use Rattle.relock_sink.specs.Refuters.{HasLooked, refuter_passed}
use Rattle.relock_sink.specs.RivalSearching.{rivals_on}
use Rattle.relock_sink.specs.declared.refuter.Refuter.{Refuter}

pub looks_on : (w : Refuter) (before now : Fed) → HasLooked w before → Grows before now → HasLooked w now
looks_on w before now was grows =
    let more = most_grows before now grows in
    let long = was.within in
    let same = sym (front_stays before now w.shown grows long) in
    record {
      within = omega arith;
      watched = subst (HasWatched w.relock) same was.watched;
      far = was.far;
      last = subst IsLastEpoch same was.last;
      rivals = rivals_on w.rivals before now was.rivals grows;
      limit = was.limit;
    }

-- where the first bits show no end, a stray's run ends past them
pub no_stray_shown : (fed : Fed) (shown lane place : ℕ) → shown ≤ most_of fed → IsLastEpoch (front_of shown fed) → IsEnd fed lane place → shown < place + 120
no_stray_shown fed shown lane place long last end = elim (cases_lt shown (place + 120)) [
  | inl past ↦ past
  | inr within ↦
      let most = most_front shown fed in
      let was = end_was (front_of shown fed) fed lane place (front_grows shown fed) (omega arith) end in
      absurd (last.no_stray lane was.within place was.stray)
]

-- and so do the bits that show an alignment unconfirmed
no_doubt_shown : (fed : Fed) (shown d e f : ℕ) → shown ≤ most_of fed → IsLastEpoch (front_of shown fed) → IsUnconfirmed fed d e f → shown < shown_at d e f
no_doubt_shown fed shown d e f long last is = elim (cases_lt shown (shown_at d e f)) [
  | inl past ↦ past
  | inr within ↦
      let most = most_front shown fed in
      absurd (last.confirmed d e f (first_so_was (front_of shown fed) fed (front_grows shown fed) d e f false (omega arith) is))
]

unconfirmed_past : (w : Refuter) (fed : Fed) (place : ℕ) → HasLooked w fed → IsUnconfirmedEnd fed place → refuter_passed w ≤ place
unconfirmed_past w fed place looked is =
    let t = is.unconfirmed.first.triple in
    let late = no_doubt_shown fed w.shown is.blue is.green is.red looked.within looked.last is.unconfirmed in
    let a = t.blue_green in
    let b = t.green_red in
    let c = t.blue_red in
    let at = is.forgets in
    omega arith

refuted_past : (w : Refuter) (fed : Fed) (place : ℕ) → HasLooked w fed → IsRefutedEnd fed place → refuter_passed w ≤ place
refuted_past w fed place looked is =
    let t = (later_of fed is.own_blue is.own_green is.own_red is.blue is.green is.red is.refuted).triple in
    let late = looked.rivals.none is.own_blue is.own_green is.own_red is.blue is.green is.red is.refuted in
    let limit = looked.limit in
    let a = t.blue_green in
    let b = t.green_red in
    let c = t.blue_red in
    let at = is.begins in
    omega arith

pub not_before : (w : Refuter) (fed : Fed) (cause : Cause) (place : ℕ) → HasLooked w fed → refuting_ends fed cause place → refuter_passed w ≤ place
not_before w fed (Slip lane) place looked is = let late = no_stray_shown fed w.shown lane place looked.within looked.last is.slip.end in omega arith
not_before w fed Unconfirmed place looked is = unconfirmed_past w fed place looked is
not_before w fed Refuted place looked is = refuted_past w fed place looked is

pub reaches : (w : Refuter) (fed : Fed) → HasLooked w fed → (refuter_passed w ≡ 0) ⊎ (refuter_passed w + 280 ≤ most_of fed)
reaches w fed looked = let long = looked.within in elim (cases_lt w.shown 280) [ inl few ↦ inl (omega arith) | inr many ↦ inr (omega arith) ]
