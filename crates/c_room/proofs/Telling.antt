-- What a sink of each kind reports.
use Rattle.std.proofs.Common.{◌≡◌, ℕ, false, List, [], ◌++◌, refl, sym, subst, cond, append-nil}
use Rattle.period_grammar.specs.Events.{Event, EventAt, all_at}
use Rattle.link_sink.specs.Grammar.{Grammar, link_grammar}
use Rattle.link_sink.specs.Sinks.{Fed, IsGainAt, IsLastBy}
use Rattle.link_sink.specs.declared.hear.Outcome.{Outcome}
use Rattle.dvi_hearing.specs.DviGrammar.{dvi_grammar}
use Rattle.track_sink.specs.Epochs.{EpochRule, IsTrackAt, stray_rule}
use Rattle.track_sink.specs.Rules.{IsRule}
use Rattle.track_sink.specs.TrackEvents.{TrackEventAt, track_events_of}
use Rattle.track_sink.specs.TrackSinks.{EpochSinkSeen, EpochSinkTells}
use Rattle.track_sink.specs.Tracks.{HasTrackedAt}
use Rattle.track_sink.specs.declared.ear.TrackOutcome.{TrackOutcome}
use Rattle.track_sink.proofs.One.{at_columns_is_one, one_so_far}
use Rattle.relock_sink.specs.Refuting.{refuting_rule}
use Rattle.c_room.specs.declared.ended.EndCounts.{EndCounts}
use Rattle.c_room.specs.declared.kind.Kind.{Kind}
use Rattle.c_room.specs.declared.kind.Kind.TheVariants.{Link, Dvi, Track, Relock}
use Rattle.c_room.specs.declared.room.EventRoom.{EventRoom}
use Rattle.c_room.specs.Reports.{IsColumnGain, IsColumnEnd, IsEpochGain, IsEpochEnd, IsGainOfKind}
use Rattle.c_room.specs.TrackWritten.{track_writing}
use Rattle.c_room.specs.TrackWrittenLaws.{told_by_events}
use Rattle.c_room.specs.Written.{link_writing, HasTaken}
use Rattle.c_room.proofs.Pieces.{gain_none}

-- by a grammar
pub columns_told : (g : Grammar) (before now : Fed) (x y : EventRoom) → (events : List EventAt) × IsGainAt g before now events × HasTaken link_writing x y events
    → (told : List TrackEventAt) × IsColumnGain g before now told × HasTaken track_writing x y told
columns_told g before now x y e = (track_events_of e.0, record { events = e.0; gain = e.1; told_are = refl }, told_by_events x y e.0 e.2)

pub columns_ended : (g : Grammar) (fed : Fed) (outcome : Outcome) (counts : EndCounts) (x y : EventRoom) → counts.columns ≡ outcome.columns → counts.aligned ≡ cond outcome.aligned 1 0
    → (events : List Event) × IsLastBy g fed outcome events × HasTaken link_writing x y (all_at outcome.columns events)
    → (told : List TrackEventAt) × IsColumnEnd g fed counts told × HasTaken track_writing x y told
columns_ended g fed outcome counts x y columns aligned e =
    let events = all_at outcome.columns e.0 in
    (track_events_of events, record { outcome = outcome; events = e.0; last = e.1; told_are = refl; columns_are = columns; aligned_is = aligned }, told_by_events x y events e.2)

-- by a rule of epochs: of the bits before one list was reported
module _ {W : Type 0} {r : EpochRule} {looked : W → Fed → Type 0} {passed : W → ℕ} (is : IsRule r) (sink : EpochSinkSeen W) (before : Fed) (was : List TrackEventAt) (tells : EpochSinkTells r looked passed sink before was) (x y : EventRoom) where
  same : (reported : List TrackEventAt) → HasTrackedAt r before reported → was ≡ reported
  same reported h = one_so_far at_columns_is_one is false 0 before was reported tells.tracked h

  pub epochs_told : (new : EpochSinkSeen W) (now : Fed) → (told : List TrackEventAt) × EpochSinkTells r looked passed new now (was ++ told) × HasTaken track_writing x y told
      → (told : List TrackEventAt) × IsEpochGain r before now told × HasTaken track_writing x y told
  epochs_told new now t = (t.0, λ reported h. subst (λ (us : List TrackEventAt). HasTrackedAt r now (us ++ t.0)) (same reported h) t.1.tracked, t.2)

  pub epochs_ended : (outcome : TrackOutcome) (counts : EndCounts) → counts.columns ≡ outcome.epochs → counts.aligned ≡ outcome.aligned
      → (last : List TrackEventAt) × IsTrackAt r before outcome.epochs outcome.aligned (was ++ last) × HasTaken track_writing x y last
      → (told : List TrackEventAt) × IsEpochEnd r before counts told × HasTaken track_writing x y told
  epochs_ended outcome counts columns aligned t =
      let all : IsTrackAt r before counts.columns counts.aligned (was ++ t.0) =
      subst (λ (n : ℕ). IsTrackAt r before n counts.aligned (was ++ t.0)) (sym columns) (subst (λ (m : ℕ). IsTrackAt r before outcome.epochs m (was ++ t.0)) (sym aligned) t.1) in
      (t.0, λ reported h. subst (λ (us : List TrackEventAt). IsTrackAt r before counts.columns counts.aligned (us ++ t.0)) (same reported h) all, t.2)

-- nothing more is no gain
no_epoch_gain : (r : EpochRule) (fed : Fed) → IsEpochGain r fed fed []
no_epoch_gain r fed = λ reported h. subst (λ (us : List TrackEventAt). HasTrackedAt r fed us) (sym (append-nil reported)) h

pub no_gain : (kind : Kind) (fed : Fed) → IsGainOfKind kind fed fed []
no_gain Link fed = record { events = []; gain = gain_none link_grammar.so_far_at fed; told_are = refl }
no_gain Dvi fed = record { events = []; gain = gain_none dvi_grammar.so_far_at fed; told_are = refl }
no_gain Track fed = no_epoch_gain stray_rule fed
no_gain Relock fed = no_epoch_gain refuting_rule fed
