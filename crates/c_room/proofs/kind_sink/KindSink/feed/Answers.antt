use Rattle.std.proofs.Common.{◌++◌, List, sym, subst}
use Rattle.link_sink.specs.Grammar.{link_grammar}
use Rattle.dvi_hearing.specs.DviGrammar.{dvi_grammar}
use Rattle.track_sink.specs.StrayRule.{stray_is_rule}
use Rattle.track_sink.specs.TrackEvents.{TrackEventAt}
use Rattle.relock_sink.specs.RefuterRule.{refuting_is_rule}
use Rattle.c_room.specs.declared.kind_sink.KindSink.{KindSink}
use Rattle.c_room.specs.KindRooms.{IsKindFull}
use Rattle.c_room.specs.Reports.{IsGainOfKind}
use Rattle.c_room.specs.Sinks.{kind_of, StandsFor, HasTakenBits}
use Rattle.c_room.specs.Takes.{counts_to, grown_to}
use Rattle.c_room.specs.TrackWritten.{track_writing}
use Rattle.c_room.specs.Written.{HasTaken}
use Rattle.c_room.proofs.Few.{link_bounded}
use Rattle.c_room.proofs.FewDvi.{dvi_bounded}
use Rattle.c_room.proofs.Telling.{columns_told, epochs_told}
use Rattle.c_room.proofs.kind_sink.KindSink.feed.Goals as goal

pub feed_lanes-requires-clause-bounded : goal.feed_lanes-requires-clause-bounded
feed_lanes-requires-clause-bounded c = link_bounded

pub feed_lanes-requires-in-Dvi-clause-bounded : goal.feed_lanes-requires-in-Dvi-clause-bounded
feed_lanes-requires-in-Dvi-clause-bounded c = dvi_bounded

pub feed_epochs-requires-clause-tells : goal.feed_epochs-requires-clause-tells
feed_epochs-requires-clause-tells c =
    let s = c.requires.stands in
    let t = subst (λ (s' : KindSink). StandsFor s' s.0) c.in-Track.is s.1 in
    (s.0, t.0, t.1)

pub feed_epochs-requires-in-Relock-clause-tells : goal.feed_epochs-requires-in-Relock-clause-tells
feed_epochs-requires-in-Relock-clause-tells c =
    let s = c.requires.stands in
    let t = subst (λ (s' : KindSink). StandsFor s' s.0) c.in-Relock.is s.1 in
    (s.0, t.0, t.1)

pub returns-in-Link-clause-taken : goal.returns-in-Link-clause-taken
returns-in-Link-clause-taken c = λ fed h. c.feed_lanes.ensures.taken fed (subst (λ (s : KindSink). HasTakenBits s fed) c.in-Link.is h)

pub returns-in-Link-clause-reported : goal.returns-in-Link-clause-reported
returns-in-Link-clause-reported c = λ fed h.
    let f = c.feed_lanes in
    let now = grown_to (counts_to f.result c.args.lanes.bits) fed c.args.lanes in
    subst (λ (s : KindSink). (told : List TrackEventAt) × IsGainOfKind (kind_of s) fed now told × HasTaken track_writing c.args.room.now f.new.room told) (sym c.in-Link.is)
    (columns_told link_grammar fed now c.args.room.now f.new.room (f.ensures.reported fed (subst (λ (s : KindSink). StandsFor s fed) c.in-Link.is h)))

pub returns-in-Dvi-clause-taken : goal.returns-in-Dvi-clause-taken
returns-in-Dvi-clause-taken c = λ fed h. c.feed_lanes-in-Dvi.ensures.taken fed (subst (λ (s : KindSink). HasTakenBits s fed) c.in-Dvi.is h)

pub returns-in-Dvi-clause-reported : goal.returns-in-Dvi-clause-reported
returns-in-Dvi-clause-reported c = λ fed h.
    let f = c.feed_lanes-in-Dvi in
    let now = grown_to (counts_to f.result c.args.lanes.bits) fed c.args.lanes in
    subst (λ (s : KindSink). (told : List TrackEventAt) × IsGainOfKind (kind_of s) fed now told × HasTaken track_writing c.args.room.now f.new.room told) (sym c.in-Dvi.is)
    (columns_told dvi_grammar fed now c.args.room.now f.new.room (f.ensures.reported fed (subst (λ (s : KindSink). StandsFor s fed) c.in-Dvi.is h)))

pub feed_epochs-requires-clause-lanes : goal.feed_epochs-requires-clause-lanes
feed_epochs-requires-clause-lanes c =
    let l = c.requires.lanes in
    (l.0, subst (λ (s : KindSink). HasTakenBits s l.0) c.in-Track.is l.1, l.2, l.3)

pub returns-in-Track-clause-full : goal.returns-in-Track-clause-full
returns-in-Track-clause-full c = λ less. subst (λ (s : KindSink). IsKindFull (kind_of s) c.feed_epochs.new.room) (sym c.in-Track.is) (c.feed_epochs.ensures.full less)

pub returns-in-Track-clause-taken : goal.returns-in-Track-clause-taken
returns-in-Track-clause-taken c = λ fed h. c.feed_epochs.ensures.taken fed (subst (λ (s : KindSink). HasTakenBits s fed) c.in-Track.is h)

pub returns-in-Track-clause-stands : goal.returns-in-Track-clause-stands
returns-in-Track-clause-stands c = λ fed h.
    let t = subst (λ (s : KindSink). StandsFor s fed) c.in-Track.is h in
    let one = c.feed_epochs.ensures.reported fed t.0 t.1 in
    (t.0 ++ one.0, one.1)

pub returns-in-Track-clause-reported : goal.returns-in-Track-clause-reported
returns-in-Track-clause-reported c = λ fed h.
    let f = c.feed_epochs in
    let now = grown_to (counts_to f.result c.args.lanes.bits) fed c.args.lanes in
    let t = subst (λ (s : KindSink). StandsFor s fed) c.in-Track.is h in
    subst (λ (s : KindSink). (told : List TrackEventAt) × IsGainOfKind (kind_of s) fed now told × HasTaken track_writing c.args.room.now f.new.room told) (sym c.in-Track.is)
    (epochs_told stray_is_rule _ fed t.0 t.1 c.args.room.now f.new.room f.new.sink now (f.ensures.reported fed t.0 t.1))

pub feed_epochs-requires-in-Relock-clause-lanes : goal.feed_epochs-requires-in-Relock-clause-lanes
feed_epochs-requires-in-Relock-clause-lanes c =
    let l = c.requires.lanes in
    (l.0, subst (λ (s : KindSink). HasTakenBits s l.0) c.in-Relock.is l.1, l.2, l.3)

pub returns-in-Relock-clause-full : goal.returns-in-Relock-clause-full
returns-in-Relock-clause-full c = λ less. subst (λ (s : KindSink). IsKindFull (kind_of s) c.feed_epochs-in-Relock.new.room) (sym c.in-Relock.is) (c.feed_epochs-in-Relock.ensures.full less)

pub returns-in-Relock-clause-taken : goal.returns-in-Relock-clause-taken
returns-in-Relock-clause-taken c = λ fed h. c.feed_epochs-in-Relock.ensures.taken fed (subst (λ (s : KindSink). HasTakenBits s fed) c.in-Relock.is h)

pub returns-in-Relock-clause-stands : goal.returns-in-Relock-clause-stands
returns-in-Relock-clause-stands c = λ fed h.
    let t = subst (λ (s : KindSink). StandsFor s fed) c.in-Relock.is h in
    let one = c.feed_epochs-in-Relock.ensures.reported fed t.0 t.1 in
    (t.0 ++ one.0, one.1)

pub returns-in-Relock-clause-reported : goal.returns-in-Relock-clause-reported
returns-in-Relock-clause-reported c = λ fed h.
    let f = c.feed_epochs-in-Relock in
    let now = grown_to (counts_to f.result c.args.lanes.bits) fed c.args.lanes in
    let t = subst (λ (s : KindSink). StandsFor s fed) c.in-Relock.is h in
    subst (λ (s : KindSink). (told : List TrackEventAt) × IsGainOfKind (kind_of s) fed now told × HasTaken track_writing c.args.room.now f.new.room told) (sym c.in-Relock.is)
    (epochs_told refuting_is_rule _ fed t.0 t.1 c.args.room.now f.new.room f.new.sink now (f.ensures.reported fed t.0 t.1))
