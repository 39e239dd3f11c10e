use Rattle.std.proofs.Common.{List, sym, subst}
use Rattle.link_sink.specs.Grammar.{link_grammar}
use Rattle.dvi_hearing.specs.DviGrammar.{dvi_grammar}
use Rattle.track_sink.specs.StrayRule.{stray_is_rule}
use Rattle.track_sink.specs.TrackEvents.{TrackEventAt}
use Rattle.relock_sink.specs.RefuterRule.{refuting_is_rule}
use Rattle.c_room.specs.declared.kind_sink.KindSink.{KindSink}
use Rattle.c_room.specs.Reports.{IsEndOfKind}
use Rattle.c_room.specs.Sinks.{kind_of, StandsFor}
use Rattle.c_room.specs.TrackWritten.{track_writing}
use Rattle.c_room.specs.Written.{HasTaken}
use Rattle.c_room.proofs.Few.{link_bounded}
use Rattle.c_room.proofs.FewDvi.{dvi_bounded}
use Rattle.c_room.proofs.Telling.{columns_ended, epochs_ended}
use Rattle.c_room.proofs.kind_sink.KindSink.finish.Goals as goal

pub finish_sink-requires-clause-bounded : goal.finish_sink-requires-clause-bounded
finish_sink-requires-clause-bounded c = link_bounded

pub finish_sink-requires-in-Dvi-clause-bounded : goal.finish_sink-requires-in-Dvi-clause-bounded
finish_sink-requires-in-Dvi-clause-bounded c = dvi_bounded

pub finish_epochs-requires-clause-tells : goal.finish_epochs-requires-clause-tells
finish_epochs-requires-clause-tells c =
    let s = c.requires.stands in
    let t = subst (λ (s' : KindSink). StandsFor s' s.0) c.in-Track.is s.1 in
    (s.0, t.0, t.1)

pub finish_epochs-requires-in-Relock-clause-tells : goal.finish_epochs-requires-in-Relock-clause-tells
finish_epochs-requires-in-Relock-clause-tells c =
    let s = c.requires.stands in
    let t = subst (λ (s' : KindSink). StandsFor s' s.0) c.in-Relock.is s.1 in
    (s.0, t.0, t.1)

pub returns-in-Link-clause-reported : goal.returns-in-Link-clause-reported
returns-in-Link-clause-reported c = λ fed h.
    let f = c.finish_sink in
    let e = c.of_columns in
    subst (λ (s : KindSink). (told : List TrackEventAt) × IsEndOfKind (kind_of s) fed e.result told × HasTaken track_writing c.args.room.now f.new.room told) (sym c.in-Link.is)
    (columns_ended link_grammar fed f.result e.result c.args.room.now f.new.room e.ensures.columns e.ensures.aligned (f.ensures.reported fed (subst (λ (s : KindSink). StandsFor s fed) c.in-Link.is h)))

pub returns-in-Dvi-clause-reported : goal.returns-in-Dvi-clause-reported
returns-in-Dvi-clause-reported c = λ fed h.
    let f = c.finish_sink-in-Dvi in
    let e = c.of_columns-in-Dvi in
    subst (λ (s : KindSink). (told : List TrackEventAt) × IsEndOfKind (kind_of s) fed e.result told × HasTaken track_writing c.args.room.now f.new.room told) (sym c.in-Dvi.is)
    (columns_ended dvi_grammar fed f.result e.result c.args.room.now f.new.room e.ensures.columns e.ensures.aligned (f.ensures.reported fed (subst (λ (s : KindSink). StandsFor s fed) c.in-Dvi.is h)))

pub returns-in-Track-clause-reported : goal.returns-in-Track-clause-reported
returns-in-Track-clause-reported c = λ fed h.
    let f = c.finish_epochs in
    let e = c.of_epochs in
    let t = subst (λ (s : KindSink). StandsFor s fed) c.in-Track.is h in
    subst (λ (s : KindSink). (told : List TrackEventAt) × IsEndOfKind (kind_of s) fed e.result told × HasTaken track_writing c.args.room.now f.new.room told) (sym c.in-Track.is)
    (epochs_ended stray_is_rule _ fed t.0 t.1 c.args.room.now f.new.room f.result e.result e.ensures.columns e.ensures.aligned (f.ensures.reported fed t.0 t.1))

pub returns-in-Relock-clause-reported : goal.returns-in-Relock-clause-reported
returns-in-Relock-clause-reported c = λ fed h.
    let f = c.finish_epochs-in-Relock in
    let e = c.of_epochs-in-Relock in
    let t = subst (λ (s : KindSink). StandsFor s fed) c.in-Relock.is h in
    subst (λ (s : KindSink). (told : List TrackEventAt) × IsEndOfKind (kind_of s) fed e.result told × HasTaken track_writing c.args.room.now f.new.room told) (sym c.in-Relock.is)
    (epochs_ended refuting_is_rule _ fed t.0 t.1 c.args.room.now f.new.room f.result e.result e.ensures.columns e.ensures.aligned (f.ensures.reported fed t.0 t.1))
