use Rattle.std.proofs.Common.{rules, ◌≡◌, ◌∙◌, ◌++◌, refl, sym, subst, arith}
use Rattle.capture_commands.specs.Endings.{Ends, seen}
use Rattle.capture_commands.specs.declared.ending.Ending.{Ending}
use Rattle.capture_commands.proofs.Tracked.{aligned_ends, kept_short, short_ends, unaligned_ends}
use Rattle.capture_commands.proofs.track_listing.list_track.Goals as goal

pub returns-in-Ok-clause-ends : goal.returns-in-Ok-clause-ends
returns-in-Ok-clause-ends g c = λ command tracks.
    let m = g.met.L.TrackLister in
    let l = g.L.TrackLister in
    let first = c.args.lister.now in
    let heard = c.in-Ok.ensures.heard in
    let events = heard.first ++ heard.last in
    let grows = (m.writes first c.requires.reported).grows c.follow_capture.new.ear events heard.heard in
    subst (λ (e : Ending). Ends command e (seen (g.S.Source.left c.args.input.now) (g.S.Source.faults c.args.input.now) (l.held first) (g.L.Ear.faults first)) (seen (g.S.Source.left c.follow_capture.new.input) (g.S.Source.faults c.follow_capture.new.input) (l.held c.end.new.self) (g.L.Ear.faults c.end.new.self))) (sym c.judged.ensures)
    (aligned_ends g.W.Watch.rule l.listing l.after command tracks m.is_text heard.fed c.in-Ok.outcome.epochs c.in-Ok.outcome.aligned heard.first events (l.held c.follow_capture.new.ear) (g.L.Ear.faults c.follow_capture.new.ear) _ _ c.end.result c.fault_lines-faults.result heard.reported (record { mid = heard.last; is = refl }) heard.track c.if-outcome-gt0.true heard.captured (search rules) grows
    (c.fault_lines-faults.ensures first events c.requires.reported heard.heard) c.follow_capture.ensures.ear_later c.end.ensures.whole c.end.ensures.part c.end.ensures.cause.failed)

pub returns-in-Ok-clause-same : goal.returns-in-Ok-clause-same
returns-in-Ok-clause-same g c = c.end.ensures.same ∙ g.met.L.TrackLister.keeps c.args.lister.now c.follow_capture.new.ear (c.in-Ok.ensures.heard.first ++ c.in-Ok.ensures.heard.last) c.in-Ok.ensures.heard.heard

pub returns-in-Ok-2-clause-ends : goal.returns-in-Ok-2-clause-ends
returns-in-Ok-2-clause-ends g c = λ command tracks.
    let m = g.met.L.TrackLister in
    let l = g.L.TrackLister in
    let first = c.args.lister.now in
    let heard = c.in-Ok.ensures.heard in
    let events = heard.first ++ heard.last in
    let few = c.if-outcome-gt0.false in
    let zeros : c.in-Ok.outcome.aligned ≡ 0 = omega (arith, few) in
    unaligned_ends g.W.Watch.rule l.listing l.after command tracks m.is_text heard.fed c.in-Ok.outcome.epochs c.in-Ok.outcome.aligned events _ _ heard.track zeros heard.captured (search rules)
    ((m.writes first c.requires.reported).grows c.follow_capture.new.ear events heard.heard)

pub returns-in-Ok-2-clause-same : goal.returns-in-Ok-2-clause-same
returns-in-Ok-2-clause-same g c = g.met.L.TrackLister.keeps c.args.lister.now c.follow_capture.new.ear (c.in-Ok.ensures.heard.first ++ c.in-Ok.ensures.heard.last) c.in-Ok.ensures.heard.heard

pub returns-in-Err-clause-ends : goal.returns-in-Err-clause-ends
returns-in-Err-clause-ends g c = λ command tracks.
    let m = g.met.L.TrackLister in
    let l = g.L.TrackLister in
    let first = c.args.lister.now in
    subst (λ (e : Ending). Ends command e (seen (g.S.Source.left c.args.input.now) (g.S.Source.faults c.args.input.now) (l.held first) (g.L.Ear.faults first)) (seen (g.S.Source.left c.follow_capture.new.input) (g.S.Source.faults c.follow_capture.new.input) (l.held c.follow_capture.new.ear) (g.L.Ear.faults c.follow_capture.new.ear))) (sym c.unheard.ensures)
    (short_ends g.W.Watch.rule l.listing l.after command tracks m.is_text _ _ l.held g.L.Ear.faults _ _ _ _ first c.follow_capture.new.ear c.in-Err.error (m.writes first c.requires.reported) c.in-Err.ensures.short c.in-Err.ensures.caused)

pub returns-in-Err-clause-same : goal.returns-in-Err-clause-same
returns-in-Err-clause-same g c =
    kept_short g.W.Watch.rule _ _ g.L.TrackLister.name g.met.L.TrackLister.keeps g.met.L.TrackLister.keeps_lost _ _ c.args.lister.now c.follow_capture.new.ear c.in-Err.error c.in-Err.ensures.short

pub returns-in-Ok-clause-taken : goal.returns-in-Ok-clause-taken
returns-in-Ok-clause-taken g c = c.follow_capture.ensures.taken

pub returns-in-Ok-2-clause-taken : goal.returns-in-Ok-2-clause-taken
returns-in-Ok-2-clause-taken g c = c.follow_capture.ensures.taken

pub returns-in-Err-clause-taken : goal.returns-in-Err-clause-taken
returns-in-Err-clause-taken g c = c.follow_capture.ensures.taken
