use Rattle.std.proofs.Common.{rules, ◌≡◌, ◌∙◌, false, sym, subst}
use Rattle.capture_commands.specs.Endings.{Ends, seen}
use Rattle.capture_commands.specs.declared.ending.Ending.{Ending}
use Rattle.capture_commands.proofs.Heard.{Unheard, kept_unheard, unheard_ends, nowhere_ends, heard_ends}
use Rattle.capture_commands.proofs.listing.list_lanes.Goals as goal

pub returns-in-Ok-clause-ends : goal.returns-in-Ok-clause-ends
returns-in-Ok-clause-ends g c = λ command lists.
    let m = g.met.L.Lister in
    let l = g.L.Lister in
    let first = c.args.lister.now in
    let heard = c.in-Ok.ensures.heard in
    let fresh = c.requires.reported in
    let took = heard.3 in
    let grows = (m.writes first fresh).grows c.hear_capture.new.ear heard.1 took in
    subst (λ (e : Ending). Ends command e (seen (g.S.Source.left c.args.input.now) (g.S.Source.faults c.args.input.now) (l.held first) (g.L.Ear.faults first)) (seen (g.S.Source.left c.hear_capture.new.input) (g.S.Source.faults c.hear_capture.new.input) (l.held c.end.new.self) (g.L.Ear.faults c.end.new.self))) (sym c.judged.ensures)
    (heard_ends g.H.Hears.grammar (l.listing first) (l.after first) (l.last first) command heard.0 c.in-Ok.heard heard.1 (l.held c.hear_capture.new.ear) (g.L.Ear.faults c.hear_capture.new.ear) _ _ c.end.result c.fault_lines-faults.result
    g.met.H.Hears.is_grammar lists (m.is_text first) heard.2 c.if-heard.true heard.4 (search rules) grows (c.fault_lines-faults.ensures first heard.1 fresh took) c.hear_capture.ensures.ear_later
    (c.end.ensures.whole first heard.1 fresh took) (c.end.ensures.part first heard.1 fresh took) c.end.ensures.cause.failed)

pub returns-in-Ok-clause-same : goal.returns-in-Ok-clause-same
returns-in-Ok-clause-same g c = c.end.ensures.same ∙ g.met.L.Lister.keeps c.args.lister.now c.hear_capture.new.ear c.in-Ok.ensures.heard.1 c.in-Ok.ensures.heard.3

pub returns-in-Ok-2-clause-ends : goal.returns-in-Ok-2-clause-ends
returns-in-Ok-2-clause-ends g c = λ command lists.
    let m = g.met.L.Lister in
    let l = g.L.Lister in
    let first = c.args.lister.now in
    let heard = c.in-Ok-2.ensures.heard in
    let not : c.in-Ok-2.field-0.aligned ≡ false = search rules in
    nowhere_ends g.H.Hears.grammar (l.listing first) (l.after first) (l.last first) command heard.0 c.in-Ok-2.field-0 heard.1 _ _ lists (m.is_text first) heard.2 not heard.4 (search rules)
    ((m.writes first c.requires.reported).grows c.hear_capture.new.ear heard.1 heard.3)

pub returns-in-Ok-2-clause-same : goal.returns-in-Ok-2-clause-same
returns-in-Ok-2-clause-same g c = g.met.L.Lister.keeps c.args.lister.now c.hear_capture.new.ear c.in-Ok-2.ensures.heard.1 c.in-Ok-2.ensures.heard.3

pub returns-in-Err-clause-ends : goal.returns-in-Err-clause-ends
returns-in-Err-clause-ends g c = λ command lists.
    let m = g.met.L.Lister in
    let l = g.L.Lister in
    let first = c.args.lister.now in
    let unheard : Unheard g.H.Hears.grammar _ _ (g.S.Source.left c.args.input.now) (g.S.Source.left c.hear_capture.new.input) (g.S.Source.faults c.args.input.now) (g.S.Source.faults c.hear_capture.new.input)
    first c.hear_capture.new.ear (g.L.Ear.faults first) (g.L.Ear.faults c.hear_capture.new.ear) c.in-Err.error =
    record { bad = c.in-Err.ensures.bad; read = c.in-Err.ensures.read; broken = c.in-Err.ensures.broken } in
    subst (λ (e : Ending). Ends command e (seen (g.S.Source.left c.args.input.now) (g.S.Source.faults c.args.input.now) (l.held first) (g.L.Ear.faults first)) (seen (g.S.Source.left c.hear_capture.new.input) (g.S.Source.faults c.hear_capture.new.input) (l.held c.hear_capture.new.ear) (g.L.Ear.faults c.hear_capture.new.ear))) (sym c.unheard.ensures)
    (unheard_ends g.H.Hears.grammar (l.listing first) (l.after first) (l.last first) command _ _ l.held g.L.Ear.faults _ _ _ _ first c.hear_capture.new.ear c.in-Err.error lists (m.is_text first) (m.writes first c.requires.reported) unheard)

pub returns-in-Err-clause-same : goal.returns-in-Err-clause-same
returns-in-Err-clause-same g c =
    let unheard : Unheard g.H.Hears.grammar _ _ (g.S.Source.left c.args.input.now) (g.S.Source.left c.hear_capture.new.input) (g.S.Source.faults c.args.input.now) (g.S.Source.faults c.hear_capture.new.input)
    c.args.lister.now c.hear_capture.new.ear (g.L.Ear.faults c.args.lister.now) (g.L.Ear.faults c.hear_capture.new.ear) c.in-Err.error =
    record { bad = c.in-Err.ensures.bad; read = c.in-Err.ensures.read; broken = c.in-Err.ensures.broken } in
    kept_unheard g.H.Hears.grammar _ _ g.L.Lister.name _ _ _ _ c.args.lister.now c.hear_capture.new.ear _ _ c.in-Err.error g.met.L.Lister.keeps g.met.L.Lister.keeps_broken c.in-Err.ensures.some unheard

pub returns-in-Ok-clause-taken : goal.returns-in-Ok-clause-taken
returns-in-Ok-clause-taken g c = c.hear_capture.ensures.taken

pub returns-in-Ok-2-clause-taken : goal.returns-in-Ok-2-clause-taken
returns-in-Ok-2-clause-taken g c = c.hear_capture.ensures.taken

pub returns-in-Err-clause-taken : goal.returns-in-Err-clause-taken
returns-in-Err-clause-taken g c = c.hear_capture.ensures.taken
