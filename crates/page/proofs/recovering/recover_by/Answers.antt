use Rattle.std.proofs.Common.{subst, sym}
use Rattle.page.specs.Ears.{seen}
use Rattle.page.specs.Heard.{ends_as, said}
use Rattle.page.specs.Kinds.{grammar_of}
use Rattle.page.specs.declared.kind.PageKind.{PageKind}
use Rattle.page.proofs.recovering.recover_by.Goals as goal

pub returns-in-Link-clause-ends : goal.returns-in-Link-clause-ends
returns-in-Link-clause-ends g c =
    let from = c.args.input.now in
    let left = c.recover.new.input in
    let first = said (seen g.K.Sink.held g.K.Sink.faults c.args.ear.now) c.args.teller.now in
    let now = said (seen g.K.Sink.held g.K.Sink.faults c.recover.new.ear) c.recover.new.teller in
    subst (λ (k : PageKind). ends_as (grammar_of k) g.T.Teller.told (g.S.Source.left from) (g.S.Source.left left) (g.S.Source.faults from) (g.S.Source.faults left) first now c.recover.result) (sym c.in-Link.is)
    c.recover.ensures.ends

pub returns-in-Dvi-clause-ends : goal.returns-in-Dvi-clause-ends
returns-in-Dvi-clause-ends g c =
    let from = c.args.input.now in
    let left = c.recover-in-Dvi.new.input in
    let first = said (seen g.K.Sink.held g.K.Sink.faults c.args.ear.now) c.args.teller.now in
    let now = said (seen g.K.Sink.held g.K.Sink.faults c.recover-in-Dvi.new.ear) c.recover-in-Dvi.new.teller in
    subst (λ (k : PageKind). ends_as (grammar_of k) g.T.Teller.told (g.S.Source.left from) (g.S.Source.left left) (g.S.Source.faults from) (g.S.Source.faults left) first now c.recover-in-Dvi.result) (sym c.in-Dvi.is)
    c.recover-in-Dvi.ensures.ends
