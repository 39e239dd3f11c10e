use Rattle.std.proofs.Common.{◌++◌, ap, subst, ◌∙◌}
use Rattle.period_grammar.specs.Noted.{lent}
use Rattle.dvi_hearing.specs.DviStands.{IsStretchAfter}
use Rattle.dvi_hearing.specs.declared.phase.DviPhase.{DviPhase}
use Rattle.period_grammar.specs.Heard.{line_at}
use Rattle.dvi_hearing.proofs.Phases.{close_control, close_pixels}
use Rattle.dvi_hearing.proofs.phase.close.Goals as goal

pub returns-in-Control-clause-reported : goal.returns-in-Control-clause-reported
returns-in-Control-clause-reported c x b whole was e =
    close_control c.args.kept c.args.line.now c.args.n _ _ (λ control h. c.tell_change.ensures.reported control (lent c.args.line.now.bytes whole) h) x b (subst (λ (p : DviPhase). IsStretchAfter p c.args.kept c.args.line.now c.args.n x) c.in-Control.is was)

pub returns-in-Pixels-clause-reported : goal.returns-in-Pixels-clause-reported
returns-in-Pixels-clause-reported c x b whole was e =
    close_pixels c.args.kept c.args.line.now c.args.n _ _ _
    (λ pixels h. c.tell_pixels.ensures.reported pixels whole h ∙ ap (λ ts. ts ++ line_at c.in-Pixels.start c.in-Pixels.start pixels) (c.tell_short.ensures.reported (lent c.args.line.now.bytes whole)))
    x b (subst (λ (p : DviPhase). IsStretchAfter p c.args.kept c.args.line.now c.args.n x) c.in-Pixels.is was) e
