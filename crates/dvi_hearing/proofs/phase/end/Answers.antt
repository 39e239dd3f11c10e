use Rattle.std.proofs.Common.{subst}
use Rattle.period_grammar.specs.Noted.{lent}
use Rattle.dvi_hearing.specs.DviStands.{IsStretchAfter}
use Rattle.dvi_hearing.specs.declared.phase.DviPhase.{DviPhase}
use Rattle.period_grammar.proofs.Noting.{pushed}
use Rattle.dvi_hearing.proofs.Phases.{end_control, end_pixels}
use Rattle.dvi_hearing.proofs.phase.end.Goals as goal

pub returns-in-Control-clause-reported : goal.returns-in-Control-clause-reported
returns-in-Control-clause-reported c x b whole was e =
    end_control c.args.kept.now c.args.line.now c.args.n _ (λ control h. c.tell_run.ensures.reported control (lent c.args.line.now.bytes whole) h) x b (subst (λ (p : DviPhase). IsStretchAfter p c.args.kept.now c.args.line.now c.args.n x) c.in-Control.is was)

pub returns-in-Pixels-clause-reported : goal.returns-in-Pixels-clause-reported
returns-in-Pixels-clause-reported c x b whole was e =
    end_pixels c.args.kept.now c.args.line.now c.args.n _ _ (pushed (lent c.args.line.now.bytes whole) _ _ _ c.requires.room c.push.ensures) x b (subst (λ (p : DviPhase). IsStretchAfter p c.args.kept.now c.args.line.now c.args.n x) c.in-Pixels.is was) e
