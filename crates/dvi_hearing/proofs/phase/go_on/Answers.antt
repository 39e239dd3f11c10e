use Rattle.std.proofs.Common.{[], subst}
use Rattle.period_grammar.specs.Noted.{lent}
use Rattle.dvi_hearing.specs.DviStands.{IsStretchAfter}
use Rattle.dvi_hearing.specs.declared.phase.DviPhase.{DviPhase}
use Rattle.tmds_word.specs.Column.{column_of}
use Rattle.period_grammar.proofs.Leads.{no_notes}
use Rattle.dvi_hearing.proofs.Phases.{on_control, on_pixels, control_stands, pixels_stand}
use Rattle.dvi_hearing.proofs.phase.go_on.Goals as goal

pub returns-in-Control-clause-reported : goal.returns-in-Control-clause-reported
returns-in-Control-clause-reported c x b whole was =
    on_control c.args.kept.now c.args.line.now c.args.n _ (column_of c.args.column.now) (λ control h. c.tell_run.ensures.reported control (lent c.hear.new.self.bytes whole) h) x b (subst (λ (p : DviPhase). IsStretchAfter p c.args.kept.now c.args.line.now c.args.n x) c.in-Control.is was)

pub returns-in-Pixels-clause-reported : goal.returns-in-Pixels-clause-reported
returns-in-Pixels-clause-reported c x b whole was =
    on_pixels c.args.kept.now c.args.line.now c.args.n _ (column_of c.args.column.now) _ (no_notes _ _ c.requires.room) x b (subst (λ (p : DviPhase). IsStretchAfter p c.args.kept.now c.args.line.now c.args.n x) c.in-Pixels.is was)

pub returns-in-Control-clause-stands : goal.returns-in-Control-clause-stands
returns-in-Control-clause-stands c x was =
    control_stands c.args.kept.now c.args.line.now _ c.args.n (column_of c.args.column.now) (c.hear.ensures.heard [] c.clear.ensures) x (subst (λ (p : DviPhase). IsStretchAfter p c.args.kept.now c.args.line.now c.args.n x) c.in-Control.is was)

pub returns-in-Pixels-clause-stands : goal.returns-in-Pixels-clause-stands
returns-in-Pixels-clause-stands c x was =
    pixels_stand c.args.kept.now c.args.line.now _ c.args.n (column_of c.args.column.now) _ c.hear-in-Pixels.ensures.heard x (subst (λ (p : DviPhase). IsStretchAfter p c.args.kept.now c.args.line.now c.args.n x) c.in-Pixels.is was)
