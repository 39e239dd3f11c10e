use Rattle.std.proofs.Common.{subst}
use Rattle.period_grammar.specs.Stands.{IsStretchAfter}
use Rattle.period_grammar.specs.Noted.{lent}
use Rattle.period_grammar.specs.declared.phase.Phase.{Phase}
use Rattle.period_grammar.proofs.Leads.{no_notes}
use Rattle.period_grammar.proofs.Noting.{pushed}
use Rattle.period_grammar.proofs.Phases.{close_control, close_first, close_video, close_payload, close_noise}
use Rattle.period_grammar.proofs.phase.close.Goals as goal

pub returns-in-Control-clause-reported : goal.returns-in-Control-clause-reported
returns-in-Control-clause-reported c x b was e = close_control c.args.kept c.args.line.now c.args.island.now c.args.n _ _ (λ control h. c.tell_change.ensures.reported control (lent c.args.line.now.bytes c.args.island.now.whole) h) x b (subst (λ (p : Phase). IsStretchAfter p c.args.kept c.args.line.now c.args.island.now c.args.n x) c.in-Control.is was)

pub returns-in-First-clause-reported : goal.returns-in-First-clause-reported
returns-in-First-clause-reported c x b was e = close_first c.args.kept c.args.line.now c.args.island.now c.args.n _ _ _ _ _ _ (pushed (lent c.args.line.now.bytes c.args.island.now.whole) _ _ _ c.requires.room c.push.ensures) x b (subst (λ (p : Phase). IsStretchAfter p c.args.kept c.args.line.now c.args.island.now c.args.n x) c.in-First.is was) e

pub returns-in-Video-clause-reported : goal.returns-in-Video-clause-reported
returns-in-Video-clause-reported c x b was e = close_video c.args.kept c.args.line.now c.args.island.now c.args.n _ _ _ (λ pixels h. c.tell.ensures.reported pixels c.args.island.now.whole h) x b (subst (λ (p : Phase). IsStretchAfter p c.args.kept c.args.line.now c.args.island.now c.args.n x) c.in-Video.is was) e

pub returns-in-Island-clause-reported : goal.returns-in-Island-clause-reported
returns-in-Island-clause-reported c x b was e =
    close_payload c.args.kept c.args.line.now c.args.island.now c.args.n _ _ _ _ (c.tell_broken.ensures.reported (lent c.args.line.now.bytes c.args.island.now.whole)) c.broken_at.ensures x b (subst (λ (p : Phase). IsStretchAfter p c.args.kept c.args.line.now c.args.island.now c.args.n x) c.in-Island.is was) e

pub returns-in-Noise-clause-reported : goal.returns-in-Noise-clause-reported
returns-in-Noise-clause-reported c x b was e = close_noise c.args.kept c.args.line.now c.args.island.now c.args.n _ _ (no_notes (lent c.args.line.now.bytes c.args.island.now.whole) _ c.requires.room) x b (subst (λ (p : Phase). IsStretchAfter p c.args.kept c.args.line.now c.args.island.now c.args.n x) c.in-Noise.is was)
