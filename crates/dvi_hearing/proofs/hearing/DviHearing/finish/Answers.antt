use Rattle.std.proofs.Common.{sym, subst}
use Rattle.period_grammar.specs.After.{last}
use Rattle.period_grammar.specs.Cut.{stretches}
use Rattle.period_grammar.proofs.Hearings.{start_of, starts_at}
use Rattle.dvi_hearing.specs.DviSeen.{DviSeen}
use Rattle.dvi_hearing.specs.DviStands.{DviHearingRepresents}
use Rattle.dvi_hearing.proofs.Hearings.{reported_end}
use Rattle.dvi_hearing.proofs.hearing.DviHearing.finish.Goals as goal

pub returns-clause-reported : goal.returns-clause-reported
returns-clause-reported c cs was =
    let w = subst (λ (s : DviSeen). DviHearingRepresents s cs) (sym c.self.view_is) was in
    reported_end cs _ (c.end.ensures.reported (last (stretches cs)) (start_of cs) c.self.inside.unused w.stretch (starts_at cs _ w.columns))
