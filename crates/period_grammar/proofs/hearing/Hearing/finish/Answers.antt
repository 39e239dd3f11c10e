use Rattle.std.proofs.Common.{sym, subst}
use Rattle.period_grammar.specs.Seen.{Seen}
use Rattle.period_grammar.specs.Stands.{HearingRepresents}
use Rattle.period_grammar.specs.After.{last}
use Rattle.period_grammar.specs.Cut.{stretches}
use Rattle.period_grammar.proofs.Hearings.{start_of, starts_at, reported_end}
use Rattle.period_grammar.proofs.hearing.Hearing.finish.Goals as goal

pub returns-clause-reported : goal.returns-clause-reported
returns-clause-reported c cs was =
    let w = subst (λ (s : Seen). HearingRepresents s cs) (sym c.self.view_is) was in
    reported_end cs _ (c.end.ensures.reported (last (stretches cs)) (start_of cs) w.stretch (starts_at cs _ w.columns))
