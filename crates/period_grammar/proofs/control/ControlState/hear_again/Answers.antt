use Rattle.std.proofs.Common.{refl, ap}
use Rattle.island_pack.specs.Periods.{ctl}
use Rattle.period_grammar.proofs.Leads.{kept_push, run_on}
use Rattle.period_grammar.proofs.control.ControlState.hear_again.Goals as goal

pub returns-clause-heard : goal.returns-clause-heard
returns-clause-heard c control d e was =
    kept_push c.args.self.now _ control d was refl e (run_on _ _ _ _ _ refl e refl) (run_on _ _ _ _ _ refl (ap ctl e) refl)
