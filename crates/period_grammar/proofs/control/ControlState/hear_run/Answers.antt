use Rattle.std.proofs.Common.{ℕ, ◌++◌, subst}
use Rattle.period_grammar.specs.ControlAfter.{IsControlAfter}
use Rattle.period_grammar.proofs.Many.{again, kept_many}
use Rattle.period_grammar.proofs.control.ControlState.hear_run.Goals as goal

pub returns-clause-heard : goal.returns-clause-heard
returns-clause-heard c control cs long all was =
    subst (λ (n : ℕ). IsControlAfter (again c.args.self.now n) (control ++ cs)) long (kept_many c.args.self.now control cs all was)
