use Rattle.std.proofs.Common.{ap, not, ◌&&◌, ◌==◌}
use Rattle.period_grammar.proofs.control.ControlState.goes_on.Goals as goal

pub returns : goal.returns
returns c = ap (λ b. not (c.args.self.now.run == 0) && b) c.has_value.ensures
