use Rattle.std.proofs.Common.{ap, sym, ◌∙◌, ◌==◌, ◌&&◌}
use Rattle.std.specs.Prelude.{nat_le}
use Rattle.period_grammar.proofs.Leads.{preamble_is}
use Rattle.period_grammar.proofs.control.ControlState.has_preamble.Goals as goal

pub returns : goal.returns
returns c control was = ap (λ b. (b == c.args.bits) && nat_le 8 c.args.self.now.ctl_run) c.ctl_bits.ensures ∙ sym (preamble_is c.args.bits _ control was)
