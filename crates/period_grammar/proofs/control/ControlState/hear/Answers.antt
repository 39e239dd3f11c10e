use Rattle.std.proofs.Common.{refl, ap, ◌∙◌, sym}
use Rattle.island_pack.specs.Periods.{ctl}
use Rattle.period_grammar.proofs.Leads.{kept_push, run_on, run_anew}
use Rattle.period_grammar.proofs.control.ControlState.hear.Goals as goal
use Rattle.period_grammar.proofs.control.ControlState.hear.Goals.{then-self-value, else-self-value, then-was-ctl_bits, else-was-ctl_bits}

pub returns-clause-heard : goal.returns-clause-heard
returns-clause-heard c control d e was =
    kept_push c.args.self.now _ control d was refl e
    (elim c.if-self-value.branch [
      | then-self-value w ↦ run_on _ _ _ _ _ w.if-self-value.true e w.self-is
      | else-self-value w ↦ run_anew _ _ _ _ _ w.if-self-value.false e w.self-is
    ])
    (elim c.if-was-ctl_bits.branch [
      | then-was-ctl_bits w ↦ run_on _ _ _ _ _ (sym c.ctl_bits-was.ensures ∙ w.if-was-ctl_bits.true ∙ c.ctl_bits.ensures) (ap ctl e) w.self-is
      | else-was-ctl_bits w ↦ run_anew _ _ _ _ _ (λ h. w.if-was-ctl_bits.false (c.ctl_bits-was.ensures ∙ h ∙ sym c.ctl_bits.ensures)) (ap ctl e) w.self-is
    ])
