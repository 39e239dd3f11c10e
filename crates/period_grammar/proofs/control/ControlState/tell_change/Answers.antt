use Rattle.std.proofs.Common.{◌∙◌}
use Rattle.period_grammar.proofs.Leads.{no_notes, no_change, some_change}
use Rattle.period_grammar.proofs.control.ControlState.tell_change.Goals as goal

pub returns-then-self-value-clause-reported : goal.returns-then-self-value-clause-reported
returns-then-self-value-clause-reported c control bytes was = c.tell_run.ensures.reported control bytes was ∙ some_change _ control _ was c.if-self-value.true

pub returns-else-self-value-clause-reported : goal.returns-else-self-value-clause-reported
returns-else-self-value-clause-reported c control bytes was = no_notes bytes _ c.requires.room ∙ no_change _ control _ was c.if-self-value.false
