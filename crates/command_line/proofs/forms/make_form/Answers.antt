use Rattle.std.proofs.Common.{arith, ◌∙◌}
use Rattle.clap.specs.Words.{app_of}
use Rattle.clap.specs.declared.builder.command.Command.TheViews.{out-Command as fields_of}
use Rattle.command_line.proofs.FormSteps.{made_same}
use Rattle.command_line.proofs.forms.make_form.Goals as goal

pub returns-clause-app : goal.returns-clause-app
returns-clause-app c = made_same app_of _ _ _ c.with_option-4.ensures.app (grind arith)

pub returns-clause-local : goal.returns-clause-local
returns-clause-local c =
    made_same (λ k. (fields_of k).has_globals) _ _ _ c.with_option-4.ensures.local
    (c.in_ok-command-4.ensures.local ∙ c.in_ok-command-3.ensures.local ∙ c.in_ok-command-2.ensures.local ∙ c.in_ok-command.ensures.local)
