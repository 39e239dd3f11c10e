use Rattle.std.proofs.Common.{arith, ap, ap₂, ◌∙◌, codes}
use Rattle.clap.specs.Words.{app_of, with_subcommand, App}
use Rattle.clap.specs.declared.builder.command.Command.TheViews.{out-Command as fields_of}
use Rattle.command_line.proofs.FormSteps.{added, made_same}
use Rattle.command_line.proofs.forms.forms.Goals as goal

pub returns-clause-app : goal.returns-clause-app
returns-clause-app c =
    let first = c.in_ok-command-2.ensures.app ∙ added (codes "slip") _ _ _ _ c.in_ok-command.ensures.app c.operand.ensures.rule in
    let second = c.in_ok-command-3.ensures.app ∙ added (codes "read") _ _ _ _ first c.operand-2.ensures.rule in
    let third = c.in_ok-command-4.ensures.shape c.bare.ensures.local ∙ ap₂ with_subcommand second (ap (λ (a : App). a.top) c.bare.ensures.app) in
    made_same app_of _ _ _ c.with_form-3.ensures.app (added (codes "sample") _ _ _ _ third c.operand-3.ensures.rule)

pub returns-clause-local : goal.returns-clause-local
returns-clause-local c = made_same (λ k. (fields_of k).has_globals) _ _ _ c.with_form-3.ensures.local (grind arith)
