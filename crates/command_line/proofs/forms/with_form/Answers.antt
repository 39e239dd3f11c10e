use Rattle.std.proofs.Common.{ap, ◌∙◌}
use Rattle.std.proofs.lemmas.Result.{IfOk-weaker}
use Rattle.std.proofs.Math.Bool.{or-false}
use Rattle.clap.specs.Words.{AddsSubcommand, app_of, with_subcommand, App}
use Rattle.command_line.proofs.forms.with_form.Goals as goal

pub returns-clause-app : goal.returns-clause-app
returns-clause-app c = IfOk-weaker _ _ _ (λ x (h : AddsSubcommand _ _ x). h.shape c.in_ok-command.ensures.local ∙ ap (λ (a : App). with_subcommand (app_of c.args.program) a.top) c.in_ok-command.ensures.app) c.subcommand.ensures

pub returns-clause-local : goal.returns-clause-local
returns-clause-local c = IfOk-weaker _ _ _ (λ x (h : AddsSubcommand _ _ x). h.globals ∙ rw c.in_ok-command.ensures.local (or-false _)) c.subcommand.ensures
