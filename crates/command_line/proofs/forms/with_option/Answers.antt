use Rattle.std.proofs.Common.{ap₂, ◌∙◌, refl}
use Rattle.std.proofs.lemmas.Result.{IfOk-weaker}
use Rattle.std.proofs.Math.Bool.{or-false}
use Rattle.clap.specs.Words.{AddsArg, with_rule}
use Rattle.command_line.proofs.forms.with_option.Goals as goal

pub returns-clause-app : goal.returns-clause-app
returns-clause-app c = IfOk-weaker _ _ _ (λ x (h : AddsArg _ _ x). h.shape c.option.ensures.local ∙ ap₂ with_rule refl c.option.ensures.rule) c.arg.ensures

pub returns-clause-local : goal.returns-clause-local
returns-clause-local c = IfOk-weaker _ _ _ (λ x (h : AddsArg _ _ x). h.globals ∙ rw c.option.ensures.local (or-false _)) c.arg.ensures
