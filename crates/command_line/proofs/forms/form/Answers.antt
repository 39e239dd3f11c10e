use Rattle.std.proofs.Common.{ap₂, ◌∙◌, refl, Bool, ◌||◌}
use Rattle.std.proofs.lemmas.Result.{IfOk-weaker}
use Rattle.clap.specs.Words.{AddsArg, with_rule}
use Rattle.command_line.proofs.forms.form.Goals as goal

pub returns-clause-app : goal.returns-clause-app
returns-clause-app c = IfOk-weaker _ _ _ (λ x (h : AddsArg _ _ x). h.shape c.requires ∙ ap₂ with_rule c.bare.ensures.app refl) c.arg.ensures

pub returns-clause-local : goal.returns-clause-local
returns-clause-local c = IfOk-weaker _ _ _ (λ x (h : AddsArg _ _ x). h.globals ∙ ap₂ (λ (x y : Bool). x || y) c.bare.ensures.local c.requires) c.arg.ensures
