-- One more command of the program, and the last call of several, whose answer is returned as it is.
use Rattle.std.proofs.Common.{◌≡◌, ◌∙◌, ap₂, Result, IfOk}
use Rattle.std.proofs.lemmas.Result.{IfOk-weaker}
use Rattle.clap.specs.Words.{with_rule, with_subcommand, App, Rule}
use Rattle.command_line.specs.Grammar.{Text}
use Rattle.command_line.specs.Forms.{bare}

pub made_same : {X A E : Type 0} (f : X → A) (r : Result X E) (a b : A) → IfOk r (λ x. f x ≡ a) → a ≡ b → IfOk r (λ x. f x ≡ b)
made_same f r a b h e = IfOk-weaker r (λ x. f x ≡ a) (λ x. f x ≡ b) (λ x k. k ∙ e) h

pub added : (name : Text) (program before : App) (rule known : Rule) → program ≡ before → rule ≡ known
    → with_subcommand program (with_rule (bare name) rule).top ≡ with_subcommand before (with_rule (bare name) known).top
added name program before rule known e f = ap₂ (λ (p : App) (r : Rule). with_subcommand p (with_rule (bare name) r).top) e f
