use Rattle.std.proofs.Common.{◌≤◌, ◌∙◌, ap, sym, refl, arith, is_some}
use Rattle.terc4.specs.Tables.{control_words, is_control}
use Rattle.terc4.proofs.Members.{is_some-value_in, by_control}
use Rattle.lane_align.proofs.Controls.{false_from}
use Rattle.lane_align.proofs.is_control_word.Goals as goal

pub returns-in-Some : goal.returns-in-Some
unfolding is_control
returns-in-Some c =
    c.is_some.ensures ∙ ap is_some c.control_of.ensures.value ∙ is_some-value_in control_words c.in-Some.word ∙ ap is_control c.in-Some.ensures.some

pub returns-in-None : goal.returns-in-None
returns-in-None c =
    let wide : 1024 ≤ c.args.word = c.in-None.ensures.none.0 refl in
    sym (false_from (is_control c.args.word)
    (λ h. by_control (λ w. 1024 ≤ w → ⊥) (λ e. omega arith) (λ e. omega arith) (λ e. omega arith) (λ e. omega arith) c.args.word h wide))
