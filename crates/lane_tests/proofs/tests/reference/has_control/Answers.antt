use Rattle.std.proofs.Common.{◌∙◌, ap, is_some, refl, arith}
use Rattle.terc4.specs.Tables.{control_words, is_control}
use Rattle.terc4.proofs.Members.{is_some-value_in}
use Rattle.lane_align.proofs.Controls.{control_here, control_within}
use Rattle.lane_tests.proofs.tests.reference.has_control.Goals as goal

pub returns-in-Some : goal.returns-in-Some
unfolding is_control
returns-in-Some c =
    let reported = c.in-Some.ensures in
    control_here c.args.row.now c.args.p c.in-Some.word c.is_some.result (λ short. let e = reported.none.1 short in cc) reported.some
    (c.is_some.ensures ∙ ap is_some c.control_of.ensures.value ∙ is_some-value_in control_words c.in-Some.word)

pub returns-in-None : goal.returns-in-None
returns-in-None c =
    let short = c.in-None.ensures.none.0 refl in
    (λ h. cc, λ has. let within = control_within c.args.row.now c.args.p has in absurd (omega arith))
