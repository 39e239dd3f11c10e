use Rattle.std.proofs.Common.{◌∙◌, ap, refl, arith}
use Rattle.terc4.specs.Tables.{is_control}
use Rattle.lane_align.proofs.Controls.{control_here, control_within}
use Rattle.lane_deskew.proofs.reference.has_control.Goals as goal

pub returns-in-Some : goal.returns-in-Some
returns-in-Some c =
    let reported = c.in-Some.ensures in
    control_here c.args.row.now c.args.p c.in-Some.word c.is_control_word.result (λ short. let e = reported.none.1 short in cc) reported.some
    (c.is_control_word.ensures ∙ ap is_control c.value.ensures.value)

pub returns-in-None : goal.returns-in-None
returns-in-None c =
    let short = c.in-None.ensures.none.0 refl in
    (λ h. cc, λ has. let within = control_within c.args.row.now c.args.p has in absurd (omega arith))
