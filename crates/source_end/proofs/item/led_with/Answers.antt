use Rattle.std.proofs.Common.{◌≡◌, ◌∙◌, ap, sym, arith}
use Rattle.island_pack.specs.Periods.{ControlRun}
use Rattle.source_end.proofs.Leads.{led_kept, led_lost, led_stays}
use Rattle.source_end.proofs.item.led_with.Goals as goal

pub returns-in-0 : goal.returns-in-0
returns-in-0 c = grind (arith, led_stays)

pub returns-in_default : goal.returns-in_default
returns-in_default c = λ runs e.
    let count : c.run.inside.count ≡ c.args.run.count = ap (λ (r : ControlRun). r.count) c.run.view_is in
    c.saturating_add.ensures ∙ led_kept c.args.ctl runs c.args.run c.args.led c.run.inside.count e count (sym c.ctl.ensures ∙ c.if-ctl.true)

pub returns-in_default-2 : goal.returns-in_default-2
returns-in_default-2 c = grind (arith, led_lost)
