use Rattle.std.proofs.Common.{ap, sym, subst, ◌∙◌, ◌-◌, length, take, arith, []}
use Rattle.island_pack.specs.Periods.{ControlRun, values_of}
use Rattle.relay.specs.Changed.{changed_from, some_changed}
use Rattle.relay.specs.Handed.{Took}
use Rattle.relay.proofs.Changing.{changed_more, left_more, values_next}
use Rattle.relay.proofs.Handing.{took_none, took_both}
use Rattle.relay.proofs.settling.hand_on_all.Goals as goal

pub loop-run-init : goal.loop-run-init
unfolding values_of changed_from
loop-run-init c = (took_none c.args.out.now, omega arith)

pub loop-run-preserved : goal.loop-run-preserved
loop-run-preserved c =
    let ih = c.loop-run.invariant in
    let r : ControlRun = c.run-item.result in
    let left = c.args.left in
    let ctl = c.args.ctl in
    let vs = values_of (take c.loop-run.run-index c.args.runs.now) in
    let next = values_next [] c.args.runs.now c.loop-run.run-index r r c.loop-run-test.true c.run-item.is in
    let more = subst (λ n. Took c.loop-run.out c.hand_on.new.out (some_changed ctl n r.value r.count)) ih.1 c.in_ok-rest.ensures.taken in
    let both = took_both c.args.out.now c.loop-run.out c.hand_on.new.out (changed_from ctl left vs) (some_changed ctl (left - length vs) r.value r.count) ih.0 more in
    (subst (λ us. Took c.args.out.now c.hand_on.new.out us) (sym (changed_more ctl left vs r.value r.count) ∙ ap (changed_from ctl left) (sym next)) both, left_more left c.loop-run.rest c.in_ok-rest.rest vs r.value r.count ih.1 c.in_ok-rest.ensures.left ∙ ap (λ us. left - length us) (sym next))
