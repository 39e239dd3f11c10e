use Rattle.std.proofs.Common.{replicate, ◌-◌, ◌++◌, ap, ap₂, ◌∙◌, subst, ℕ}
use Rattle.relay.specs.Changed.{some_changed}
use Rattle.relay.specs.Handed.{Took}
use Rattle.relay.proofs.Handing.{took_run, took_both}
use Rattle.relay.proofs.settling.hand_on.Goals as goal

pub returns-clause-taken : goal.returns-clause-taken
returns-clause-taken c =
    let head = c.least-head.result in
    let v = c.run.inside.value in
    let rest = c.run.inside.count - head in
    let first = took_run c.args.out.now c.columns.new.self v head c.in_ok-columns.ensures in
    let second = took_run c.columns.new.self c.columns-2.new.self c.with_ctl.result rest c.in_ok-columns-2.ensures in
    let both = took_both c.args.out.now c.columns.new.self c.columns-2.new.self (replicate head v) (replicate rest c.with_ctl.result) first second in
    let e = ap₂ (λ (n w : ℕ). replicate n v ++ replicate (c.run.inside.count - n) w) c.least-head.ensures c.with_ctl.ensures in
    let f = ap₂ (λ (x y : ℕ). some_changed c.args.ctl c.args.left x y) (ap (λ r. r.value) c.run.view_is) (ap (λ r. r.count) c.run.view_is) in
    subst (λ us. Took c.args.out.now c.columns-2.new.self us) (e ∙ f) both
