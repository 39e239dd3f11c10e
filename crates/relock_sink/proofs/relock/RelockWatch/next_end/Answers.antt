use Rattle.std.proofs.Common.{◌≡◌, ◌+◌, ◌≤◌, max, arith}
use Rattle.track_sink.specs.Epochs.{most_of}
use Rattle.relock_sink.specs.declared.relock.Relock.{Relock}
use Rattle.relock_sink.proofs.Judging.{all_lent, judged_on, seeking_on}
use Rattle.relock_sink.proofs.relock.RelockWatch.next_end.Goals as goal
use Rattle.relock_sink.proofs.relock.RelockWatch.next_end.Goals.{then-stretches-test+else-seen-all, else-stretches-test}

pub stretches-preserved : goal.stretches-preserved
stretches-preserved c =
    let inv = c.stretches.invariant in
    let l = c.requires.lent in
    let longest : c.max-longest.result ≡ max c.args.lanes.blue.count (max c.args.lanes.green.count c.args.lanes.red.count) = omega (arith, c.max-longest.ensures, c.max.ensures) in
    let here = all_lent c.args.lanes l.0 c.max-longest.result l.1 longest in
    let within : c.min-shown.result ≤ most_of l.0 = omega (arith, c.min-shown.ensures, c.from.ensures, here) in
    let more = c.if-seen-all.true in
    let seen = inv.seen in
    let rises = inv.rises in
    let found = c.in_default.ensures.found l.0 l.1 (inv.looked l.0 l.1 l.2) within in
    let at = found.1 in
    record {
      seen = omega arith;
      rises = omega (arith, c.min-shown.ensures, c.from.ensures);
      looked = λ fed lent watched.
          let there = all_lent c.args.lanes fed c.max-longest.result lent longest in
          (c.in_default.ensures.found fed lent (inv.looked fed lent watched) (omega (arith, c.min-shown.ensures, c.from.ensures, there))).0;
    }

pub returns-then-self-clause-found : goal.returns-then-self-clause-found
returns-then-self-clause-found c = λ fed lent watched.
    let before = c.stretches.self in
    let now : Relock = record { strays = c.next_end.new.self; alignment = before.alignment; is_judged = before.is_judged } in
    let was = c.stretches.invariant.looked fed lent watched in
    judged_on before now fed c.next_end.result c.if-self.true c.if-self.true was (c.next_end.ensures.found fed lent was.sought)

pub returns-else-self-clause-found : goal.returns-else-self-clause-found
returns-else-self-clause-found c = λ fed lent watched.
    let inv = c.stretches.invariant in
    let seen = inv.seen in
    let open_still = c.if-self.false in
    let longest : c.max-longest.result ≡ max c.args.lanes.blue.count (max c.args.lanes.green.count c.args.lanes.red.count) = omega (arith, c.max-longest.ensures, c.max.ensures) in
    let here = all_lent c.args.lanes fed c.max-longest.result lent longest in
    let all : most_of fed ≤ c.stretches.self.strays.seen + 119 = elim c.stretches-test.branch [
      | then-stretches-test+else-seen-all w ↦ let h = w.if-seen-all.false in omega (arith, c.from.ensures, here, seen)
      | else-stretches-test w ↦ let h = w.stretches-test.false in absurd cc
    ] in
    seeking_on c.stretches.self fed open_still (inv.looked fed lent watched) all
