use Rattle.std.proofs.Common.{◌≡◌, max, refl, arith}
use Rattle.relock_sink.proofs.Judging.{all_lent}
use Rattle.relock_sink.proofs.Refuters.{none_left}
use Rattle.relock_sink.proofs.refuter.RefuterWatch.next_end.Goals as goal

pub look-requires-clause-lent : goal.look-requires-clause-lent
look-requires-clause-lent c =
    let l = c.requires.lent in
    let longest : c.max-longest.result ≡ max c.args.lanes.blue.count (max c.args.lanes.green.count c.args.lanes.red.count) = omega (arith, c.max-longest.ensures, c.max.ensures) in
    let here = all_lent c.args.lanes l.0 c.max-longest.result l.1 longest in
    (l.0, l.1, c.stretches.invariant.looked l.0 l.1 l.2, omega (arith, c.min-shown.ensures, c.from.ensures, here))

pub returns-in-Some-clause-found : goal.returns-in-Some-clause-found
returns-in-Some-clause-found c = λ fed lent looked.
    let longest : c.max-longest.result ≡ max c.args.lanes.blue.count (max c.args.lanes.green.count c.args.lanes.red.count) = omega (arith, c.max-longest.ensures, c.max.ensures) in
    let here = all_lent c.args.lanes fed c.max-longest.result lent longest in
    c.in-Some.ensures.found fed lent (c.stretches.invariant.looked fed lent looked) (omega (arith, c.min-shown.ensures, c.from.ensures, here))

pub stretches-preserved : goal.stretches-preserved
stretches-preserved c =
    let at = c.in_default.ensures.shown refl in
    let rises = c.stretches.invariant.rises in
    let more = c.stretches-test.true in
    record {
      rises = omega (arith, c.min-shown.ensures, c.from.ensures);
      looked = λ fed lent looked.
          let longest : c.max-longest.result ≡ max c.args.lanes.blue.count (max c.args.lanes.green.count c.args.lanes.red.count) = omega (arith, c.max-longest.ensures, c.max.ensures) in
          let here = all_lent c.args.lanes fed c.max-longest.result lent longest in
          c.in_default.ensures.found fed lent (c.stretches.invariant.looked fed lent looked) (omega (arith, c.min-shown.ensures, c.from.ensures, here));
    }

pub returns-clause-found : goal.returns-clause-found
returns-clause-found c = λ fed lent looked.
    let longest : c.max-longest.result ≡ max c.args.lanes.blue.count (max c.args.lanes.green.count c.args.lanes.red.count) = omega (arith, c.max-longest.ensures, c.max.ensures) in
    let here = all_lent c.args.lanes fed c.max-longest.result lent longest in
    let now = c.stretches.invariant.looked fed lent looked in
    let all = c.stretches-test.false in
    (now, none_left c.stretches.self fed now (omega (arith, c.from.ensures, here)), omega (arith, c.from.ensures, here))
