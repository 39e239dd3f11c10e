use Rattle.std.proofs.Common.{arith}
use Rattle.alignment_search.proofs.Looking.{places_are}
use Rattle.alignment_search.proofs.finder.AlignmentFinder.find_locks.Goals as goal

pub returns-clause-reached : goal.returns-clause-reached
returns-clause-reached c = λ xs ys zs low parts reached.
    let limit = c.args.self.now.limit in
    let from = c.saturating_sub-from.ensures in
    let until = c.saturating_sub-until.ensures in
    record {
      blue = places_are xs low limit _ _ _ _ _ _ from until (c.find_lock.ensures xs low limit parts.blue (omega arith)) reached.blue;
      green = places_are ys low limit _ _ _ _ _ _ from until (c.find_lock-2.ensures ys low limit parts.green (omega arith)) reached.green;
      red = places_are zs low limit _ _ _ _ _ _ from until (c.find_lock-3.ensures zs low limit parts.red (omega arith)) reached.red;
    }
