use Rattle.std.proofs.Common.{◌≡◌, false, is_some}
use Rattle.alignment_search.proofs.Looking.{no_run, locked_here}
use Rattle.alignment_search.proofs.lane.LaneEdges.find_lock.Goals as goal

pub returns-in-Some : goal.returns-in-Some
returns-in-Some c = λ xs low limit part near reached.
    let none : is_some c.args.self.now.finder ≡ false = let e = c.is_some.ensures in let f = c.if-is_some.false in cc in
    let found = c.in-Some.ensures.found xs part (no_run xs low c.args.from limit c.args.self.now none reached) in
    locked_here xs low limit c.args.from c.in-Some.lock c.after.result found.0 found.1 near c.after.ensures.next (c.after.ensures.scanned xs found.0)
