use Rattle.std.proofs.Common.{◌++◌, ap, arith, length, length-drop, subst, sym, drop}
use Rattle.lane_align.specs.Words.{AreWords}
use Rattle.lane_deskew.proofs.Narrow.{words_after, words_kept, still_within, words_dropped}
use Rattle.lane_deskew.proofs.lane.DeskewLane.consume.Goals as goal

pub invariant_of-self-clause-narrow : goal.invariant_of-self-clause-narrow
invariant_of-self-clause-narrow c =
    let was = c.args.self.now.kept in
    let few : AreWords (was.ring ++ drop c.args.n was.row) = words_kept was.ring was.row (drop c.args.n was.row) c.args.self.now.narrow (words_dropped c.args.n was.row (words_after was.ring was.row c.args.self.now.narrow)) in
    subst AreWords (λ i. sym c.consume.ensures.ring i ++ sym c.consume.ensures.row i) few

pub invariant_of-self-clause-within : goal.invariant_of-self-clause-within
invariant_of-self-clause-within c =
    let was = c.args.self.now.kept in
    let now = c.consume.new.self in
    still_within was.ring was.row now.ring now.row c.args.self.now.count c.consume.ensures.ring
    (omega (arith, ap length c.consume.ensures.row, length-drop c.args.n was.row)) c.args.self.now.within
