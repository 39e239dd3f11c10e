use Rattle.std.proofs.Common.{◌++◌, ap, arith, length, length-take, subst, sym, take}
use Rattle.lane_align.specs.Words.{AreWords}
use Rattle.lane_deskew.proofs.Narrow.{words_after, words_kept, still_within, words_taken}
use Rattle.lane_deskew.proofs.lane.DeskewLane.truncate.Goals as goal

pub invariant_of-self-clause-narrow : goal.invariant_of-self-clause-narrow
invariant_of-self-clause-narrow c =
    let was = c.args.self.now.kept in
    let few : AreWords (was.ring ++ take c.args.n was.row) = words_kept was.ring was.row (take c.args.n was.row) c.args.self.now.narrow (words_taken c.args.n was.row (words_after was.ring was.row c.args.self.now.narrow)) in
    subst AreWords (λ i. sym c.truncate.ensures.ring i ++ sym c.truncate.ensures.row i) few

pub invariant_of-self-clause-within : goal.invariant_of-self-clause-within
invariant_of-self-clause-within c =
    let was = c.args.self.now.kept in
    let now = c.truncate.new.self in
    still_within was.ring was.row now.ring now.row c.args.self.now.count c.truncate.ensures.ring
    (omega (arith, ap length c.truncate.ensures.row, length-take c.args.n was.row)) c.args.self.now.within
