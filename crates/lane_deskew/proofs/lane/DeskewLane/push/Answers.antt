use Rattle.std.proofs.Common.{◌++◌, subst, sym, take}
use Rattle.lane_align.specs.Words.{AreWords}
use Rattle.lane_deskew.specs.Keeping.{stored}
use Rattle.lane_deskew.proofs.Narrow.{words_joined, words_taken}
use Rattle.lane_deskew.proofs.lane.DeskewLane.push.Goals as goal

pub invariant_of-self-clause-narrow : goal.invariant_of-self-clause-narrow
invariant_of-self-clause-narrow c =
    let was = stored c.args.self.now.kept in
    let part = take c.min-keep.result c.args.words.now in
    let all : AreWords (was ++ part) = words_joined was part c.args.self.now.narrow (words_taken c.min-keep.result c.args.words.now c.requires.words) in
    subst AreWords (λ i. sym c.push.ensures.ring i ++ sym c.push.ensures.row i) all
