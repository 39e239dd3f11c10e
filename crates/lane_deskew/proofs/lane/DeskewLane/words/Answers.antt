use Rattle.std.proofs.Common.{subst, sym}
use Rattle.lane_align.specs.Words.{AreWords}
use Rattle.lane_deskew.proofs.Narrow.{words_after}
use Rattle.lane_deskew.proofs.lane.DeskewLane.words.Goals as goal

pub returns-clause-small : goal.returns-clause-small
returns-clause-small c =
    let kept = c.args.self.now.kept in
    subst AreWords (sym c.row.ensures) (words_after kept.ring kept.row c.args.self.now.narrow)
