use Rattle.std.proofs.Common.{ap, not, ◌∙◌}
use Rattle.period_grammar.proofs.Judging.{lane_push, coded_test, first_anew, first_right, first_stays}
use Rattle.period_grammar.proofs.lane.LaneJudge.hear.Goals as goal
use Rattle.period_grammar.proofs.lane.LaneJudge.hear.Goals.{else-not-right-via-then-not-right+else-is_none, else-not-right-via-else-not-right}

pub returns-then-is_none-clause-heard : goal.returns-then-is_none-clause-heard
returns-then-is_none-clause-heard c ws was =
    lane_push c.args.self.now _ c.args.word c.args.pixel ws _ c.requires.sized.judge was (c.hear-byte.ensures.stands ws was.judge)
    (coded_test _ c.args.self.now.judge.disparity c.args.word c.hear-byte.ensures.right) (first_anew _ _ _ c.if-not-right.true (c.is_none.ensures ∙ ap not c.if-is_none.true))

pub returns-else-not-right-clause-heard : goal.returns-else-not-right-clause-heard
returns-else-not-right-clause-heard c ws was =
    lane_push c.args.self.now _ c.args.word c.args.pixel ws _ c.requires.sized.judge was (c.hear-byte.ensures.stands ws was.judge)
    (coded_test _ c.args.self.now.judge.disparity c.args.word c.hear-byte.ensures.right)
    (elim c.else-not-right.branch [
      | else-not-right-via-then-not-right+else-is_none w ↦ first_stays _ _ _ (w.is_none.ensures ∙ ap not w.if-is_none.false)
      | else-not-right-via-else-not-right w ↦ first_right _ _ _ w.if-not-right.false
    ])
