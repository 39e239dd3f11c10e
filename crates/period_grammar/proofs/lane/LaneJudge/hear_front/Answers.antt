use Rattle.std.proofs.Common.{not, ap, refl, sym, ◌∙◌, arith}
use Rattle.period_grammar.proofs.Firsts.{lowest_below}
use Rattle.period_grammar.proofs.LaneFronts.{balance_by, lane_right, lane_wrong, lane_kept, none_is, some_is}
use Rattle.period_grammar.proofs.lane.LaneJudge.hear_front.Goals as goal
use Rattle.period_grammar.proofs.lane.LaneJudge.hear_front.Goals.{else-is_none-via-then-is_none+else-front-ne0, else-is_none-via-else-is_none}

pub returns-then-front-ne0-clause-sized : goal.returns-then-front-ne0-clause-sized
returns-then-front-ne0-clause-sized c =
    let few = c.requires.count in
    let lower = lowest_below c.args.front.wrong c.args.count c.if-front-ne0.true (omega (arith, few)) c.requires.wrong in
    record {
      judge = omega (arith, c.hear_counted.ensures.count, c.requires.sized.judge);
      first = λ i e. omega (arith, some_is _ i e, lower);
    }

pub returns-then-front-ne0-clause-heard : goal.returns-then-front-ne0-clause-heard
returns-then-front-ne0-clause-heard c = λ ws vs step was long of heard.
    let few = c.requires.count in
    lane_wrong c.args.self.now _ ws vs c.args.pixel step c.args.front was (sym c.requires.sized.judge ∙ was.judge.count) (omega (arith, long, few)) of heard
    (none_is _ (c.is_none.ensures ∙ ap not c.if-is_none.true)) c.if-front-ne0.true refl
    (c.hear_counted.ensures.stands ws vs was.judge long (balance_by step c.args.count _ vs c.args.front heard long c.from.ensures))

pub returns-else-is_none-clause-heard : goal.returns-else-is_none-clause-heard
returns-else-is_none-clause-heard c = λ ws vs step was long of heard.
    let few = c.requires.count in
    let judge = c.hear_counted.ensures.stands ws vs was.judge long (balance_by step c.args.count _ vs c.args.front heard long c.from.ensures) in
    elim c.else-is_none.branch [
      | else-is_none-via-then-is_none+else-front-ne0 w ↦
          lane_right c.args.self.now _ ws vs c.args.pixel step c.args.front was (sym c.requires.sized.judge ∙ was.judge.count) (omega (arith, long, few)) of heard
          (none_is _ (c.is_none.ensures ∙ ap not w.if-is_none.true)) w.if-front-ne0.false refl judge
      | else-is_none-via-else-is_none w ↦ lane_kept c.args.self.now _ ws vs was (c.is_none.ensures ∙ ap not w.if-is_none.false) refl judge
    ]
