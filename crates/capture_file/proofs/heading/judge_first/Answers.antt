use Rattle.capture_file.proofs.Judged.{short_early}
use Rattle.capture_file.proofs.heading.judge_first.Goals as goal

pub returns-then-count-lt8-clause-err : goal.returns-then-count-lt8-clause-err
returns-then-count-lt8-clause-err c rest end =
    short_early c.args.head.now rest c.args.count c.told-head c.if-count-lt8.true (end c.if-count-lt8.true) c.in_ok-judge_mark.ensures.begins
