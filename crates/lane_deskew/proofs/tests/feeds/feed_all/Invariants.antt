use Rattle.std.proofs.Common.{◌-◌}
use Rattle.lane_deskew.proofs.tests.feeds.feed_all.Given as goal

abbrev pub decreases-loop-from : goal.decreases-loop-from
decreases-loop-from g l = l.most - l.from
