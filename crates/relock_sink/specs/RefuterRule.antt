-- Strays, unconfirmed alignments and refuted ones end epochs by a rule, and what looks for them looks for ends of that rule.
use Rattle.std.proofs.Common.{arith}
use Rattle.track_sink.specs.Rules.{IsRule, IsWatch}
use Rattle.relock_sink.specs.Refuting.{refuting_rule}
use Rattle.relock_sink.specs.RefutingEnds.{decided, excludes, one, stays, within, lane_within}
use Rattle.relock_sink.specs.Refuters.{HasLooked, refuter_passed}
use Rattle.relock_sink.specs.RefuterWatching.{looks_on, not_before, reaches}

pub refuting_is_rule : IsRule refuting_rule
refuting_is_rule = record {
  decided = decided;
  excludes = excludes;
  one_end = one;
  stays = stays;
  within = within;
  lane = lane_within;
  few = omega arith;
}

pub refuter_is_watch : IsWatch refuting_rule HasLooked refuter_passed
refuter_is_watch = record { looks_on = looks_on; not_before = not_before; reaches = reaches }
