-- Strays and unconfirmed alignments end epochs by a rule, and what looks for them looks for ends of that rule.
use Rattle.std.proofs.Common.{arith}
use Rattle.track_sink.specs.Rules.{IsRule, IsWatch}
use Rattle.relock_sink.specs.Relocks.{relock_rule}
use Rattle.relock_sink.specs.Watches.{HasWatched, passed_of}
use Rattle.relock_sink.specs.Ends.{decided, excludes, one, stays, within, lane_within}
use Rattle.relock_sink.specs.Watching.{looks_on, not_before, reaches}

pub relock_is_rule : IsRule relock_rule
relock_is_rule = record {
  decided = decided;
  excludes = excludes;
  one_end = one;
  stays = stays;
  within = within;
  lane = lane_within;
  few = omega arith;
}

pub relock_is_watch : IsWatch relock_rule HasWatched passed_of
relock_is_watch = record { looks_on = looks_on; not_before = not_before; reaches = reaches }
