use Rattle.std.proofs.Common.{arith, inr}
use Rattle.lane_tests.proofs.tests.words.feed_in_pieces.Goals as goal

pub feed-count-requires-clause-whole : goal.feed-count-requires-clause-whole
feed-count-requires-clause-whole g c = inr (omega arith)
