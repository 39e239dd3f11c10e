use Rattle.std.proofs.Common.{arith, inl, inr}
use Rattle.std.proofs.lemmas.Bool.{cases_lt}
use Rattle.lane_deskew.proofs.tests.feeds.FedLane.feed.Goals as goal

pub feed-many-requires-clause-whole : goal.feed-many-requires-clause-whole
feed-many-requires-clause-whole g c = elim (cases_lt c.args.self.now.from c.args.self.now.row.bits) [
  | inl some ↦ inr (omega arith)
  | inr over ↦ inl (omega arith)
]
