use Rattle.std.proofs.Common.{inl}
use Rattle.relock_sink.proofs.relock.RelockWatch.restart.Goals as goal

pub returns-clause-looked : goal.returns-clause-looked
returns-clause-looked c = λ fed. record {
  sought = c.restart.ensures.looked fed;
  judged = record { searched = (c.new-self.ensures.past, λ later grows. c.new-self.ensures.searched later.blue later.green later.red); far = inl (c.restart.ensures.passed, c.new-self.ensures.limit) };
}
