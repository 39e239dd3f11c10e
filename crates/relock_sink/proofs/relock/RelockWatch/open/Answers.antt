use Rattle.std.proofs.Common.{inl}
use Rattle.relock_sink.proofs.relock.RelockWatch.open.Goals as goal

pub returns-clause-looked : goal.returns-clause-looked
returns-clause-looked c = λ fed. record {
  sought = c.open.ensures.looked fed;
  judged = record { searched = (c.new.ensures.past, λ later grows. c.new.ensures.searched later.blue later.green later.red); far = inl (c.open.ensures.passed, c.new.ensures.limit) };
}
