use Rattle.period_grammar.specs.Lending.{lent_event}
use Rattle.listing_writer.specs.ContentText.{frame_events}
use Rattle.sampling.proofs.Counting.{counted_unlisted, parting_unlisted}
use Rattle.sampling.proofs.counter.Counter.hear.Goals as goal

pub returns-in-Open : goal.returns-in-Open
returns-in-Open c before was =
    counted_unlisted c.args.self.now c.other.new.self before (lent_event c.args.event.now) was (parting_unlisted c.args.event.now c.in-Open.is) (c.other.ensures (frame_events before) was.heard)
