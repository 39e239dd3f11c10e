use Rattle.std.proofs.Common.{arith, inr}
use Rattle.track_sink.proofs.Seeking.{lent_most, none_left}
use Rattle.track_sink.proofs.strays.StraysWatch.next_end.Goals as goal

pub returns-in-Some-clause-found : goal.returns-in-Some-clause-found
returns-in-Some-clause-found c = λ fed lent was. c.in-Some.ensures.sought fed lent (c.loop-self.invariant.looked fed lent was).sought

pub loop-self-preserved : goal.loop-self-preserved
loop-self-preserved c = record {
  from = let h = c.loop-self.invariant.from in omega arith;
  looked = λ fed lent was.
      let most = lent_most c.args.lanes fed lent in
      let here = c.in-None.ensures.sought fed lent (c.loop-self.invariant.looked fed lent was).sought in
      record { sought = record { blue = here.blue; green = here.green; red = here.red }; decided = inr (omega arith) };
}

pub returns-clause-found : goal.returns-clause-found
returns-clause-found c = λ fed lent was.
    let most = lent_most c.args.lanes fed lent in
    let here = c.loop-self.invariant.looked fed lent was in
    (here, none_left c.loop-self.self fed here (omega arith), omega arith)
