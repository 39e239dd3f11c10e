use Rattle.std.proofs.Common.{◌≡◌, ◌+◌, ◌-◌, take, subst, arith}
use Rattle.track_sink.specs.Lents.{IsLent}
use Rattle.relock_sink.specs.FrontsGrowing.{most_front}
use Rattle.relock_sink.proofs.lent.front.Goals as goal

pub returns-clause-lent : goal.returns-clause-lent
returns-clause-lent c = λ fed lent.
    let base = c.args.lanes.base in
    let until = c.args.until in
    let after = c.requires in
    let e : base + (until - base) ≡ until = omega arith in
    let within = lent.within in
    let small = lent.small in
    let most = most_front until fed in
    record {
      blue = subst (λ n. IsLent c.front_of_lane.result base (take n fed.blue)) e (c.front_of_lane.ensures fed.blue base lent.blue);
      green = subst (λ n. IsLent c.front_of_lane-2.result base (take n fed.green)) e (c.front_of_lane-2.ensures fed.green base lent.green);
      red = subst (λ n. IsLent c.front_of_lane-3.result base (take n fed.red)) e (c.front_of_lane-3.ensures fed.red base lent.red);
      within = omega arith;
      small = omega arith;
    }
