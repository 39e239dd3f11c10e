use Rattle.std.proofs.Common.{List, ap, arith}
use Rattle.island_pack.specs.Periods.{ControlRun}
use Rattle.listing_reader.specs.Reported.{with_open}
use Rattle.listing_reader.proofs.OpenPeriods.{none_in_range}
use Rattle.listing_reader.proofs.periods.renewed.Goals as goal

pub invariant_of-result : goal.invariant_of-result
invariant_of-result g c = record {
  few = omega (arith, ap (λ (rs : List ControlRun). g.F.Framing.rules.columns_of (with_open c.args.items rs)) c.new.ensures, c.columns-columns.ensures.value, c.columns-columns.ensures.few);
  turn = c.requires;
  in_range = none_in_range c.new.result c.new.ensures;
}
