use Rattle.std.proofs.Common.{List, ap}
use Rattle.island_pack.specs.Periods.{Period}
use Rattle.source_end.specs.Refusals.{last_period, is_control_last}
use Rattle.listing_reader.proofs.FramedOpen.{framed_none}
use Rattle.listing_reader.proofs.OpenPeriods.{none_in_range}
use Rattle.listing_reader.proofs.periods.Periods.new.Goals as goal

pub invariant_of-result : goal.invariant_of-result
invariant_of-result g c = record {
  few = framed_none _ _ _ c.lawful.ensures c.new.result c.new-2.result c.new.ensures c.new-2.ensures;
  turn = ap (λ (ps : List Period). is_control_last (last_period ps)) c.new.ensures;
  in_range = none_in_range c.new-2.result c.new-2.ensures;
}
