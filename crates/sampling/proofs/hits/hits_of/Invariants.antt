use Rattle.std.proofs.Common.{◌≡◌, take}
use Rattle.island_pack.specs.Periods.{columns_of}
use Rattle.sampling.specs.Strikes.{strikes}
use Rattle.sampling.specs.Struck.{struck}
use Rattle.sampling.proofs.hits.hits_of.Given as goal

abbrev pub invariant-loop-item : goal.invariant-loop-item
invariant-loop-item l = record {
  at_is : l.at ≡ columns_of (take l.item-index l.stream);
  hits_are : l.hits.items ≡ struck l.tap l.columns (strikes 0 (take l.item-index l.stream));
}
