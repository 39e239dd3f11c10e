use Rattle.std.proofs.Common.{List, sym, subst}
use Rattle.island_pack.specs.Periods.{Period}
use Rattle.island_pack.specs.Conforming.{IsConforming}
use Rattle.source_end.proofs.rasters.raster.Goals as goal

pub new-requires-clause-conforming : goal.new-requires-clause-conforming
new-requires-clause-conforming c = subst (λ (ps : List Period). IsConforming ps) (sym c.in-Ok.ensures) c.in_ok-columns.ensures.conforming
