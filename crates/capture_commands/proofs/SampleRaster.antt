-- The raster of the generator's content is refused for want of memory alone.
use Rattle.std.proofs.Common.{arith, ◌≡◌, ℕ, ◌≤◌, List, Result, Err}
use Rattle.island_pack.specs.Periods.{Period}
use Rattle.source_end.specs.declared.mode.Mode.{Mode}
use Rattle.source_end.specs.declared.refusal.RasterFault.{RasterFault}
use Rattle.source_end.specs.declared.refusal.RasterFault.TheVariants.{NoMemory}
use Rattle.source_end.specs.Content.{Frame}
use Rattle.source_end.specs.Generator.{IsGenerated}
use Rattle.source_end.specs.RasterRefusals.{raster_fault, AnswersRasterFault}
use Rattle.source_end.proofs.GeneratedRaster.{generated_has_raster}
use Rattle.sampling.specs.Sampled.{sample_mode}

pub memory_wanting : (n : ℕ) (mode : Mode) (content : List Frame) (r : Result (List Period) RasterFault) (fault : RasterFault) → n ≤ 20 → mode ≡ sample_mode → IsGenerated n content
    → AnswersRasterFault (raster_fault mode content) r → r ≡ Err fault → fault ≡ NoMemory
memory_wanting n mode content r fault few mode_is g answers is = grind (arith, generated_has_raster)
