use Rattle.std.proofs.Common.{sym, ◌∙◌, arith}
use Rattle.source_end.specs.RasterLaws.{RasterConforms, RasterColumns}
use Rattle.source_end.proofs.RasterModes.{few_columns}
use Rattle.source_end.proofs.RasterLaw.{raster_conforms, raster_columns}
use Rattle.source_end.proofs.rasters.count_columns.Goals as goal

pub overflow_cast-result : goal.overflow_cast-result
overflow_cast-result c = grind (arith, few_columns)

pub returns-in-None-clause-columns : goal.returns-in-None-clause-columns
unfolding RasterColumns
returns-in-None-clause-columns c = grind (arith, few_columns, raster_columns)

pub returns-in-None-clause-conforming : goal.returns-in-None-clause-conforming
unfolding RasterConforms
returns-in-None-clause-conforming c = raster_conforms c.args.mode.now c.args.content.now (sym c.raster_fault.ensures ∙ c.in-None.is) c.frames.ensures.content
