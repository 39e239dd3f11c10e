-- What is not refused conforms, and has the columns of all its lines.
use Rattle.std.proofs.Common.{◌≡◌, ℕ, ◌+◌, ◌*◌, ◌/◌, List, [], ◌∷◌, length, refl, ap, ◌∙◌, arith}
use Rattle.island_pack.specs.Periods.{Period, values_of, period_columns, columns_of}
use Rattle.island_pack.proofs.Runs.{join_values}
use Rattle.source_end.specs.Raster.{Part, column, pixels, packets, before, gathered, parts_of, raster_of}
use Rattle.source_end.specs.RasterLaws.{RasterConforms, RasterColumns}
use Rattle.source_end.specs.Gathering.{size}
use Rattle.source_end.proofs.RasterModes.{good_mode, good_frames}
use Rattle.source_end.proofs.RasterSizes.{size_parts}
use Rattle.source_end.proofs.RasterLines.{conforms_by}

pub raster_conforms : RasterConforms
unfolding RasterConforms
raster_conforms mode frames fault content = conforms_by mode (good_mode mode frames fault) frames (good_frames mode frames fault) content

column_first : (v : ℕ) (periods : List Period) → columns_of (before v periods) ≡ 1 + columns_of periods
unfolding columns_of period_columns values_of
column_first v periods = grind (arith, join_values)

pub gathered_size : (parts : List Part) → columns_of (gathered parts) ≡ size parts
unfolding columns_of gathered size period_columns
gathered_size [] = refl
gathered_size (column v ∷ parts) = column_first v (gathered parts) ∙ ap (λ (n : ℕ). 1 + n) (gathered_size parts)
gathered_size (pixels bytes ∷ parts) = ap (λ (n : ℕ). 2 + length bytes / 3 + n) (gathered_size parts)
gathered_size (packets x ∷ parts) = ap (λ (n : ℕ). 4 + 32 * length x.packets + n) (gathered_size parts)

pub raster_columns : RasterColumns
unfolding RasterColumns raster_of
raster_columns mode frames fault = gathered_size (parts_of mode frames) ∙ size_parts mode (good_mode mode frames fault) frames (good_frames mode frames fault)
