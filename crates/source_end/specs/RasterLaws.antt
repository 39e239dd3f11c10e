-- What holds of rasters.
use Rattle.std.specs.Prelude.{◌≡◌, ℕ, ◌+◌, ◌*◌, ◌≤◌, List, length, Some, None, IsTrue}
use Rattle.island_pack.specs.Periods.{columns_of}
use Rattle.island_pack.specs.Conforming.{IsConforming}
use Rattle.source_end.specs.declared.mode.Mode.{Mode}
use Rattle.source_end.specs.Content.{Frame, are_content}
use Rattle.source_end.specs.Raster.{total, raster_of}
use Rattle.source_end.specs.Formats.{formats, mode_in}
use Rattle.source_end.specs.Generator.{IsGenerated}
use Rattle.source_end.specs.RasterRefusals.{raster_fault}

-- what is not refused conforms
unfoldable pub RasterConforms : Type 0
RasterConforms = (mode : Mode) (frames : List Frame) → raster_fault mode frames ≡ None → IsTrue (are_content frames) → IsConforming (raster_of mode frames)

-- its columns are those of all lines of all frames, and 32
unfoldable pub RasterColumns : Type 0
RasterColumns =
    (mode : Mode) (frames : List Frame) → raster_fault mode frames ≡ None
    → columns_of (raster_of mode frames) ≡ length frames * (total mode.across * total mode.down) + 32

-- the generator's content has a raster in video format 1
unfoldable pub GeneratedHasRaster : Type 0
GeneratedHasRaster =
    (n : ℕ) (content : List Frame) → n ≤ 20 → IsGenerated n content
    → (mode : Mode) → mode_in formats 1 ≡ Some mode → raster_fault mode content ≡ None
