-- Columns that spell a raster are received for it, and there is a raster.
use Rattle.std.proofs.Common.{◌≡◌, true, [], ◌∷◌, replicate, refl}
use Rattle.std.specs.Prelude.{None}
use Rattle.island_pack.specs.declared.packet.Packet.{Packet}
use Rattle.source_end.specs.declared.mode.Mode.{Mode}
use Rattle.source_end.specs.Content.{Frame}
use Rattle.source_end.specs.Raster.{lines_of, raster_of}
use Rattle.source_end.specs.RasterRefusals.{raster_fault}
use Rattle.source_end.specs.RasterLaws.{RasterConforms}
use Rattle.source_end.proofs.RasterLaw.{raster_conforms}
use Rattle.listing_laws.specs.Rasters.{RastersCome, IsRastered, HasRaster}
use Rattle.listing_laws.proofs.Undamaged.{undamaged}

pub rasters_come : RastersCome
unfolding RasterConforms
rasters_come mode frames taken content sent spelled = undamaged (raster_of mode frames) sent (raster_conforms mode frames taken content) spelled

-- A raster: one pixel, and room for a packet in each line without a row.

mode : Mode
mode = record { across = 1 ∷ 1 ∷ 1 ∷ 45 ∷ []; down = 1 ∷ 1 ∷ 1 ∷ 1 ∷ []; positive = true }

packet : Packet
packet = record { header = replicate 3 0; bodies = replicate 28 0; sync = [] }

frame : Frame
frame = record { packets = packet ∷ []; rows = (0 ∷ 128 ∷ 255 ∷ []) ∷ [] }

taken : raster_fault mode (frame ∷ []) ≡ None
unfolding raster_fault lines_of mode packet frame
taken = refl

is_rastered : IsRastered mode frame
unfolding mode packet frame
is_rastered = record { taken = taken; content = refl; row = (0 ∷ 128 ∷ 255 ∷ [], refl); packet = (packet, refl) }

pub has_raster : HasRaster
has_raster = (mode, frame, is_rastered)
