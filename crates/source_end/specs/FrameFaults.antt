-- The first fault of a content that grows frame by frame: what is to be remembered of the frames before is their number and
-- their first fault.
use Rattle.std.specs.Prelude.{ℕ, ◌+◌, ◌*◌, cond, nat_le, Option, Some, None}
use Rattle.island_pack.specs.Ranges.{has_room}
use Rattle.source_end.specs.declared.mode.Mode.{Mode}
use Rattle.source_end.specs.declared.refusal.RasterFault.{RasterFault}
use Rattle.source_end.specs.declared.refusal.RasterFault.TheVariants.{BadMode, Row, NoRoom, Long, NoMemory}
use Rattle.source_end.specs.Raster.{active, front, sync, back, total, row_room, blank_room}

-- how many packets the lines of a frame have room for
abbrev pub frame_room : Mode → ℕ
frame_room mode = (sync mode.down + back mode.down + front mode.down) * blank_room mode + active mode.down * row_room mode

-- so many frames have too many columns
abbrev pub too_many : Mode → ℕ → Option RasterFault
too_many mode frames = cond (has_room (frames * (total mode.across * total mode.down)) 32) None (Some Long)

-- a frame of so many packets after `count` frames that have room, or else a later fault
abbrev pub unless_full : Mode → ℕ → ℕ → Option RasterFault → Option RasterFault
unless_full mode count packets later = cond (nat_le packets (frame_room mode)) later (Some (NoRoom count (frame_room mode)))

-- the first fault with one frame more, of all its rows, by that of the `count` frames before
unfoldable pub next_fault : Mode → Option RasterFault → ℕ → ℕ → Option RasterFault
next_fault mode None count packets = unless_full mode count packets (too_many mode (count + 1))
next_fault mode (Some Long) count packets = unless_full mode count packets (Some Long)
next_fault mode (Some (BadMode i)) count packets = Some (BadMode i)
next_fault mode (Some (Row f y)) count packets = Some (Row f y)
next_fault mode (Some (NoRoom f p)) count packets = Some (NoRoom f p)
next_fault mode (Some NoMemory) count packets = Some NoMemory
