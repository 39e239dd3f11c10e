-- Why there is no raster: the first cause, over the whole content, decides.
use Rattle.island_pack.specs.declared.ranges.TheConstants.{PIXEL_LIMIT}
use Rattle.std.specs.Prelude.{◌≡◌, Result, Ok, Err, ℕ, suc, zero, ◌+◌, ◌*◌, Bool, ◌==◌, ◌&&◌, cond, List, [], ◌∷◌, length, nat_le, Option, Some, None}
use Rattle.island_pack.specs.Ranges.{has_room}
use Rattle.source_end.specs.declared.mode.Mode.{Mode}
use Rattle.source_end.specs.declared.refusal.RasterFault.{RasterFault}
use Rattle.source_end.specs.declared.refusal.RasterFault.TheVariants.{BadMode, Row, NoRoom, Long, NoMemory}
use Rattle.source_end.specs.Content.{Frame}
use Rattle.source_end.specs.Raster.{Line, lines_of, room, active, front, sync, back, total}

-- the first that is there
abbrev pub or_else : Option RasterFault → Option RasterFault → Option RasterFault
or_else (Some fault) other = Some fault
or_else None other = other

-- each number is 1 to 4,096 (`PIXEL_LIMIT`), but the back porch across is at least 14
abbrev pub is_in_range : ℕ → ℕ → Bool
is_in_range i n = nat_le (cond (i == 3) 14 1) n && nat_le n PIXEL_LIMIT

abbrev pub numbers_of : Mode → List ℕ
numbers_of mode =
    active mode.across ∷ (front mode.across ∷ (sync mode.across ∷ (back mode.across ∷
    (active mode.down ∷ (front mode.down ∷ (sync mode.down ∷ (back mode.down ∷ [])))))))

abbrev pub bad_mode : ℕ → List ℕ → Option RasterFault
bad_mode i [] = None
bad_mode i (n ∷ numbers) = cond (is_in_range i n) (bad_mode (suc i) numbers) (Some (BadMode i))

-- rows from row y of frame f on, of which `left` are wanted
abbrev pub bad_row : ℕ → ℕ → ℕ → ℕ → List (List ℕ) → Option RasterFault
bad_row width f y zero [] = None
bad_row width f y (suc left) [] = Some (Row f y)
bad_row width f y zero (row ∷ rows) = Some (Row f y)
bad_row width f y (suc left) (row ∷ rows) = cond (length row == 3 * width) (bad_row width f (suc y) left rows) (Some (Row f y))

abbrev pub bad_rows : Mode → ℕ → List Frame → Option RasterFault
bad_rows mode f [] = None
bad_rows mode f (frame ∷ frames) = or_else (bad_row (active mode.across) f 0 (active mode.down) frame.rows) (bad_rows mode (suc f) frames)

-- how many packets lines have room for
abbrev pub room_of : Mode → List Line → ℕ
room_of mode [] = 0
room_of mode (line ∷ lines) = room mode line + room_of mode lines

abbrev pub no_room : Mode → ℕ → List Frame → Option RasterFault
no_room mode f [] = None
no_room mode f (frame ∷ frames) =
    cond (nat_le (length frame.packets) (room_of mode (lines_of mode frame)))
    (no_room mode (suc f) frames)
    (Some (NoRoom f (room_of mode (lines_of mode frame))))

abbrev pub too_long : Mode → List Frame → Option RasterFault
too_long mode frames = cond (has_room (length frames * (total mode.across * total mode.down)) 32) None (Some Long)

unfoldable pub raster_fault : Mode → List Frame → Option RasterFault
raster_fault mode frames =
    or_else (bad_mode 0 (numbers_of mode)) (or_else (bad_rows mode 0 frames) (or_else (no_room mode 0 frames) (too_long mode frames)))

-- a fault is returned exactly where there is one; where there is none, only memory may be wanting
abbrev pub AnswersRasterFault : {T : Type 0} → Option RasterFault → Result T RasterFault → Type 0
AnswersRasterFault (Some fault) result = result ≡ Err fault
AnswersRasterFault None (Ok done) = Unit {0}
AnswersRasterFault None (Err fault) = fault ≡ NoMemory
