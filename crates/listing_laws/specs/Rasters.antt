-- That columns can be received of a raster: what is asked of them is met.
use Rattle.std.specs.Prelude.{◌≡◌, ℕ, List, [], ◌∷◌, None, IsTrue}
use Rattle.tmds_word.specs.Column.{Column}
use Rattle.island_pack.specs.Spelling.{Spells}
use Rattle.island_pack.specs.declared.packet.Packet.{Packet}
use Rattle.link_laws.specs.Laws.{ReceivedOf}
use Rattle.source_end.specs.declared.mode.Mode.{Mode}
use Rattle.source_end.specs.Content.{Frame, are_content}
use Rattle.source_end.specs.Raster.{raster_of}
use Rattle.source_end.specs.RasterRefusals.{raster_fault}

-- columns that spell a raster that is not refused are received for it with no damage
abbrev pub RastersCome : Type 0
RastersCome =
    (mode : Mode) (frames : List Frame) → raster_fault mode frames ≡ None → IsTrue (are_content frames)
    → (sent : List Column) → Spells (raster_of mode frames) sent → ReceivedOf (raster_of mode frames) sent sent

-- there is a mode with a frame, of a row and a packet, that is not refused
pub record IsRastered (mode : Mode) (frame : Frame) : Type 0 where
  pub taken : raster_fault mode (frame ∷ []) ≡ None
  pub content : IsTrue (are_content (frame ∷ []))
  pub row : (bytes : List ℕ) × (frame.rows ≡ bytes ∷ [])
  pub packet : (packet : Packet) × (frame.packets ≡ packet ∷ [])

abbrev pub HasRaster : Type 0
HasRaster = (mode : Mode) × (frame : Frame) × IsRastered mode frame
