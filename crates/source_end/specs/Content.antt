-- What rasters show and carry: frames, each with its packets and its rows.
use Rattle.std.specs.Prelude.{◌==◌, ◌&&◌, Bool, List, [], ◌∷◌, ◌++◌, length}
use Rattle.std.specs.List.{list_all}
use Rattle.std.specs.Prelude.{ℕ}
use Rattle.island_pack.specs.Conforming.{are_bytes}
use Rattle.island_pack.specs.declared.packet.Packet.{Packet}

-- a frame: its packets, whose sync values do not matter, and its rows, three bytes a pixel
pub record Frame : Type 0 where
  pub packets : List Packet
  pub rows : List (List ℕ)

abbrev pub empty_frame : Frame
empty_frame = record { packets = []; rows = [] }

abbrev pub with_packet : Packet → Frame → Frame
with_packet packet f = record { packets = f.packets ++ packet ∷ []; rows = f.rows }

abbrev pub with_row : List ℕ → Frame → Frame
with_row bytes f = record { packets = f.packets; rows = f.rows ++ bytes ∷ [] }

-- frames, the last of which is changed
abbrev pub on_last : (Frame → Frame) → List Frame → List Frame
on_last change [] = []
on_last change (f ∷ []) = change f ∷ []
on_last change (f ∷ (g ∷ frames)) = f ∷ on_last change (g ∷ frames)

-- three header bytes and four bodies of seven bytes
abbrev pub is_payload : Packet → Bool
is_payload p = ((length p.header == 3) && are_bytes p.header) && ((length p.bodies == 28) && are_bytes p.bodies)

-- rows of bytes, and packets of bytes
abbrev pub is_content : Frame → Bool
is_content f = list_all are_bytes f.rows && list_all is_payload f.packets

abbrev pub are_content : List Frame → Bool
are_content frames = list_all is_content frames
