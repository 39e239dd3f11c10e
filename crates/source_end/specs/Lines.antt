-- What a line begins with because of its packets, and the packets that lines leave.
use Rattle.std.specs.Prelude.{ℕ, ◌+◌, ◌*◌, ◌==◌, true, List, [], ◌∷◌, ◌++◌, length, drop, IsTrue}
use Rattle.std.specs.List.{list_all}
use Rattle.island_pack.specs.declared.packet.Packet.{Packet}
use Rattle.source_end.specs.declared.mode.Mode.{Mode}
use Rattle.source_end.specs.Raster.{Line, Part, packets, columns, value_at, island_of, room}

-- the columns before the data island of packets, and the island
abbrev pub lead : Mode → Line → List Packet → List Part
lead mode line [] = []
lead mode line (p ∷ ps) = columns (value_at mode line true) 0 12 ++ packets (island_of mode line (p ∷ ps)) ∷ []

-- the column after it
abbrev pub lead_end : List Packet → ℕ
lead_end [] = 0
lead_end (p ∷ ps) = 16 + 32 * length (p ∷ ps)

-- the packets that lines do not take
unfoldable pub left : Mode → List Line → List Packet → List Packet
left mode [] ps = ps
left mode (line ∷ lines) ps = left mode lines (drop (room mode line) ps)

-- each row has so many pixels
abbrev pub AreWide : ℕ → List (List ℕ) → Type 0
AreWide width rows = IsTrue (list_all (λ row. length row == 3 * width) rows)
