-- The raster of a content in a mode (CTA-861: sync, back porch, active and front porch, across and down). Where its
-- packets stand is this project's own.
use Rattle.std.specs.Prelude.{ℕ, zero, suc, ◌+◌, ◌-◌, ◌*◌, ◌/◌, Bool, true, false, ◌&&◌, not, cond, List, [], ◌∷◌, ◌++◌, map, length, take, drop, replicate, min, nat_le, nat_lt, slice_index, Option, Some, None}
use Rattle.terc4.specs.Columns.{one_if}
use Rattle.island_pack.specs.Periods.{SyncPair, DataIsland, Period, control, video, island}
use Rattle.island_pack.specs.declared.packet.Packet.{Packet}
use Rattle.island_pack.specs.Runs.{join}
use Rattle.source_end.specs.declared.mode.Mode.{Mode}
use Rattle.source_end.specs.Content.{Frame}

-- active, front, sync and back of a mode's columns or lines
abbrev pub active : List ℕ → ℕ
active numbers = slice_index numbers 0

abbrev pub front : List ℕ → ℕ
front numbers = slice_index numbers 1

abbrev pub sync : List ℕ → ℕ
sync numbers = slice_index numbers 2

abbrev pub back : List ℕ → ℕ
back numbers = slice_index numbers 3

-- all of a line's columns, or all of a frame's lines
abbrev pub total : List ℕ → ℕ
total numbers = sync numbers + back numbers + active numbers + front numbers

-- a line: whether VSYNC is at its active level, and its row, if it is an active line
pub record Line : Type 0 where
  pub vsync : Bool
  pub row : Option (List ℕ)

-- a line without a row
abbrev pub blank : Bool → Line
blank vsync = record { vsync = vsync; row = None }

-- an active line
abbrev pub row_line : List ℕ → Line
row_line row = record { vsync = false; row = Some row }

-- a frame's lines: sync, back, active, front
unfoldable pub lines_of : Mode → Frame → List Line
lines_of mode frame =
    replicate (sync mode.down) (blank true)
    ++ (replicate (back mode.down) (blank false)
    ++ (map row_line frame.rows
    ++ replicate (front mode.down) (blank false)))

-- the level of a signal that is at its active level or not
abbrev pub level : Bool → Bool → Bool
level positive true = positive
level positive false = not positive

-- HSYNC plus twice VSYNC in column x of a line: HSYNC is at its active level in the sync columns
abbrev pub sync_at : Mode → Line → ℕ → ℕ
sync_at mode line x = one_if (level mode.positive (nat_lt x (sync mode.across))) + 2 * one_if (level mode.positive line.vsync)

abbrev pub is_within : ℕ → ℕ → ℕ → Bool
is_within x from to = nat_le from x && nat_lt x to

-- the column at which the guard before a row begins
abbrev pub guard_at : Mode → ℕ
guard_at mode = sync mode.across + back mode.across - 2

abbrev pub has_row : Line → Bool
has_row line = elim line.row [ Some row ↦ true | None ↦ false ]

-- CTL0 to CTL3 in column x of a line, four to a place: CTL0 in the eight columns before the guard of a row, CTL0 and
-- CTL2 in columns 4 to 11 of a line with packets
abbrev pub ctl_at : Mode → Line → Bool → ℕ → ℕ
ctl_at mode line has_packets x =
    cond (has_row line && is_within x (guard_at mode - 8) (guard_at mode)) 4
    (cond (has_packets && is_within x 4 12) 20 0)

-- the value of column x of a line, where it is a control column
abbrev pub value_at : Mode → Line → Bool → ℕ → ℕ
value_at mode line has_packets x = sync_at mode line x + ctl_at mode line has_packets x

-- how many packets a line has room for, at most 18: before a row they leave room for its preamble and guard
abbrev pub row_room : Mode → ℕ
row_room mode = min 18 ((sync mode.across + back mode.across - 30) / 32)

abbrev pub blank_room : Mode → ℕ
blank_room mode = min 18 ((total mode.across - 16) / 32)

abbrev pub room : Mode → Line → ℕ
room mode line = cond (has_row line) (row_room mode) (blank_room mode)

-- what a line is made of, from left to right: control columns, each with its value, a row, a data island
pub data Part : Type 0 where
  column : ℕ → Part
  pixels : List ℕ → Part
  packets : DataIsland → Part

-- n numbers from x on
abbrev pub up_from : ℕ → ℕ → List ℕ
up_from x zero = []
up_from x (suc n) = x ∷ up_from (suc x) n

-- control columns from column x up to column e of a line
abbrev pub columns : (ℕ → ℕ) → ℕ → ℕ → List Part
columns value x e = map (λ i. column (value i)) (up_from x (e - x))

-- packets from column x of a line on, with the sync values of their columns
abbrev pub packets_at : Mode → Line → ℕ → List Packet → List Packet
packets_at mode line x [] = []
packets_at mode line x (p ∷ ps) =
    record { header = p.header; bodies = p.bodies; sync = map (sync_at mode line) (up_from x 32) } ∷ packets_at mode line (x + 32) ps

abbrev pub guards_at : Mode → Line → ℕ → SyncPair
guards_at mode line x = record { first = sync_at mode line x; second = sync_at mode line (x + 1) }

-- the data island of a line: its guard in columns 12 and 13, its packets, and the guard that closes it
abbrev pub island_of : Mode → Line → List Packet → DataIsland
island_of mode line ps = record {
  opening = guards_at mode line 12;
  packets = packets_at mode line 14 ps;
  closing = guards_at mode line (14 + 32 * length ps);
}

-- a line with these packets up to column e
abbrev pub until : Mode → Line → List Packet → ℕ → List Part
until mode line [] e = columns (value_at mode line false) 0 e
until mode line (p ∷ ps) e =
    columns (value_at mode line true) 0 12
    ++ (packets (island_of mode line (p ∷ ps)) ∷ columns (value_at mode line true) (16 + 32 * length (p ∷ ps)) e)

-- a whole line; after a row only front columns follow
abbrev pub whole : Mode → Line → List Packet → Option (List ℕ) → List Part
whole mode line ps None = until mode line ps (total mode.across)
whole mode line ps (Some row) =
    until mode line ps (guard_at mode)
    ++ (pixels row ∷ columns (λ x. sync_at mode line x) (sync mode.across + back mode.across + active mode.across) (total mode.across))

-- lines one after another, each of which takes the next packets up to its room
unfoldable pub laid : Mode → List Line → List Packet → List Part
laid mode [] ps = []
laid mode (line ∷ lines) ps = whole mode line (take (room mode line) ps) line.row ++ laid mode lines (drop (room mode line) ps)

-- the 32 control columns after the last frame: HSYNC and VSYNC at their active levels
abbrev pub final_columns : Mode → List Part
final_columns mode = replicate 32 (column (3 * one_if mode.positive))

unfoldable pub parts_of : Mode → List Frame → List Part
parts_of mode [] = final_columns mode
parts_of mode (f ∷ frames) = laid mode (lines_of mode f) f.packets ++ parts_of mode frames

-- a control column before periods
abbrev pub before : ℕ → List Period → List Period
before v (control runs ∷ periods) = control (join v runs) ∷ periods
before v (video bytes ∷ periods) = control (join v []) ∷ (video bytes ∷ periods)
before v (island x ∷ periods) = control (join v []) ∷ (island x ∷ periods)
before v [] = control (join v []) ∷ []

-- neighbouring control columns are a control period, of longest runs of like values
unfoldable pub gathered : List Part → List Period
gathered [] = []
gathered (column v ∷ parts) = before v (gathered parts)
gathered (pixels bytes ∷ parts) = video bytes ∷ gathered parts
gathered (packets x ∷ parts) = island x ∷ gathered parts

unfoldable pub raster_of : Mode → List Frame → List Period
raster_of mode frames = gathered (parts_of mode frames)
