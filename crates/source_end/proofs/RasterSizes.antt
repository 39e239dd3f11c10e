-- How many columns the lines and frames of a raster take.
use Rattle.std.proofs.Common.{◌≡◌, ℕ, zero, suc, ◌+◌, ◌-◌, ◌*◌, ◌≤◌, Bool, true, false, List, [], ◌∷◌, ◌++◌, map, length, take, drop, replicate, refl, ap, ◌∙◌, append_assoc, arith}
use Rattle.std.proofs.lemmas.List.{length-take}
use Rattle.std.proofs.lemmas.Bool.{eqb-true}
use Rattle.tmds_word.proofs.Below.{and-left, and-right}
use Rattle.terc4.specs.Columns.{one_if}
use Rattle.island_pack.specs.declared.packet.Packet.{Packet}
use Rattle.source_end.specs.declared.mode.Mode.{Mode}
use Rattle.source_end.specs.Content.{Frame}
use Rattle.source_end.specs.Raster.{Line, Part, column, up_from, columns, guard_at, room, row_room, blank_room, sync, back, active, front, total, packets_at, until, whole, laid, blank, row_line, lines_of, parts_of, final_columns}
use Rattle.source_end.specs.Lines.{left}
use Rattle.source_end.specs.Gathering.{size}
use Rattle.source_end.proofs.Gathered.{size_append, size_same}
use Rattle.source_end.proofs.RasterModes.{IsMode, AreRows, IsFrame, AreFrames}

size_up : (value : ℕ → ℕ) (n x : ℕ) → size (map (λ i. column (value i)) (up_from x n)) ≡ n
unfolding size
size_up value zero x = refl
size_up value (suc n) x = let e = size_up value n (suc x) in omega (arith, e)

pub size_columns : (value : ℕ → ℕ) (x e : ℕ) → size (columns value x e) ≡ e - x
size_columns value x e = size_up value (e - x) x

pub length_packets : (mode : Mode) (line : Line) (x : ℕ) (ps : List Packet) → length (packets_at mode line x ps) ≡ length ps
length_packets mode line x [] = refl
length_packets mode line x (p ∷ ps) = ap (λ n. suc n) (length_packets mode line (x + 32) ps)

-- the packets, if there are any, end before column e
abbrev pub Fits : ℕ → ℕ → Type 0
Fits n e = 1 ≤ n → 16 + 32 * n ≤ e

pub size_until : (mode : Mode) (line : Line) (ps : List Packet) (e : ℕ) → Fits (length ps) e → size (until mode line ps e) ≡ e
unfolding size
size_until mode line ps e h = grind (arith, size_columns, size_append, length_packets)

few_taken : (n : ℕ) (ps : List Packet) → length (take n ps) ≤ n
few_taken n ps = omega (arith, length-take n ps)

pub blank_fits : (mode : Mode) (ps : List Packet) → Fits (length (take (blank_room mode) ps)) (total mode.across)
blank_fits mode ps some = let h = few_taken (blank_room mode) ps in omega (arith, h, some)

pub row_fits : (mode : Mode) (ps : List Packet) → Fits (length (take (row_room mode) ps)) (guard_at mode)
row_fits mode ps some = let h = few_taken (row_room mode) ps in omega (arith, h, some)

-- Lines that follow one another.

pub laid_append : (mode : Mode) (xs ys : List Line) (ps : List Packet) → laid mode (xs ++ ys) ps ≡ laid mode xs ps ++ laid mode ys (left mode xs ps)
unfolding laid left
laid_append mode [] ys ps = refl
laid_append mode (x ∷ xs) ys ps = grind (arith, append_assoc, laid_append mode xs ys)

pub more_times : (n t : ℕ) → t + n * t ≡ suc n * t
more_times n t = grind arith

size_laid : (mode : Mode) (line : Line) (lines : List Line) (ps : List Packet) → size (laid mode (line ∷ lines) ps) ≡ size (whole mode line (take (room mode line) ps) line.row) + size (laid mode lines (drop (room mode line) ps))
unfolding laid
size_laid mode line lines ps = size_append (whole mode line (take (room mode line) ps) line.row) (laid mode lines (drop (room mode line) ps))

size_none : (mode : Mode) (ps : List Packet) → size (laid mode [] ps) ≡ 0
unfolding laid size
size_none mode ps = refl

pub size_blank : (mode : Mode) (v : Bool) (n : ℕ) (ps : List Packet) → size (laid mode (replicate n (blank v)) ps) ≡ n * total mode.across
size_blank mode v zero ps = size_none mode ps ∙ omega arith
size_blank mode v (suc n) ps = grind (arith, size_laid, size_until, blank_fits, more_times, size_blank mode v n)

pub long_row : (width : ℕ) (row : List ℕ) (rows : List (List ℕ)) → AreRows width (row ∷ rows) → length row ≡ 3 * width
long_row width row rows h = eqb-true (length row) (3 * width) (and-left _ _ h)

pub size_rows : (mode : Mode) → IsMode mode → (rows : List (List ℕ)) → AreRows (active mode.across) rows → (ps : List Packet) → size (laid mode (map row_line rows) ps) ≡ length rows * total mode.across
unfolding size
size_rows mode ok [] are ps = size_none mode ps ∙ omega arith
size_rows mode ok (row ∷ rows) are ps = grind (arith, size_laid, long_row, and-right, more_times, size_append, size_until, row_fits, size_columns, size_rows mode ok rows)

-- The four areas of a frame.

abbrev pub sync_part : Mode → Frame → List Part
sync_part mode f = laid mode (replicate (sync mode.down) (blank true)) f.packets

abbrev pub after_sync : Mode → Frame → List Packet
after_sync mode f = left mode (replicate (sync mode.down) (blank true)) f.packets

abbrev pub back_part : Mode → Frame → List Part
back_part mode f = laid mode (replicate (back mode.down) (blank false)) (after_sync mode f)

abbrev pub after_back : Mode → Frame → List Packet
after_back mode f = left mode (replicate (back mode.down) (blank false)) (after_sync mode f)

abbrev pub rows_part : Mode → Frame → List Part
rows_part mode f = laid mode (map row_line f.rows) (after_back mode f)

abbrev pub front_part : Mode → Frame → List Part
front_part mode f = laid mode (replicate (front mode.down) (blank false)) (left mode (map row_line f.rows) (after_back mode f))

pub parts : (mode : Mode) (f : Frame) → laid mode (lines_of mode f) f.packets ≡ sync_part mode f ++ (back_part mode f ++ (rows_part mode f ++ front_part mode f))
unfolding lines_of
parts mode f = grind (arith, laid_append)

pub parts_none : (mode : Mode) → parts_of mode [] ≡ final_columns mode
unfolding parts_of
parts_none mode = refl

pub parts_first : (mode : Mode) (f : Frame) (frames : List Frame) → parts_of mode (f ∷ frames) ≡ laid mode (lines_of mode f) f.packets ++ parts_of mode frames
unfolding parts_of
parts_first mode f frames = refl

pub parts_more : (mode : Mode) (f : Frame) (frames : List Frame)
    → parts_of mode (f ∷ frames) ≡ sync_part mode f ++ (back_part mode f ++ (rows_part mode f ++ (front_part mode f ++ parts_of mode frames)))
unfolding parts_of
parts_more mode f frames = grind (arith, parts, append_assoc)

-- Sizes of frames.

pub four_areas : (s b a f t : ℕ) → s * t + (b * t + (a * t + f * t)) ≡ t * (s + b + a + f)
four_areas s b a f t = grind arith

pub size_frame : (mode : Mode) → IsMode mode → (f : Frame) → IsFrame mode f → size (laid mode (lines_of mode f) f.packets) ≡ total mode.across * total mode.down
size_frame mode ok f is = grind (arith, parts, size_append, size_blank, size_rows, four_areas)

pub size_parts : (mode : Mode) → IsMode mode → (frames : List Frame) → AreFrames mode frames → size (parts_of mode frames) ≡ length frames * (total mode.across * total mode.down) + 32
size_parts mode ok [] are = ap size (parts_none mode) ∙ size_same 32 (3 * one_if mode.positive) ∙ omega arith
size_parts mode ok (f ∷ frames) are = grind (arith, parts_first, size_append, size_frame, size_parts mode ok frames)
