-- The generator's content is not refused in video format 1: its rows are as wide and as many as they are to be, there is room
-- for its packets, and it is short enough.
use Rattle.std.proofs.Common.{◌≡◌, ℕ, zero, suc, ◌*◌, ◌≤◌, Bool, false, cond, List, [], ◌∷◌, map, length, refl, ap, ap₂, ◌∙◌, arith, eq-eqb, Option, Some, None}
use Rattle.std.proofs.lemmas.Bool.{le-leb}
use Rattle.std.proofs.lemmas.List.{length-map}
use Rattle.island_pack.specs.declared.packet.Packet.{Packet}
use Rattle.source_end.specs.declared.mode.Mode.{Mode}
use Rattle.source_end.specs.declared.refusal.RasterFault.TheVariants.{Row, NoRoom}
use Rattle.source_end.specs.Content.{Frame}
use Rattle.source_end.specs.Raster.{up_from, lines_of}
use Rattle.source_end.specs.Formats.{formats, mode_in}
use Rattle.source_end.specs.Generator.{row_byte, row_bytes, first_rows, first_sounds, sound_packet, frame_at, first_frames, IsGenerated}
use Rattle.source_end.specs.RasterRefusals.{or_else, numbers_of, bad_mode, bad_row, bad_rows, room_of, no_room, raster_fault}
use Rattle.source_end.proofs.RasterFaults.{frame_room_is}
use Rattle.source_end.proofs.Generated.{length_up, length_frames}

-- video format 1
one : Mode
one = record { across = 640 ∷ (16 ∷ (96 ∷ (48 ∷ []))); down = 480 ∷ (10 ∷ (2 ∷ (33 ∷ []))); positive = false }

row_length : (f y n : ℕ) → length (row_bytes f y n) ≡ n
unfolding row_bytes
row_length f y n = length-map (up_from 0 n) (row_byte f y) ∙ length_up n 0

-- so many rows from row y on
rows_fit : (f g y n : ℕ) → bad_row 640 g y n (map (λ (x : ℕ). row_bytes f x 1920) (up_from y n)) ≡ None
rows_fit f g y zero = refl
rows_fit f g y (suc n) =
    ap (λ (t : Bool). cond t (bad_row 640 g (suc y) n (map (λ (x : ℕ). row_bytes f x 1920) (up_from (suc y) n))) (Some (Row g y))) (eq-eqb (length (row_bytes f y 1920)) 1920 (row_length f y 1920))
    ∙ rows_fit f g (suc y) n

frame_rows_fit : (avi audio : Packet) (f g : ℕ) → bad_row 640 g 0 480 (frame_at avi audio f).rows ≡ None
unfolding frame_at first_rows
frame_rows_fit avi audio f g = rows_fit f g 0 480

all_rows_fit : (avi audio : Packet) (f g n : ℕ) → bad_rows one g (map (frame_at avi audio) (up_from f n)) ≡ None
unfolding one
all_rows_fit avi audio f g zero = refl
all_rows_fit avi audio f g (suc n) =
    ap₂ or_else (frame_rows_fit avi audio f g) (all_rows_fit avi audio (suc f) (suc g) n)

-- 203 packets, and room for 2,250
packet_count : (avi audio : Packet) (f : ℕ) → length (frame_at avi audio f).packets ≡ 203
unfolding frame_at first_sounds
packet_count avi audio f = ap (λ (n : ℕ). suc (suc (suc n))) (length-map (up_from (200 * f) 200) sound_packet ∙ length_up 200 (200 * f))

room_is : (avi audio : Packet) (f : ℕ) → room_of one (lines_of one (frame_at avi audio f)) ≡ 2250
unfolding one frame_at first_rows
room_is avi audio f = grind (arith, frame_room_is, one, length-map, length_up)

packets_fit : (avi audio : Packet) (f g n : ℕ) → no_room one g (map (frame_at avi audio) (up_from f n)) ≡ None
packets_fit avi audio f g zero = refl
packets_fit avi audio f g (suc n) =
    let room = room_of one (lines_of one (frame_at avi audio f)) in
    let count = packet_count avi audio f in
    let is = room_is avi audio f in
    ap (λ (t : Bool). cond t (no_room one (suc g) (map (frame_at avi audio) (up_from (suc f) n))) (Some (NoRoom g room))) (le-leb (length (frame_at avi audio f).packets) room (omega (arith, count, is)))
    ∙ packets_fit avi audio (suc f) (suc g) n

mode_fits : bad_mode 0 (numbers_of one) ≡ None
unfolding one
mode_fits = refl

-- a mode that is there
the_mode : Option Mode → Mode
the_mode None = one
the_mode (Some mode) = mode

pub generated_has_raster : (n : ℕ) (content : List Frame) → n ≤ 20 → IsGenerated n content → (mode : Mode) → mode_in formats 1 ≡ Some mode → raster_fault mode content ≡ None
unfolding one the_mode raster_fault first_frames
generated_has_raster n content few is mode e = grind (arith, the_mode, mode_fits, all_rows_fit, packets_fit, length_frames, le-leb)
