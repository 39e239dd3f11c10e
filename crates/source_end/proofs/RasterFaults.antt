-- The first fault, number after number, row after row and frame after frame.
use Rattle.std.proofs.Common.{◌≡◌, ℕ, zero, suc, ◌+◌, ◌-◌, ◌*◌, ◌^◌, ◌≤◌, ◌<◌, Bool, true, false, cond, min, ◌==◌, List, [], ◌∷◌, ◌++◌, length, get_or, drop, map, replicate, Option, Some, None, sym, ap, ap₂, ◌∙◌, arith, eq-eqb}
use Rattle.std.specs.Prelude.{nat_le}
use Rattle.std.proofs.Math.Seq.{drop-cons}
use Rattle.std.proofs.lemmas.List.{drop_all}
use Rattle.std.proofs.lemmas.Bool.{ne_eqb, le-leb, lt-leb}
use Rattle.source_end.specs.declared.mode.Mode.{Mode}
use Rattle.source_end.specs.declared.refusal.RasterFault.{RasterFault}
use Rattle.source_end.specs.declared.refusal.RasterFault.TheVariants.{BadMode, Row, NoRoom, Long}
use Rattle.source_end.specs.Content.{Frame}
use Rattle.source_end.specs.Raster.{Line, active, front, sync, back, total, blank, row_line, lines_of, row_room, blank_room}
use Rattle.source_end.specs.RasterRefusals.{or_else, is_in_range, numbers_of, bad_mode, bad_row, bad_rows, room_of, no_room, too_long, raster_fault}
use Rattle.island_pack.specs.declared.ranges.TheConstants.{COLUMN_LIMIT}
use Rattle.source_end.proofs.RasterModes.{IsFrame, AreFrames, are_frames}

next : {A : Type 0} (i : ℕ) (xs : List A) (d : A) → i < length xs → drop i xs ≡ get_or xs i d ∷ drop (i + 1) xs
next i xs d lt =
    let e : suc i ≡ i + 1 = omega arith in
    drop-cons xs i d lt ∙ ap (λ (k : ℕ). get_or xs i d ∷ drop k xs) e

one_on : (i : ℕ) → suc i ≡ i + 1
one_on i = omega arith

-- Numbers.

pub number_right : (ns : List ℕ) (i : ℕ) → i < length ns → is_in_range i (get_or ns i 0) ≡ true → bad_mode i (drop i ns) ≡ bad_mode (i + 1) (drop (i + 1) ns)
number_right ns i lt h = grind (arith, next, one_on)

pub number_wrong : (ns : List ℕ) (i : ℕ) → i < length ns → is_in_range i (get_or ns i 0) ≡ false → bad_mode i (drop i ns) ≡ Some (BadMode i)
number_wrong ns i lt h = ap (bad_mode i) (next i ns 0 lt) ∙ ap (λ (b : Bool). cond b (bad_mode (suc i) (drop (i + 1) ns)) (Some (BadMode i))) h

-- Rows.

row_tested : (w f h : ℕ) (rows : List (List ℕ)) (d : List ℕ) (y : ℕ) (b : Bool) → y < length rows → y < h → (length (get_or rows y d) == 3 * w) ≡ b → bad_row w f y (h - y) (drop y rows) ≡ cond b (bad_row w f (y + 1) (h - (y + 1)) (drop (y + 1) rows)) (Some (Row f y))
row_tested w f h rows d y b lt less e = grind (arith, next, one_on)

pub row_right : (w f h : ℕ) (rows : List (List ℕ)) (d : List ℕ) (y : ℕ) → y < length rows → y < h → length (get_or rows y d) ≡ 3 * w → bad_row w f y (h - y) (drop y rows) ≡ bad_row w f (y + 1) (h - (y + 1)) (drop (y + 1) rows)
row_right w f h rows d y lt less e = row_tested w f h rows d y true lt less (eq-eqb (length (get_or rows y d)) (3 * w) e)

pub row_wide : (w f h : ℕ) (rows : List (List ℕ)) (d : List ℕ) (y : ℕ) → y < length rows → y < h → (length (get_or rows y d) ≡ 3 * w → ⊥) → bad_row w f y (h - y) (drop y rows) ≡ Some (Row f y)
row_wide w f h rows d y lt less e = row_tested w f h rows d y false lt less (ne_eqb (length (get_or rows y d)) (3 * w) e)

pub row_surplus : (w f h : ℕ) (rows : List (List ℕ)) (d : List ℕ) (y : ℕ) → y < length rows → y ≡ h → bad_row w f y (h - y) (drop y rows) ≡ Some (Row f y)
row_surplus w f h rows d y lt e =
    let k : h - y ≡ 0 = omega arith in
    ap₂ (λ (left : ℕ) (rs : List (List ℕ)). bad_row w f y left rs) k (next y rows d lt)

pub row_missing : (w f h : ℕ) (rows : List (List ℕ)) (y : ℕ) → y ≡ length rows → y < h → bad_row w f y (h - y) (drop y rows) ≡ Some (Row f y)
row_missing w f h rows y e less = grind (arith, drop_all)

-- Room.

room_append : (mode : Mode) (xs ys : List Line) → room_of mode (xs ++ ys) ≡ room_of mode xs + room_of mode ys
room_append mode [] ys = omega arith
room_append mode (x ∷ xs) ys = omega (arith, room_append mode xs ys)

room_more : (n r : ℕ) → r + n * r ≡ suc n * r
room_more n r = grind arith

room_blank : (mode : Mode) (v : Bool) (n : ℕ) → room_of mode (replicate n (blank v)) ≡ n * blank_room mode
room_blank mode v zero = omega arith
room_blank mode v (suc n) = ap (λ (k : ℕ). blank_room mode + k) (room_blank mode v n) ∙ room_more n (blank_room mode)

room_rows : (mode : Mode) (rows : List (List ℕ)) → room_of mode (map row_line rows) ≡ length rows * row_room mode
room_rows mode [] = omega arith
room_rows mode (row ∷ rows) = ap (λ (k : ℕ). row_room mode + k) (room_rows mode rows) ∙ room_more (length rows) (row_room mode)

pub frame_room_is : (mode : Mode) (frame : Frame) → length frame.rows ≡ active mode.down → (sync mode.down + back mode.down + front mode.down) * blank_room mode + active mode.down * row_room mode ≡ room_of mode (lines_of mode frame)
unfolding lines_of
frame_room_is mode frame e = grind (arith, room_append, room_blank, room_rows)

pub frame_at : (mode : Mode) (frames : List Frame) (i : ℕ) (d : Frame) → AreFrames mode frames → i < length frames → IsFrame mode (get_or frames i d)
frame_at mode [] i d are lt = absurd (omega arith)
frame_at mode (f ∷ frames) zero d are lt = are.0
frame_at mode (f ∷ frames) (suc i) d are lt = let less : i < length frames = omega arith in frame_at mode frames i d are.1 less

room_tested : (mode : Mode) (frames : List Frame) (d : Frame) (i n : ℕ) (b : Bool) → i < length frames → n ≡ room_of mode (lines_of mode (get_or frames i d)) → nat_le (length (get_or frames i d).packets) n ≡ b
    → no_room mode i (drop i frames) ≡ cond b (no_room mode (i + 1) (drop (i + 1) frames)) (Some (NoRoom i n))
room_tested mode frames d i n b lt e is = grind (arith, next, one_on)

pub room_enough : (mode : Mode) (frames : List Frame) (d : Frame) (i n : ℕ) → bad_rows mode 0 frames ≡ None → ((frame : Frame) → length frame.rows ≡ active mode.down → n ≡ room_of mode (lines_of mode frame)) → i < length frames → length (get_or frames i d).packets ≤ n
    → no_room mode i (drop i frames) ≡ no_room mode (i + 1) (drop (i + 1) frames)
room_enough mode frames d i n right is lt few =
    let f = get_or frames i d in
    room_tested mode frames d i n true lt (is f (frame_at mode frames i d (are_frames mode 0 frames right) lt).count) (le-leb (length f.packets) n few)

pub room_wanting : (mode : Mode) (frames : List Frame) (d : Frame) (i n : ℕ) → bad_rows mode 0 frames ≡ None → ((frame : Frame) → length frame.rows ≡ active mode.down → n ≡ room_of mode (lines_of mode frame)) → i < length frames → n < length (get_or frames i d).packets
    → no_room mode i (drop i frames) ≡ Some (NoRoom i n)
room_wanting mode frames d i n right is lt many =
    let f = get_or frames i d in
    room_tested mode frames d i n false lt (is f (frame_at mode frames i d (are_frames mode 0 frames right) lt).count) (lt-leb (length f.packets) n many)

-- All causes.

pub at_mode : (mode : Mode) (frames : List Frame) (fault : RasterFault) → bad_mode 0 (numbers_of mode) ≡ Some fault → Some fault ≡ raster_fault mode frames
unfolding raster_fault
at_mode mode frames fault e = sym (ap (λ (t : Option RasterFault). or_else t (or_else (bad_rows mode 0 frames) (or_else (no_room mode 0 frames) (too_long mode frames)))) e)

pub at_rows : (mode : Mode) (frames : List Frame) (fault : RasterFault) → bad_mode 0 (numbers_of mode) ≡ None → bad_rows mode 0 frames ≡ Some fault → Some fault ≡ raster_fault mode frames
unfolding raster_fault
at_rows mode frames fault none e = sym (ap₂ (λ (s t : Option RasterFault). or_else s (or_else t (or_else (no_room mode 0 frames) (too_long mode frames)))) none e)

pub at_room : (mode : Mode) (frames : List Frame) (found : Option RasterFault) → bad_mode 0 (numbers_of mode) ≡ None → bad_rows mode 0 frames ≡ None → no_room mode 0 frames ≡ found → or_else found (too_long mode frames) ≡ raster_fault mode frames
unfolding raster_fault
at_room mode frames found none right e =
    sym (ap₂ (λ (s t : Option RasterFault). or_else s (or_else t (or_else (no_room mode 0 frames) (too_long mode frames)))) none right
    ∙ ap (λ (t : Option RasterFault). or_else t (too_long mode frames)) e)

long_if : (t b : Bool) → t ≡ b → cond t (let n : Option RasterFault = None in n) (Some Long) ≡ cond b None (Some Long)
long_if t b e = ap (λ (x : Bool). cond x None (Some Long)) e

pub is_long : (n columns : ℕ) (t : ℕ) → columns ≡ min (n * t + 32) (2 ^ 64 - 1) → COLUMN_LIMIT < columns → nat_le (n * t + 32) COLUMN_LIMIT ≡ false
is_long n columns t e more = lt-leb (n * t + 32) COLUMN_LIMIT (omega (arith, e, more))

pub not_long : (n columns : ℕ) (t : ℕ) → columns ≡ min (n * t + 32) (2 ^ 64 - 1) → columns ≤ COLUMN_LIMIT → nat_le (n * t + 32) COLUMN_LIMIT ≡ true
not_long n columns t e few = le-leb (n * t + 32) COLUMN_LIMIT (omega (arith, e, few))

pub at_long : (mode : Mode) (frames : List Frame) (columns : ℕ) → columns ≡ min (length frames * (total mode.across * total mode.down) + 32) (2 ^ 64 - 1) → COLUMN_LIMIT < columns → too_long mode frames ≡ Some Long
at_long mode frames columns e more = long_if (nat_le (length frames * (total mode.across * total mode.down) + 32) COLUMN_LIMIT) false (is_long (length frames) columns (total mode.across * total mode.down) e more)

pub at_none : (mode : Mode) (frames : List Frame) (columns : ℕ) → columns ≡ min (length frames * (total mode.across * total mode.down) + 32) (2 ^ 64 - 1) → columns ≤ COLUMN_LIMIT → too_long mode frames ≡ None
at_none mode frames columns e few = long_if (nat_le (length frames * (total mode.across * total mode.down) + 32) COLUMN_LIMIT) true (not_long (length frames) columns (total mode.across * total mode.down) e few)
