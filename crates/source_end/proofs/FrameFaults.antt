-- The first fault of a content with one frame more.
use Rattle.std.proofs.Common.{◌≡◌, ℕ, zero, suc, ◌+◌, ◌*◌, Bool, true, false, cond, List, [], ◌∷◌, ◌++◌, length, Option, Some, None, refl, ap, ap₂, sym, subst, ◌∙◌, zero-add, arith, length-append}
use Rattle.std.specs.Prelude.{nat_le}
use Rattle.std.proofs.lemmas.Bool.{lt-leb, leb-false}
use Rattle.tmds_word.proofs.Below.{and-left, and-right}
use Rattle.source_end.specs.declared.mode.Mode.{Mode}
use Rattle.source_end.specs.declared.refusal.RasterFault.{RasterFault}
use Rattle.source_end.specs.declared.refusal.RasterFault.TheVariants.{BadMode, Row, NoRoom, Long}
use Rattle.source_end.specs.Content.{Frame}
use Rattle.source_end.specs.Raster.{active, total, lines_of}
use Rattle.source_end.specs.RasterRefusals.{or_else, is_in_range, numbers_of, bad_mode, bad_row, bad_rows, room_of, no_room, too_long, raster_fault}
use Rattle.source_end.specs.FrameFaults.{too_many, unless_full, next_fault}
use Rattle.source_end.proofs.RasterFaults.{at_mode, at_room, frame_room_is}
use Rattle.island_pack.specs.declared.ranges.TheConstants.{COLUMN_LIMIT}
use Rattle.source_end.proofs.RasterModes.{AreRows, IsFrame, AreFrames}

-- ---- frames that have all their rows

rows_right : (width f y n : ℕ) (rows : List (List ℕ)) → AreRows width rows → length rows ≡ n → bad_row width f y n rows ≡ None
rows_right width f y zero [] wide size = refl
rows_right width f y (suc n) [] wide size = absurd (omega (arith, size))
rows_right width f y zero (row ∷ rows) wide size = absurd (omega (arith, size))
rows_right width f y (suc n) (row ∷ rows) wide size =
    ap (λ (t : Bool). cond t (bad_row width f (suc y) n rows) (Some (Row f y))) (and-left _ _ wide) ∙ rows_right width f (suc y) n rows (and-right _ _ wide) (omega (arith, size))

frames_right : (mode : Mode) (f : ℕ) (frames : List Frame) → AreFrames mode frames → bad_rows mode f frames ≡ None
frames_right mode f [] are = refl
frames_right mode f (frame ∷ frames) are =
    ap₂ or_else (rows_right (active mode.across) f 0 (active mode.down) frame.rows are.0.rows are.0.count) (frames_right mode (suc f) frames are.1)

pub are_more : (mode : Mode) (frames : List Frame) (x : Frame) → AreFrames mode frames → IsFrame mode x → AreFrames mode (frames ++ x ∷ [])
are_more mode [] x are is = (is, tt)
are_more mode (frame ∷ frames) x are is = (are.0, are_more mode frames x are.1 is)

-- ---- faults that stay the first

mode_stays : (mode : Mode) (i : ℕ) (ns : List ℕ) (fault : RasterFault) (count packets : ℕ) → bad_mode i ns ≡ Some fault → next_fault mode (Some fault) count packets ≡ Some fault
unfolding next_fault
mode_stays mode i [] fault count packets e = absurd cc
mode_stays mode i (n ∷ ns) fault count packets e = by_number (is_in_range i n) (mode_stays mode (suc i) ns fault count packets) e where
  by_number : (t : Bool) → (bad_mode (suc i) ns ≡ Some fault → next_fault mode (Some fault) count packets ≡ Some fault)
      → cond t (bad_mode (suc i) ns) (Some (BadMode i)) ≡ Some fault → next_fault mode (Some fault) count packets ≡ Some fault
  by_number true later h = later h
  by_number false later h = let is : BadMode i ≡ fault = cc in subst (λ (x : RasterFault). next_fault mode (Some x) count packets ≡ Some x) is refl

room_stays : (mode : Mode) (f : ℕ) (frames : List Frame) (fault : RasterFault) (count packets : ℕ) → no_room mode f frames ≡ Some fault → next_fault mode (Some fault) count packets ≡ Some fault
unfolding next_fault
room_stays mode f [] fault count packets e = absurd cc
room_stays mode f (frame ∷ frames) fault count packets e = by_frame (nat_le (length frame.packets) (room_of mode (lines_of mode frame))) (room_stays mode (suc f) frames fault count packets) e where
  by_frame : (t : Bool) → (no_room mode (suc f) frames ≡ Some fault → next_fault mode (Some fault) count packets ≡ Some fault)
      → cond t (no_room mode (suc f) frames) (Some (NoRoom f (room_of mode (lines_of mode frame)))) ≡ Some fault → next_fault mode (Some fault) count packets ≡ Some fault
  by_frame true later h = later h
  by_frame false later h =
      let is : NoRoom f (room_of mode (lines_of mode frame)) ≡ fault = cc in subst (λ (x : RasterFault). next_fault mode (Some x) count packets ≡ Some x) is refl

-- ---- one frame more

-- a frame of its own
abbrev alone : Mode → ℕ → Frame → Option RasterFault
alone mode f x = cond (nat_le (length x.packets) (room_of mode (lines_of mode x))) None (Some (NoRoom f (room_of mode (lines_of mode x))))

after : (t : Bool) (a b c : Option RasterFault) (fault : RasterFault) → a ≡ or_else b c → cond t a (Some fault) ≡ or_else (cond t b (Some fault)) c
after t a b c fault h = grind arith

room_more : (mode : Mode) (f : ℕ) (frames : List Frame) (x : Frame) → no_room mode f (frames ++ x ∷ []) ≡ or_else (no_room mode f frames) (alone mode (f + length frames) x)
room_more mode f [] x = let here : f ≡ f + 0 = omega arith in ap (λ (n : ℕ). alone mode n x) here
room_more mode f (frame ∷ frames) x =
    let place : suc f + length frames ≡ f + length (frame ∷ frames) = omega arith in
    after (nat_le (length frame.packets) (room_of mode (lines_of mode frame))) _ (no_room mode (suc f) frames) (alone mode (f + length (frame ∷ frames)) x) _
    (room_more mode (suc f) frames x ∙ ap (λ (n : ℕ). or_else (no_room mode (suc f) frames) (alone mode n x)) place)

by_columns : (mode : Mode) (n packets : ℕ) (t : Bool) → nat_le (n * (total mode.across * total mode.down) + 32) COLUMN_LIMIT ≡ t
    → unless_full mode n packets (too_many mode (n + 1)) ≡ next_fault mode (cond t None (Some Long)) n packets
unfolding next_fault
by_columns mode n packets t h = grind (arith, lt-leb, leb-false)

by_room : (mode : Mode) (frames : List Frame) (x : Frame) (found : Option RasterFault) → no_room mode 0 frames ≡ found → IsFrame mode x
    → or_else (or_else found (alone mode (0 + length frames) x)) (too_long mode (frames ++ x ∷ [])) ≡ next_fault mode (or_else found (too_long mode frames)) (length frames) (length x.packets)
by_room mode frames x found h k = grind (arith, room_stays, length-append, by_columns, zero-add, frame_room_is)

pub raster_more : (mode : Mode) (frames : List Frame) (x : Frame) → (bad_mode 0 (numbers_of mode) ≡ None → AreFrames mode frames × IsFrame mode x)
    → raster_fault mode (frames ++ x ∷ []) ≡ next_fault mode (raster_fault mode frames) (length frames) (length x.packets)
raster_more mode frames x right = by_mode (bad_mode 0 (numbers_of mode)) refl where
  by_mode : (m : Option RasterFault) → bad_mode 0 (numbers_of mode) ≡ m → raster_fault mode (frames ++ x ∷ []) ≡ next_fault mode (raster_fault mode frames) (length frames) (length x.packets)
  by_mode (Some fault) e =
      sym (at_mode mode (frames ++ x ∷ []) fault e) ∙ sym (mode_stays mode 0 (numbers_of mode) fault (length frames) (length x.packets) e)
      ∙ ap (λ (o : Option RasterFault). next_fault mode o (length frames) (length x.packets)) (at_mode mode frames fault e)
  by_mode None e =
      let are = right e in
      let last = alone mode (0 + length frames) x in
      sym (at_room mode (frames ++ x ∷ []) (or_else (no_room mode 0 frames) last) e (frames_right mode 0 (frames ++ x ∷ []) (are_more mode frames x are.0 are.1)) (room_more mode 0 frames x))
      ∙ by_room mode frames x (no_room mode 0 frames) refl are.1
      ∙ ap (λ (o : Option RasterFault). next_fault mode o (length frames) (length x.packets)) (at_room mode frames (no_room mode 0 frames) e (frames_right mode 0 frames are.0) refl)

pub raster_none : (mode : Mode) → raster_fault mode [] ≡ bad_mode 0 (numbers_of mode)
unfolding raster_fault
raster_none mode = grind arith
