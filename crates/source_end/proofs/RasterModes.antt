-- What a mode and its frames have where no raster is refused.
use Rattle.std.proofs.Common.{arith, ◌≡◌, ℕ, zero, suc, ◌+◌, ◌*◌, ◌≤◌, Bool, true, ◌&&◌, cond, ◌==◌, List, [], ◌∷◌, length, Option, Some, None, refl, ap, ap₂}
use Rattle.std.specs.List.{list_all}
use Rattle.std.proofs.lemmas.Bool.{leb-true}
use Rattle.tmds_word.proofs.Below.{and-left, and-right}
use Rattle.source_end.specs.declared.mode.Mode.{Mode}
use Rattle.source_end.specs.declared.refusal.RasterFault.{RasterFault}
use Rattle.source_end.specs.declared.refusal.RasterFault.TheVariants.{Row}
use Rattle.source_end.specs.Content.{Frame}
use Rattle.source_end.specs.Raster.{active, front, sync, back, total}
use Rattle.island_pack.specs.declared.ranges.TheConstants.{COLUMN_LIMIT}
use Rattle.source_end.specs.RasterRefusals.{or_else, numbers_of, bad_mode, bad_row, bad_rows, no_room, too_long, raster_fault}

-- what the numbers of a mode must be
pub record IsMode (mode : Mode) : Type 0 where
  pub sync_columns : 1 ≤ sync mode.across
  pub back_columns : 14 ≤ back mode.across
  pub active_columns : 1 ≤ active mode.across
  pub few_columns : active mode.across ≤ 4096
  pub front_columns : 1 ≤ front mode.across
  pub sync_lines : 1 ≤ sync mode.down
  pub back_lines : 1 ≤ back mode.down
  pub active_lines : 1 ≤ active mode.down
  pub few_lines : active mode.down ≤ 4096
  pub front_lines : 1 ≤ front mode.down

abbrev pub AreRows : ℕ → List (List ℕ) → Type 0
AreRows width rows = list_all (λ row. length row == 3 * width) rows ≡ true

-- a frame has its rows
pub record IsFrame (mode : Mode) (f : Frame) : Type 0 where
  pub rows : AreRows (active mode.across) f.rows
  pub count : length f.rows ≡ active mode.down

abbrev pub AreFrames : Mode → List Frame → Type 0
AreFrames mode [] = Unit {0}
AreFrames mode (f ∷ frames) = IsFrame mode f × AreFrames mode frames

pub both_none : (x y : Option RasterFault) → or_else x y ≡ None → (x ≡ None) × (y ≡ None)
both_none x y h = grind arith

pub in_test : (t : Bool) (rest : Option RasterFault) (fault : RasterFault) → cond t rest (Some fault) ≡ None → (t ≡ true) × (rest ≡ None)
in_test t rest fault h = grind arith

record InRange (least n : ℕ) : Type 0 where
  low : least ≤ n
  high : n ≤ 4096

pub is_mode : (mode : Mode) → bad_mode 0 (numbers_of mode) ≡ None → IsMode mode
is_mode mode h0 = grind (arith, in_test, leb-true, and-left, and-right)

pub are_rows : (width f y n : ℕ) (rows : List (List ℕ)) → bad_row width f y n rows ≡ None → (AreRows width rows) × (length rows ≡ n)
are_rows width f y zero [] h = (refl, refl)
are_rows width f y (suc n) [] h = absurd cc
are_rows width f y zero (row ∷ rows) h = absurd cc
are_rows width f y (suc n) (row ∷ rows) h =
    let t = in_test (length row == 3 * width) (bad_row width f (suc y) n rows) (Row f y) h in
    let k = are_rows width f (suc y) n rows t.1 in
    (ap₂ (λ (a b : Bool). a && b) t.0 k.0, ap (λ i. suc i) k.1)

pub are_frames : (mode : Mode) (f : ℕ) (frames : List Frame) → bad_rows mode f frames ≡ None → AreFrames mode frames
are_frames mode f [] h = tt
are_frames mode f (frame ∷ frames) h =
    let t = both_none (bad_row (active mode.across) f 0 (active mode.down) frame.rows) (bad_rows mode (suc f) frames) h in
    let k = are_rows (active mode.across) f 0 (active mode.down) frame.rows t.0 in
    (record { rows = k.0; count = k.1 }, are_frames mode (suc f) frames t.1)

pub good_mode : (mode : Mode) (frames : List Frame) → raster_fault mode frames ≡ None → IsMode mode
unfolding raster_fault
good_mode mode frames h = is_mode mode ((both_none (bad_mode 0 (numbers_of mode)) (or_else (bad_rows mode 0 frames) (or_else (no_room mode 0 frames) (too_long mode frames))) h).0)

pub good_frames : (mode : Mode) (frames : List Frame) → raster_fault mode frames ≡ None → AreFrames mode frames
unfolding raster_fault
good_frames mode frames h =
    let t = both_none (bad_mode 0 (numbers_of mode)) (or_else (bad_rows mode 0 frames) (or_else (no_room mode 0 frames) (too_long mode frames))) h in
    are_frames mode 0 frames ((both_none (bad_rows mode 0 frames) (or_else (no_room mode 0 frames) (too_long mode frames)) t.1).0)

pub no_bad_mode : (mode : Mode) (frames : List Frame) → raster_fault mode frames ≡ None → bad_mode 0 (numbers_of mode) ≡ None
unfolding raster_fault
no_bad_mode mode frames h = (both_none (bad_mode 0 (numbers_of mode)) (or_else (bad_rows mode 0 frames) (or_else (no_room mode 0 frames) (too_long mode frames))) h).0

pub few_columns : (mode : Mode) (frames : List Frame) → raster_fault mode frames ≡ None → length frames * (total mode.across * total mode.down) + 32 ≤ COLUMN_LIMIT
unfolding raster_fault
few_columns mode frames h = grind (arith, both_none, leb-true)
