-- What is seen of the parts of a raster, part by part.
use Rattle.std.proofs.Common.{◌≡◌, ℕ, zero, suc, ◌+◌, ◌-◌, cond, List, [], ◌∷◌, ◌++◌, length, take, drop, refl, append_assoc, arith}
use Rattle.std.specs.Prelude.{nat_lt}
use Rattle.std.proofs.lemmas.List.{drop-drop}
use Rattle.tmds_word.specs.Column.{Column}
use Rattle.island_pack.specs.Periods.{Pixel, pixels_of}
use Rattle.island_pack.specs.Sparse.{column_at}
use Rattle.period_grammar.specs.Column.{value_of}
use Rattle.frame_build.specs.FrameEvent.{vsync_of}
use Rattle.link_laws.specs.Account.{pixel_bytes}
use Rattle.source_end.specs.Raster.{Part, column, pixels, packets}
use Rattle.source_end.specs.Gathering.{part_size, size}
use Rattle.listing_laws.proofs.Cells.{Cell, control, pixels as pixels_cell, parted}

-- a control column that was sent with a value, where a column was received
abbrev pub reception : ℕ → ℕ → List Column → List Cell
reception zero v rs = []
reception (suc m) v rs = control (vsync_of v) (vsync_of (value_of (column_at rs 0))) ∷ []

-- a row, of which m columns were received; where it was not received whole, with the column after it, it is a gap
abbrev pub row_cells : ℕ → List Pixel → List Column → List Column → List Cell
row_cells zero ps ss rs = []
row_cells (suc zero) ps ss rs = parted ∷ []
row_cells (suc (suc i)) ps ss rs = cond (nat_lt (length ps) i) (pixels_cell (pixel_bytes ps (drop 2 ss) (drop 2 rs)) ∷ []) (parted ∷ [])

-- a data island is a gap
abbrev pub gap_cells : ℕ → List Cell
gap_cells zero = []
gap_cells (suc m) = parted ∷ []

unfoldable pub part_cells : ℕ → Part → List Column → List Column → List Cell
part_cells m (column v) ss rs = reception m v rs
part_cells m (pixels bytes) ss rs = row_cells m (pixels_of bytes) ss rs
part_cells m (packets x) ss rs = gap_cells m

-- what is seen of parts of which m columns were received
unfoldable pub parts_cells : ℕ → List Part → List Column → List Column → List Cell
parts_cells m [] ss rs = []
parts_cells m (p ∷ ps) ss rs = part_cells m p (take (part_size p) ss) (take (part_size p) rs) ++ parts_cells (m - part_size p) ps (drop (part_size p) ss) (drop (part_size p) rs)

pub parts_append : (xs ys : List Part) (m : ℕ) (ss rs : List Column) → parts_cells m (xs ++ ys) ss rs ≡ parts_cells m xs ss rs ++ parts_cells (m - size xs) ys (drop (size xs) ss) (drop (size xs) rs)
unfolding parts_cells size
parts_append [] ys m ss rs = grind arith
parts_append (x ∷ xs) ys m ss rs = grind (arith, Cell, drop-drop, append_assoc, parts_append xs ys)

part_none : (p : Part) (ss rs : List Column) → part_cells 0 p ss rs ≡ []
unfolding part_cells
part_none p ss rs = grind arith

pub parts_none : (ps : List Part) (ss rs : List Column) → parts_cells 0 ps ss rs ≡ []
unfolding parts_cells
parts_none [] ss rs = refl
parts_none (p ∷ ps) ss rs = grind (arith, Cell, part_none, parts_none ps)
