-- The rows of a frame: each that was received, with the column after it, is listed if the group counts; and what VSYNC
-- sees of it is a gap.
use Rattle.std.proofs.Common.{◌≡◌, ℕ, zero, suc, ◌+◌, ◌-◌, ◌*◌, ◌/◌, ◌<◌, ◌≤◌, Bool, false, not, ◌&&◌, List, [], ◌∷◌, ◌++◌, length, take, drop, replicate, Some, refl, sym, ap, subst, ◌∙◌, append-nil, arith}
use Rattle.std.proofs.lemmas.Bool.{lt-ltb, le-ltb}
use Rattle.std.proofs.lemmas.List.{drop-drop, drop-take, length-take, length-drop, length-replicate}
use Rattle.tmds_word.specs.Column.{Column}
use Rattle.island_pack.specs.Periods.{Pixel, pixels_of}
use Rattle.island_pack.specs.declared.packet.Packet.{Packet}
use Rattle.frame_build.specs.Group.{is_unlike}
use Rattle.frame_build.specs.declared.LineNote.{LineNote}
use Rattle.link_laws.specs.Account.{pixel_bytes}
use Rattle.source_end.specs.declared.mode.Mode.{Mode}
use Rattle.source_end.specs.Raster.{Part, pixels, columns, sync_at, guard_at, room, sync, back, active, total, until, whole, row_line}
use Rattle.source_end.specs.Gathering.{size}
use Rattle.source_end.proofs.RasterModes.{IsMode}
use Rattle.source_end.proofs.RasterSizes.{size_until, row_fits}
use Rattle.listing_laws.specs.FrameLaws.{row_at, row_end}
use Rattle.listing_writer.specs.Listed.{listed_rows}
use Rattle.listing_laws.proofs.Cells.{Cell, pixels as pixels_cell, parted, State, note_of, step, after, says, after_append, says_append}
use Rattle.listing_laws.proofs.Ready.{Flat, flat_append, Ready, reports_nothing, clear_trail, gap_clear}
use Rattle.listing_laws.proofs.Parts.{row_cells, part_cells, parts_cells, parts_append}
use Rattle.listing_laws.proofs.Lines.{Even, even_until, even_columns, sync_vsync}

-- what is seen of parts whose first column is column p, of received columns up to column e
unfoldable pub seen : List Column → List Column → ℕ → ℕ → List Part → List Cell
seen ss rs e p parts = parts_cells (e - p) parts (drop p ss) (drop p rs)

pub seen_append : (ss rs : List Column) (e p : ℕ) (xs ys : List Part) → seen ss rs e p (xs ++ ys) ≡ seen ss rs e p xs ++ seen ss rs e (p + size xs) ys
unfolding seen
seen_append ss rs e p xs ys = grind (arith, parts_append, Cell, parts_cells, drop-drop)

pub seen_even : (b : Bool) (ss rs : List Column) (e p : ℕ) (parts : List Part) → Even b parts → Flat b (seen ss rs e p parts)
unfolding seen
seen_even b ss rs e p parts h = h (e - p) (drop p ss) (drop p rs)

-- The pixels of a row.

pub pixels_length : (n : ℕ) (bytes : List ℕ) → length bytes ≡ 3 * n → length (pixels_of bytes) ≡ n
unfolding pixels_of
pixels_length zero [] e = refl
pixels_length zero (x ∷ bytes) e = absurd (omega (arith, e))
pixels_length (suc n) [] e = absurd (omega (arith, e))
pixels_length (suc n) (x ∷ []) e = absurd (omega (arith, e))
pixels_length (suc n) (x ∷ (y ∷ [])) e = absurd (omega (arith, e))
pixels_length (suc n) (x ∷ (y ∷ (z ∷ bytes))) e = ap (λ k. suc k) (pixels_length n bytes (omega (arith, e)))

bytes_length : (ps : List Pixel) (ss rs : List Column) → length ss ≡ length ps → length rs ≡ length ps → length (pixel_bytes ps ss rs) ≡ 3 * length ps
unfolding pixel_bytes
bytes_length [] ss rs d e = refl
bytes_length (p ∷ ps) [] rs d e = absurd (omega (arith, d))
bytes_length (p ∷ ps) (s ∷ ss) [] d e = absurd (omega (arith, e))
bytes_length (p ∷ ps) (s ∷ ss) (r ∷ rs) d e = let h = bytes_length ps ss rs (omega (arith, d)) (omega (arith, e)) in omega (arith, h)

pub row_cut : (b : Bool) (m : ℕ) (ps : List Pixel) (ss rs : List Column) → m ≤ 2 + length ps → Flat b (row_cells m ps ss rs)
row_cut b m ps ss rs h = grind (arith, le-ltb, Flat, pixels_cell, parted)

whole_row : (ps : List Pixel) (ss rs : List Column) (m : ℕ) → 2 + length ps < m → row_cells m ps ss rs ≡ pixels_cell (pixel_bytes ps (drop 2 ss) (drop 2 rs)) ∷ []
whole_row ps ss rs m h = grind (arith, pixels_cell, parted, lt-ltb)

-- what is said of row y of a frame
abbrev pub note : Bool → ℕ → LineNote
note c y = record { counts = c; ragged = false; row = y }

like_first : (c : Bool) (y n : ℕ) → (c && is_unlike (replicate y n) n) ≡ false
like_first c y n = grind arith

replicate_snoc : (y n : ℕ) → replicate y n ++ n ∷ [] ≡ replicate (suc y) n
replicate_snoc zero n = refl
replicate_snoc (suc y) n = ap (λ (xs : List ℕ). n ∷ xs) (replicate_snoc y n)

pub record IsRow (ts : List Cell) (s : State) (b c : Bool) (bytes : List ℕ) (y n : ℕ) : Type 0 where
  pub listed : says ts s ≡ listed_rows bytes (note c y)
  pub ready : Ready (after ts s) b c (replicate (suc y) n)

pub row_ready : (s : State) (b c : Bool) (g : List ℕ) (bytes : List ℕ) → Ready s b c g → Ready (step (pixels_cell bytes) s) b c (g ++ (length bytes / 3) ∷ [])
row_ready s b c g bytes was = record { heard = was.heard; trail = clear_trail b _ [] (gap_clear (not b) s.marks); counting = was.counting; group = ap (λ (xs : List ℕ). xs ++ (length bytes / 3) ∷ []) was.group }

pixels_row : (s : State) (b c : Bool) (y n : ℕ) (bytes : List ℕ) → Ready s b c (replicate y n) → y ≤ 4096 → length bytes / 3 ≡ n → IsRow (pixels_cell bytes ∷ []) s b c bytes y n
unfolding says after
pixels_row s b c y n bytes was few e = grind (arith, row_ready, append-nil, note_of, Ready, step, pixels_cell, replicate_snoc, length-replicate, like_first)

pub row_reported : (s : State) (b c : Bool) (y m : ℕ) (ps : List Pixel) (ss rs : List Column) → Ready s b c (replicate y (length ps)) → y ≤ 4096 → 2 + length ps < m
    → length (drop 2 ss) ≡ length ps → length (drop 2 rs) ≡ length ps → IsRow (row_cells m ps ss rs) s b c (pixel_bytes ps (drop 2 ss) (drop 2 rs)) y (length ps)
row_reported s b c y m ps ss rs was few lt d e =
    let l = bytes_length ps (drop 2 ss) (drop 2 rs) d e in
    let w : length (pixel_bytes ps (drop 2 ss) (drop 2 rs)) / 3 ≡ length ps = omega (arith, l) in
    subst (λ (ts : List Cell). IsRow ts s b c (pixel_bytes ps (drop 2 ss) (drop 2 rs)) y (length ps)) (sym (whole_row ps ss rs m lt))
    (pixels_row s b c y (length ps) (pixel_bytes ps (drop 2 ss) (drop 2 rs)) was few w)

-- A line with a row.

-- the bytes that were received of a row whose first pixel is column x
abbrev pub bytes_at : List Column → List Column → ℕ → List ℕ → List ℕ
bytes_at ss rs x bytes = pixel_bytes (pixels_of bytes) (take (length bytes / 3) (drop x ss)) (take (length bytes / 3) (drop x rs))

abbrev tail_of : Mode → List ℕ → List Part
tail_of mode bytes = columns (λ x. sync_at mode (row_line bytes) x) (sync mode.across + back mode.across + active mode.across) (total mode.across)

seen_pixels : (ss rs : List Column) (e p : ℕ) (bytes : List ℕ) (parts : List Part) → seen ss rs e p (pixels bytes ∷ parts)
    ≡ row_cells (e - p) (pixels_of bytes) (take (2 + length bytes / 3) (drop p ss)) (take (2 + length bytes / 3) (drop p rs))
    ++ parts_cells ((e - p) - (2 + length bytes / 3)) parts (drop (2 + length bytes / 3) (drop p ss)) (drop (2 + length bytes / 3) (drop p rs))
unfolding seen parts_cells part_cells
seen_pixels ss rs e p bytes parts = refl

-- whether it was not received whole, with the column after it: it is no row for frames
pub row_flat : (mode : Mode) → IsMode mode → (bytes : List ℕ) → length bytes ≡ 3 * active mode.across → (ps : List Packet) (ss rs : List Column) (e p : ℕ)
    → e ≤ p + row_end mode → Flat (not mode.positive) (seen ss rs e p (whole mode (row_line bytes) (take (room mode (row_line bytes)) ps) (Some bytes)))
row_flat mode ok bytes long ps ss rs e p le =
    let b = not mode.positive in
    let line = row_line bytes in
    let qs = take (room mode line) ps in
    let first = until mode line qs (guard_at mode) in
    let n = size_until mode line qs (guard_at mode) (row_fits mode ps) in
    let k = pixels_length (active mode.across) bytes long in
    let at = p + size first in
    let m : e - at ≤ 2 + length (pixels_of bytes) = omega (arith, le, n, k, ok.back_columns) in
    let sent = take (2 + length bytes / 3) (drop at ss) in
    let received = take (2 + length bytes / 3) (drop at rs) in
    let video = row_cells (e - at) (pixels_of bytes) sent received in
    let m2 = (e - at) - (2 + length bytes / 3) in
    let ss2 = drop (2 + length bytes / 3) (drop at ss) in
    let rs2 = drop (2 + length bytes / 3) (drop at rs) in
    let t = parts_cells m2 (tail_of mode bytes) ss2 rs2 in
    subst (λ (ts : List Cell). Flat b ts) (sym (seen_append ss rs e p first (pixels bytes ∷ tail_of mode bytes)))
    (flat_append b (seen ss rs e p first) (seen ss rs e at (pixels bytes ∷ tail_of mode bytes)) (seen_even b ss rs e p first (even_until mode line qs (guard_at mode)))
    (subst (λ (ts : List Cell). Flat b ts) (sym (seen_pixels ss rs e at bytes (tail_of mode bytes)))
    (flat_append b video t (row_cut b (e - at) (pixels_of bytes) sent received m)
    (even_columns b (λ x. sync_at mode line x) (sync mode.across + back mode.across + active mode.across) (total mode.across) (sync_vsync mode line) m2 ss2 rs2))))

-- where it was received, it is listed if the group counts
pub row_seen : (mode : Mode) → IsMode mode → (bytes : List ℕ) → length bytes ≡ 3 * active mode.across → (ps : List Packet) (ss rs : List Column) (e p : ℕ)
    → p + row_end mode < e → e ≤ length ss → e ≤ length rs → (s : State) (c : Bool) (y : ℕ) → y ≤ 4096 → Ready s (not mode.positive) c (replicate y (active mode.across))
    → IsRow (seen ss rs e p (whole mode (row_line bytes) (take (room mode (row_line bytes)) ps) (Some bytes))) s (not mode.positive) c (bytes_at ss rs (p + row_at mode) bytes) y (active mode.across)
row_seen mode ok bytes long ps ss rs e p lt ends_sent ends_received s c y few was =
    let b = not mode.positive in
    let line = row_line bytes in
    let w = active mode.across in
    let qs = take (room mode line) ps in
    let first = until mode line qs (guard_at mode) in
    let n = size_until mode line qs (guard_at mode) (row_fits mode ps) in
    let k = pixels_length w bytes long in
    let l : length bytes / 3 ≡ w = omega (arith, long) in
    let at = p + size first in
    let place : at + 2 ≡ p + row_at mode = omega (arith, n, ok.back_columns) in
    let m : 2 + length (pixels_of bytes) < e - at = omega (arith, lt, n, k, ok.back_columns) in
    let sent : drop 2 (take (2 + length bytes / 3) (drop at ss)) ≡ take (length bytes / 3) (drop (p + row_at mode) ss) =
    drop-take 2 (length bytes / 3) (drop at ss) ∙ ap (λ (cs : List Column). take (length bytes / 3) cs) (drop-drop 2 at ss ∙ ap (λ (i : ℕ). drop i ss) place) in
    let received : drop 2 (take (2 + length bytes / 3) (drop at rs)) ≡ take (length bytes / 3) (drop (p + row_at mode) rs) =
    drop-take 2 (length bytes / 3) (drop at rs) ∙ ap (λ (cs : List Column). take (length bytes / 3) cs) (drop-drop 2 at rs ∙ ap (λ (i : ℕ). drop i rs) place) in
    let d : length (drop 2 (take (2 + length bytes / 3) (drop at ss))) ≡ length (pixels_of bytes) =
    ap length sent ∙ (let x = length-take (length bytes / 3) (drop (p + row_at mode) ss) in let z = length-drop (p + row_at mode) ss in omega (arith, x, z, k, l, lt, ends_sent)) in
    let g : length (drop 2 (take (2 + length bytes / 3) (drop at rs))) ≡ length (pixels_of bytes) =
    ap length received ∙ (let x = length-take (length bytes / 3) (drop (p + row_at mode) rs) in let z = length-drop (p + row_at mode) rs in omega (arith, x, z, k, l, lt, ends_received)) in
    let q = reports_nothing b c (replicate y w) (seen ss rs e p first) s (seen_even b ss rs e p first (even_until mode line qs (guard_at mode))) was in
    let here = after (seen ss rs e p first) s in
    let r = row_reported here b c y (e - at) (pixels_of bytes) (take (2 + length bytes / 3) (drop at ss)) (take (2 + length bytes / 3) (drop at rs))
    (subst (λ (i : ℕ). Ready here b c (replicate y i)) (sym k) q.ready) few m d g in
    let video = row_cells (e - at) (pixels_of bytes) (take (2 + length bytes / 3) (drop at ss)) (take (2 + length bytes / 3) (drop at rs)) in
    let t = parts_cells ((e - at) - (2 + length bytes / 3)) (tail_of mode bytes) (drop (2 + length bytes / 3) (drop at ss)) (drop (2 + length bytes / 3) (drop at rs)) in
    let u = reports_nothing b c (replicate (suc y) w) t (after video here)
    (even_columns b (λ x. sync_at mode line x) (sync mode.across + back mode.across + active mode.across) (total mode.across) (sync_vsync mode line) ((e - at) - (2 + length bytes / 3)) (drop (2 + length bytes / 3) (drop at ss)) (drop (2 + length bytes / 3) (drop at rs)))
    (subst (λ (i : ℕ). Ready (after video here) b c (replicate (suc y) i)) k r.ready) in
    let all : seen ss rs e p (first ++ (pixels bytes ∷ tail_of mode bytes)) ≡ seen ss rs e p first ++ (video ++ t) =
    seen_append ss rs e p first (pixels bytes ∷ tail_of mode bytes) ∙ ap (λ (ts : List Cell). seen ss rs e p first ++ ts) (seen_pixels ss rs e at bytes (tail_of mode bytes)) in
    record {
      listed = grind (arith, Cell, says, says_append, append-nil);
      ready = subst (λ (x : State). Ready x b c (replicate (suc y) w)) (sym (ap (λ (ts : List Cell). after ts s) all ∙ after_append (seen ss rs e p first) (video ++ t) s ∙ after_append video t here)) u.ready;
    }
