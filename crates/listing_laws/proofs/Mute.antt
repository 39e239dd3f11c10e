-- Before the first change of VSYNC no row and no frame is listed: what is reported of parts of one level, rows among them.
use Rattle.std.proofs.Common.{arith, ◌≡◌, ℕ, zero, suc, ◌+◌, ◌-◌, ◌/◌, Bool, false, cond, List, [], ◌∷◌, ◌++◌, length, take, drop, Option, Some, None, refl, sym, subst, append-nil}
use Rattle.std.specs.Prelude.{nat_lt}
use Rattle.tmds_word.specs.Column.{Column}
use Rattle.island_pack.specs.Periods.{Pixel, pixels_of}
use Rattle.island_pack.specs.declared.packet.Packet.{Packet}
use Rattle.link_laws.specs.Account.{pixel_bytes}
use Rattle.source_end.specs.declared.mode.Mode.{Mode}
use Rattle.source_end.specs.Raster.{Line, Part, pixels, columns, sync_at, guard_at, sync, back, active, total, until, whole}
use Rattle.source_end.specs.Gathering.{size}
use Rattle.listing_writer.specs.Listed.{row}
use Rattle.listing_laws.proofs.Cells.{Cell, pixels as pixels_cell, parted, State, note_of, after, says, after_append, says_append}
use Rattle.listing_laws.proofs.Ready.{Flat, Ready, reports_nothing}
use Rattle.listing_laws.proofs.Parts.{row_cells, part_cells, parts_cells, parts_append}
use Rattle.listing_laws.proofs.Lines.{Even, even_until, even_columns, sync_vsync, level_of}
use Rattle.listing_laws.proofs.Rows.{row_ready}

pub record IsMuted (ts : List Cell) (s : State) (b : Bool) : Type 0 where
  pub nothing : says ts s ≡ []
  pub group : List ℕ
  pub ready : Ready (after ts s) b false group

abbrev pub Mute : Bool → List Part → Type 0
Mute b parts = (m : ℕ) (ss rs : List Column) (s : State) (g : List ℕ) → Ready s b false g → IsMuted (parts_cells m parts ss rs) s b

muted_append : (b : Bool) (xs ys : List Cell) (s : State) (h : IsMuted xs s b) → IsMuted ys (after xs s) b → IsMuted (xs ++ ys) s b
muted_append b xs ys s h k = grind (arith, says_append, State, Ready, after_append)

pub mute_append : (b : Bool) (xs ys : List Part) → Mute b xs → Mute b ys → Mute b (xs ++ ys)
mute_append b xs ys h k m ss rs s g was =
    let first = parts_cells m xs ss rs in
    let second = parts_cells (m - size xs) ys (drop (size xs) ss) (drop (size xs) rs) in
    let p = h m ss rs s g was in
    let q = k (m - size xs) (drop (size xs) ss) (drop (size xs) rs) (after first s) p.group p.ready in
    subst (λ (ts : List Cell). IsMuted ts s b) (sym (parts_append xs ys m ss rs)) (muted_append b first second s p q)

pub mute_even : (b : Bool) (parts : List Part) → Even b parts → Mute b parts
mute_even b parts h m ss rs s g was = let k = reports_nothing b false g (parts_cells m parts ss rs) s (h m ss rs) was in record { nothing = k.nothing; group = g; ready = k.ready }

flat_muted : (b : Bool) (ts : List Cell) (s : State) (g : List ℕ) → Flat b ts → Ready s b false g → IsMuted ts s b
flat_muted b ts s g h was = let k = reports_nothing b false g ts s h was in record { nothing = k.nothing; group = g; ready = k.ready }

cells_muted : (b t : Bool) (ps : List Pixel) (ss rs : List Column) (s : State) (g : List ℕ) → Ready s b false g → IsMuted (cond t (pixels_cell (pixel_bytes ps ss rs) ∷ []) (parted ∷ [])) s b
unfolding says after
cells_muted b t ps ss rs s g h = grind (arith, append-nil, note_of, row_ready, flat_muted, parted)

reported_muted : (b : Bool) (m : ℕ) (ps : List Pixel) (ss rs : List Column) (s : State) (g : List ℕ) → Ready s b false g → IsMuted (row_cells m ps ss rs) s b
reported_muted b zero ps ss rs s g was = flat_muted b [] s g refl was
reported_muted b (suc zero) ps ss rs s g was = flat_muted b (parted ∷ []) s g refl was
reported_muted b (suc (suc i)) ps ss rs s g was = cells_muted b (nat_lt (length ps) i) ps (drop 2 ss) (drop 2 rs) s g was

pub mute_pixels : (b : Bool) (bytes : List ℕ) (parts : List Part) → Mute b parts → Mute b (pixels bytes ∷ parts)
unfolding parts_cells part_cells
mute_pixels b bytes parts h m ss rs s g was =
    let n = 2 + length bytes / 3 in
    let first = row_cells m (pixels_of bytes) (take n ss) (take n rs) in
    let p = reported_muted b m (pixels_of bytes) (take n ss) (take n rs) s g was in
    muted_append b first (parts_cells (m - n) parts (drop n ss) (drop n rs)) s p (h (m - n) (drop n ss) (drop n rs) (after first s) p.group p.ready)

pub mute_whole : (mode : Mode) (line : Line) (ps : List Packet) (row : Option (List ℕ)) → Mute (level_of mode line) (whole mode line ps row)
mute_whole mode line ps None = mute_even (level_of mode line) (until mode line ps (total mode.across)) (even_until mode line ps (total mode.across))
mute_whole mode line ps (Some bytes) =
    mute_append (level_of mode line) (until mode line ps (guard_at mode)) _ (mute_even (level_of mode line) (until mode line ps (guard_at mode)) (even_until mode line ps (guard_at mode)))
    (mute_pixels (level_of mode line) bytes _ (mute_even (level_of mode line) (columns (λ x. sync_at mode line x) (sync mode.across + back mode.across + active mode.across) (total mode.across))
    (even_columns (level_of mode line) (λ x. sync_at mode line x) (sync mode.across + back mode.across + active mode.across) (total mode.across) (sync_vsync mode line))))
