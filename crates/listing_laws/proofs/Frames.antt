-- Lines that follow one another: lines of one level, of which eleven columns make the level heard, and lines with rows.
use Rattle.std.proofs.Common.{◌≡◌, ℕ, zero, suc, ◌+◌, ◌-◌, ◌*◌, ◌<◌, ◌≤◌, Bool, true, not, ◌&&◌, cond, List, [], ◌∷◌, ◌++◌, map, length, take, drop, replicate, Some, refl, sym, ap, ap₂, subst, ◌∙◌, append-nil, arith, inl, inr}
use Rattle.std.specs.Prelude.{nat_lt}
use Rattle.std.specs.List.{list_all}
use Rattle.std.proofs.lemmas.Bool.{lt-ltb, le-ltb, cases_lt}
use Rattle.std.proofs.lemmas.List.Folds.{list_all-append}
use Rattle.std.proofs.Common.{eq-eqb}
use Rattle.tmds_word.proofs.Below.{and-right}
use Rattle.tmds_word.specs.Column.{Column}
use Rattle.island_pack.specs.declared.packet.Packet.{Packet}
use Rattle.source_end.specs.declared.mode.Mode.{Mode}
use Rattle.source_end.specs.Raster.{Line, Part, level, room, active, total, until, whole, laid, blank, row_line}
use Rattle.source_end.specs.Gathering.{size}
use Rattle.source_end.proofs.RasterModes.{IsMode, AreRows}
use Rattle.source_end.proofs.RasterSizes.{more_times, long_row, size_rows}
use Rattle.listing_laws.specs.FrameLaws.{row_at, row_end}
use Rattle.listing_writer.specs.Listed.{Listed, listed_rows}
use Rattle.listing_laws.proofs.Machine.{ends}
use Rattle.listing_laws.proofs.Cells.{Cell, State, after, says, after_append, says_append}
use Rattle.listing_laws.proofs.Ready.{flat, Flat, flat_append, Ready, reports_nothing, columns as cells_of, IsTurned, turn, is_heard, fewer_said}
use Rattle.listing_laws.proofs.Parts.{parts_cells}
use Rattle.listing_laws.proofs.Lines.{Even, even_none, even_append, even_until, Begins, begins_more, begins_until, opened}
use Rattle.listing_laws.proofs.Rows.{seen, seen_append, note, bytes_at, row_flat, row_seen}

pub even_blank : (mode : Mode) (v : Bool) (n : ℕ) (ps : List Packet) → Even (level mode.positive v) (laid mode (replicate n (blank v)) ps)
unfolding laid
even_blank mode v zero ps = even_none (level mode.positive v)
even_blank mode v (suc n) ps =
    even_append (level mode.positive v) (until mode (blank v) (take (room mode (blank v)) ps) (total mode.across)) (laid mode (replicate n (blank v)) (drop (room mode (blank v)) ps))
    (even_until mode (blank v) (take (room mode (blank v)) ps) (total mode.across)) (even_blank mode v n (drop (room mode (blank v)) ps))

pub wide : (mode : Mode) → IsMode mode → 11 ≤ total mode.across
wide mode ok = omega (arith, ok.back_columns)

pub begins_blank : (mode : Mode) → IsMode mode → (v : Bool) (n : ℕ) (ps : List Packet) → 1 ≤ n → Begins (level mode.positive v) (laid mode (replicate n (blank v)) ps)
unfolding laid
begins_blank mode ok v zero ps some = absurd (omega arith)
begins_blank mode ok v (suc n) ps some = grind (arith, begins_more, begins_until, wide)

-- Parts of one level after the other.

pub rest_flat : (b : Bool) (xs ys ts : List Cell) → ts ≡ xs ++ ys → Flat b ts → Flat b ys
rest_flat b xs ys ts e h = and-right (list_all (flat b) xs) (list_all (flat b) ys) (sym (list_all-append (flat b) xs ys) ∙ subst (λ (us : List Cell). Flat b us) e h)

-- eleven columns were received: a change
pub seen_turn : (b c : Bool) (g : List ℕ) (ss rs : List Column) (e p : ℕ) (parts : List Part) (s : State) → Begins b parts → Even b parts → p + 11 ≤ e → Ready s (not b) c g
    → IsTurned (seen ss rs e p parts) s b c g
unfolding seen
seen_turn b c g ss rs e p parts s begins even le was =
    let o = opened b parts (e - p) (drop p ss) (drop p rs) begins in
    subst (λ (ts : List Cell). IsTurned ts s b c g) (sym o.are)
    (turn b c g o.levels o.rest s (let l = o.long in omega (arith, l, le)) (rest_flat b (cells_of b o.levels) o.rest (parts_cells (e - p) parts (drop p ss) (drop p rs)) o.are (even (e - p) (drop p ss) (drop p rs))) was)

-- fewer were received: a change where the level is the last one heard, and nothing was received after them
pub seen_few : (b c : Bool) (g : List ℕ) (ss rs : List Column) (e p : ℕ) (parts : List Part) (s : State) → Begins b parts → e < p + 11 → Ready s (not b) c g
    → says (seen ss rs e p parts) s ≡ cond (is_heard b (after (seen ss rs e p parts) s).heard) (ends true c g) []
unfolding seen
seen_few b c g ss rs e p parts s begins lt was =
    let o = opened b parts (e - p) (drop p ss) (drop p rs) begins in
    let is : parts_cells (e - p) parts (drop p ss) (drop p rs) ≡ cells_of b o.levels = o.are ∙ ap (λ (ts : List Cell). cells_of b o.levels ++ ts) (o.none (omega (arith, lt))) ∙ append-nil (cells_of b o.levels) in
    subst (λ (ts : List Cell). says ts s ≡ cond (is_heard b (after ts s).heard) (ends true c g) []) (sym is) (fewer_said b c g o.levels s was)

-- Rows.

laid_nothing : (mode : Mode) (ps : List Packet) → laid mode [] ps ≡ []
unfolding laid
laid_nothing mode ps = refl

pub laid_more : (mode : Mode) (line : Line) (lines : List Line) (ps : List Packet) → laid mode (line ∷ lines) ps ≡ whole mode line (take (room mode line) ps) line.row ++ laid mode lines (drop (room mode line) ps)
unfolding laid
laid_more mode line lines ps = refl

size_row : (mode : Mode) → IsMode mode → (row : List ℕ) → length row ≡ 3 * active mode.across → (ps : List Packet) → size (whole mode (row_line row) (take (room mode (row_line row)) ps) (Some row)) ≡ total mode.across
size_row mode ok row long ps =
    let here = whole mode (row_line row) (take (room mode (row_line row)) ps) (Some row) in
    let one : AreRows (active mode.across) (row ∷ []) = ap (λ (t : Bool). t && true) (eq-eqb (length row) (3 * active mode.across) long) in
    let e = ap size (laid_more mode (row_line row) [] ps ∙ ap (λ (ps : List Part). here ++ ps) (laid_nothing mode (drop (room mode (row_line row)) ps)) ∙ append-nil here) in
    sym e ∙ size_rows mode ok (row ∷ []) one ps ∙ sym (more_times 0 (total mode.across)) ∙ omega arith

abbrev pub row_lines_of : List (List ℕ) → List Line
row_lines_of rows = map row_line rows

-- the rows that were received, of a frame whose next row is row y in the line at column p
unfoldable pub rows_listed : Mode → Bool → List Column → List Column → ℕ → ℕ → ℕ → List (List ℕ) → List Listed
rows_listed mode c ss rs e p y [] = []
rows_listed mode c ss rs e p y (row ∷ rows) =
    cond (nat_lt (p + row_end mode) e) (listed_rows (bytes_at ss rs (p + row_at mode) row) (note c y)) []
    ++ rows_listed mode c ss rs e (p + total mode.across) (suc y) rows

pub none_listed : (mode : Mode) (c : Bool) (ss rs : List Column) (e p y : ℕ) (rows : List (List ℕ)) → e ≤ p + row_end mode → rows_listed mode c ss rs e p y rows ≡ []
unfolding rows_listed
none_listed mode c ss rs e p y [] le = refl
none_listed mode c ss rs e p y (row ∷ rows) le =
    ap₂ (λ (t : Bool) (xs : List Listed). cond t (listed_rows (bytes_at ss rs (p + row_at mode) row) (note c y)) [] ++ xs) (le-ltb (p + row_end mode) e le)
    (none_listed mode c ss rs e (p + total mode.across) (suc y) rows (omega arith))

seen_laid : (mode : Mode) (line : Line) (lines : List Line) (ps : List Packet) (ss rs : List Column) (e p q : ℕ) → p + size (whole mode line (take (room mode line) ps) line.row) ≡ q
    → seen ss rs e p (laid mode (line ∷ lines) ps)
    ≡ seen ss rs e p (whole mode line (take (room mode line) ps) line.row) ++ seen ss rs e q (laid mode lines (drop (room mode line) ps))
seen_laid mode line lines ps ss rs e p q place = grind (arith, seen, laid_more, seen_append)

seen_none : (mode : Mode) (ps : List Packet) (ss rs : List Column) (e p : ℕ) → seen ss rs e p (laid mode [] ps) ≡ []
unfolding seen laid parts_cells
seen_none mode ps ss rs e p = refl

-- no row was received
rows_flat : (mode : Mode) → IsMode mode → (rows : List (List ℕ)) → AreRows (active mode.across) rows → (ps : List Packet) (ss rs : List Column) (e p : ℕ)
    → e ≤ p + row_end mode → Flat (not mode.positive) (seen ss rs e p (laid mode (row_lines_of rows) ps))
rows_flat mode ok [] are ps ss rs e p le = subst (λ (ts : List Cell). Flat (not mode.positive) ts) (sym (seen_none mode ps ss rs e p)) refl
rows_flat mode ok (row ∷ rows) are ps ss rs e p le =
    let long = long_row (active mode.across) row rows are in
    let n = size_row mode ok row long ps in
    let here = whole mode (row_line row) (take (room mode (row_line row)) ps) (Some row) in
    subst (λ (ts : List Cell). Flat (not mode.positive) ts) (sym (seen_laid mode (row_line row) (row_lines_of rows) ps ss rs e p (p + size here) refl))
    (flat_append (not mode.positive) (seen ss rs e p here) _ (row_flat mode ok row long ps ss rs e p le)
    (rows_flat mode ok rows (and-right _ _ are) (drop (room mode (row_line row)) ps) ss rs e (p + size here) (omega (arith, n, le))))

pub record IsRows (ts : List Cell) (s : State) (b c : Bool) (lines : List Listed) (g : List ℕ) (whole : Type 0) : Type 0 where
  pub listed : says ts s ≡ lines
  pub group_after : List ℕ
  pub ready : Ready (after ts s) b c group_after
  pub grown : whole → group_after ≡ g

listed_none : (mode : Mode) (c : Bool) (ss rs : List Column) (e p y : ℕ) → rows_listed mode c ss rs e p y [] ≡ []
unfolding rows_listed
listed_none mode c ss rs e p y = refl

listed_row : (mode : Mode) (c : Bool) (ss rs : List Column) (e p y : ℕ) (row : List ℕ) (rows : List (List ℕ)) → p + row_end mode < e
    → rows_listed mode c ss rs e p y (row ∷ rows) ≡ listed_rows (bytes_at ss rs (p + row_at mode) row) (note c y) ++ rows_listed mode c ss rs e (p + total mode.across) (suc y) rows
unfolding rows_listed
listed_row mode c ss rs e p y row rows lt =
    ap (λ (t : Bool). cond t (listed_rows (bytes_at ss rs (p + row_at mode) row) (note c y)) [] ++ rows_listed mode c ss rs e (p + total mode.across) (suc y) rows) (lt-ltb (p + row_end mode) e lt)

-- the next row was received, and what is said of those after it
row_more : (mode : Mode) → IsMode mode → (row : List ℕ) (rows : List (List ℕ)) → length row ≡ 3 * active mode.across → (ps : List Packet) (ss rs : List Column) (e p : ℕ)
    → e ≤ length ss → e ≤ length rs → (s : State) (c : Bool) (y : ℕ) → y ≤ 4096 → Ready s (not mode.positive) c (replicate y (active mode.across)) → p + row_end mode < e
    → ((t : State) → Ready t (not mode.positive) c (replicate (suc y) (active mode.across))
    → IsRows (seen ss rs e (p + total mode.across) (laid mode (row_lines_of rows) (drop (room mode (row_line row)) ps))) t (not mode.positive) c (rows_listed mode c ss rs e (p + total mode.across) (suc y) rows) (replicate (suc y + length rows) (active mode.across)) (p + total mode.across + length rows * total mode.across ≤ e))
    → IsRows (seen ss rs e p (laid mode (row_lines_of (row ∷ rows)) ps)) s (not mode.positive) c (rows_listed mode c ss rs e p y (row ∷ rows)) (replicate (y + length (row ∷ rows)) (active mode.across)) (p + length (row ∷ rows) * total mode.across ≤ e)
row_more mode ok row rows long ps ss rs e p ends_sent ends_received s c y few was lt later =
    let b = not mode.positive in
    let here = whole mode (row_line row) (take (room mode (row_line row)) ps) (Some row) in
    let n = size_row mode ok row long ps in
    let q : p + size here ≡ p + total mode.across = omega (arith, n) in
    let split = seen_laid mode (row_line row) (row_lines_of rows) ps ss rs e p (p + total mode.across) q in
    let first = seen ss rs e p here in
    let r = row_seen mode ok row long ps ss rs e p lt ends_sent ends_received s c y few was in
    let k = later (after first s) r.ready in
    grind (arith, seen, more_times, Cell, says, says_append, listed_row, State, Ready, after, after_append)

-- the next row was not received, and so none after it
row_none : (mode : Mode) → IsMode mode → (row : List ℕ) (rows : List (List ℕ)) → AreRows (active mode.across) (row ∷ rows) → (ps : List Packet) (ss rs : List Column) (e p : ℕ)
    → (s : State) (c : Bool) (y : ℕ) → Ready s (not mode.positive) c (replicate y (active mode.across)) → e ≤ p + row_end mode
    → IsRows (seen ss rs e p (laid mode (row_lines_of (row ∷ rows)) ps)) s (not mode.positive) c (rows_listed mode c ss rs e p y (row ∷ rows)) (replicate (y + length (row ∷ rows)) (active mode.across)) (p + length (row ∷ rows) * total mode.across ≤ e)
row_none mode ok row rows are ps ss rs e p s c y was le =
    let k = reports_nothing (not mode.positive) c (replicate y (active mode.across)) (seen ss rs e p (laid mode (row_lines_of (row ∷ rows)) ps)) s (rows_flat mode ok (row ∷ rows) are ps ss rs e p le) was in
    grind (arith, more_times, none_listed)

pub rows_say : (mode : Mode) → IsMode mode → (rows : List (List ℕ)) → AreRows (active mode.across) rows → (ps : List Packet) (ss rs : List Column) (e p : ℕ)
    → e ≤ length ss → e ≤ length rs → (s : State) (c : Bool) (y : ℕ) → y + length rows ≤ 4096 → Ready s (not mode.positive) c (replicate y (active mode.across))
    → IsRows (seen ss rs e p (laid mode (row_lines_of rows) ps)) s (not mode.positive) c (rows_listed mode c ss rs e p y rows) (replicate (y + length rows) (active mode.across)) (p + length rows * total mode.across ≤ e)
unfolding says after
rows_say mode ok [] are ps ss rs e p ends_sent ends_received s c y few was = grind (arith, seen_none, Cell, says, listed_none, State, Ready, after)
rows_say mode ok (row ∷ rows) are ps ss rs e p ends_sent ends_received s c y few was =
    elim (cases_lt (p + row_end mode) e) [
      | inl lt ↦ row_more mode ok row rows (long_row (active mode.across) row rows are) ps ss rs e p ends_sent ends_received s c y (omega (arith, few)) was lt
          (λ t now. rows_say mode ok rows (and-right _ _ are) (drop (room mode (row_line row)) ps) ss rs e (p + total mode.across) ends_sent ends_received t c (suc y) (omega (arith, few)) now)
      | inr le ↦ row_none mode ok row rows are ps ss rs e p s c y was le
    ]
