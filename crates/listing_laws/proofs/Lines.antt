-- A line of a raster: every column of it has the line's VSYNC level, and it begins with eleven control columns.
use Rattle.std.proofs.Common.{◌≡◌, ℕ, zero, suc, ◌+◌, ◌-◌, ◌*◌, ◌≤◌, Bool, true, false, ◌&&◌, cond, min, List, [], ◌∷◌, ◌++◌, map, length, take, drop, replicate, refl, sym, ap, ap₂, subst, ◌∙◌, append_assoc, arith}
use Rattle.std.specs.Prelude.{nat_lt}
use Rattle.std.specs.List.{list_all}
use Rattle.tmds_word.proofs.Below.{and-left, and-right}
use Rattle.tmds_word.specs.Column.{Column}
use Rattle.terc4.specs.Columns.{one_if}
use Rattle.island_pack.specs.Periods.{DataIsland}
use Rattle.island_pack.specs.Sparse.{column_at}
use Rattle.island_pack.specs.declared.packet.Packet.{Packet}
use Rattle.period_grammar.specs.Column.{value_of}
use Rattle.frame_build.specs.FrameEvent.{vsync_of}
use Rattle.source_end.specs.declared.mode.Mode.{Mode}
use Rattle.source_end.specs.Raster.{Line, Part, column, packets, up_from, columns, level, sync_at, value_at, has_row, guard_at, is_within, sync, island_of, until}
use Rattle.source_end.specs.Gathering.{size}
use Rattle.listing_laws.proofs.Cells.{Cell, control, same, same_is, same_self}
use Rattle.listing_laws.proofs.Ready.{Flat, flat_append, columns as cells_of}
use Rattle.listing_laws.proofs.Parts.{reception, gap_cells, part_cells, parts_cells, parts_append, parts_none}

-- VSYNC of a line's control columns.

sum_vsync : (h v t u : Bool) → vsync_of (one_if h + 2 * one_if v + cond t 4 (cond u 20 0)) ≡ v
unfolding one_if
sum_vsync h v t u = grind arith

plain_vsync : (h v : Bool) → vsync_of (one_if h + 2 * one_if v) ≡ v
unfolding one_if
plain_vsync h v = grind arith

pub final_vsync : (v : Bool) → vsync_of (3 * one_if v) ≡ v
unfolding one_if
final_vsync v = grind arith

abbrev pub level_of : Mode → Line → Bool
level_of mode line = level mode.positive line.vsync

pub value_vsync : (mode : Mode) (line : Line) (has : Bool) (x : ℕ) → vsync_of (value_at mode line has x) ≡ level_of mode line
value_vsync mode line has x =
    sum_vsync (level mode.positive (nat_lt x (sync mode.across))) (level_of mode line) (has_row line && is_within x (guard_at mode - 8) (guard_at mode)) (has && is_within x 4 12)

pub sync_vsync : (mode : Mode) (line : Line) (x : ℕ) → vsync_of (sync_at mode line x) ≡ level_of mode line
sync_vsync mode line x = plain_vsync (level mode.positive (nat_lt x (sync mode.across))) (level_of mode line)

-- Parts that are seen as columns of one level and gaps, however many were received.

abbrev pub Even : Bool → List Part → Type 0
Even b parts = (m : ℕ) (ss rs : List Column) → Flat b (parts_cells m parts ss rs)

pub even_append : (b : Bool) (xs ys : List Part) → Even b xs → Even b ys → Even b (xs ++ ys)
even_append b xs ys h g m ss rs =
    subst (λ (ts : List Cell). Flat b ts) (sym (parts_append xs ys m ss rs))
    (flat_append b (parts_cells m xs ss rs) (parts_cells (m - size xs) ys (drop (size xs) ss) (drop (size xs) rs)) (h m ss rs) (g (m - size xs) (drop (size xs) ss) (drop (size xs) rs)))

same_by : (b v : Bool) → v ≡ b → same b v ≡ true
same_by b v e = ap (same b) e ∙ same_self b

received_flat : (b : Bool) (v m : ℕ) (rs : List Column) → vsync_of v ≡ b → Flat b (reception m v rs)
received_flat b v m rs h = grind (arith, same_by)

pub even_column : (b : Bool) (v : ℕ) (ps : List Part) → vsync_of v ≡ b → Even b ps → Even b (column v ∷ ps)
unfolding parts_cells part_cells
even_column b v ps e h m ss rs = flat_append b (reception m v (take 1 rs)) (parts_cells (m - 1) ps (drop 1 ss) (drop 1 rs)) (received_flat b v m (take 1 rs) e) (h (m - 1) (drop 1 ss) (drop 1 rs))

pub even_none : (b : Bool) → Even b []
unfolding parts_cells
even_none b m ss rs = refl

even_up : (b : Bool) (value : ℕ → ℕ) → ((x : ℕ) → vsync_of (value x) ≡ b) → (n x : ℕ) → Even b (map (λ i. column (value i)) (up_from x n))
even_up b value h zero x = even_none b
even_up b value h (suc n) x = even_column b (value x) (map (λ i. column (value i)) (up_from (suc x) n)) (h x) (even_up b value h n (suc x))

pub even_columns : (b : Bool) (value : ℕ → ℕ) (x e : ℕ) → ((i : ℕ) → vsync_of (value i) ≡ b) → Even b (columns value x e)
even_columns b value x e h = even_up b value h (e - x) x

gap_flat : (b : Bool) (m : ℕ) → Flat b (gap_cells m)
gap_flat b m = grind arith

pub even_island : (b : Bool) (x : DataIsland) (ps : List Part) → Even b ps → Even b (packets x ∷ ps)
unfolding parts_cells part_cells
even_island b x ps h m ss rs =
    let n = 4 + 32 * length x.packets in
    flat_append b (gap_cells m) (parts_cells (m - n) ps (drop n ss) (drop n rs)) (gap_flat b m) (h (m - n) (drop n ss) (drop n rs))

pub even_until : (mode : Mode) (line : Line) (ps : List Packet) (e : ℕ) → Even (level_of mode line) (until mode line ps e)
even_until mode line [] e = even_columns (level_of mode line) (value_at mode line false) 0 e (value_vsync mode line false)
even_until mode line (p ∷ ps) e =
    even_append (level_of mode line) (columns (value_at mode line true) 0 12) _
    (even_columns (level_of mode line) (value_at mode line true) 0 12 (value_vsync mode line true))
    (even_island (level_of mode line) (island_of mode line (p ∷ ps)) (columns (value_at mode line true) (16 + 32 * length (p ∷ ps)) e)
    (even_columns (level_of mode line) (value_at mode line true) (16 + 32 * length (p ∷ ps)) e (value_vsync mode line true)))

-- Control columns that follow one another.

up_append : (n m x : ℕ) → up_from x (n + m) ≡ up_from x n ++ up_from (x + n) m
up_append zero m x = grind arith
up_append (suc n) m x =
    let e : suc n + m ≡ suc (n + m) = omega arith in
    let d : suc x + n ≡ x + suc n = omega arith in
    ap (up_from x) e ∙ ap (λ (xs : List ℕ). x ∷ xs) (up_append n m (suc x) ∙ ap (λ (k : ℕ). up_from (suc x) n ++ up_from k m) d)

map_append : (f : ℕ → Part) (xs ys : List ℕ) → map f (xs ++ ys) ≡ map f xs ++ map f ys
map_append f [] ys = refl
map_append f (x ∷ xs) ys = ap (λ (ps : List Part). f x ∷ ps) (map_append f xs ys)

pub columns_split : (value : ℕ → ℕ) (x k e : ℕ) → x ≤ k → k ≤ e → columns value x e ≡ columns value x k ++ columns value k e
columns_split value x k e le to =
    let d : e - x ≡ (k - x) + (e - k) = omega (arith, le, to) in
    grind (arith, up_append, map_append)

-- Parts that begin with eleven control columns of a level.

abbrev pub AreOf : Bool → List ℕ → Type 0
AreOf b vs = list_all (λ v. same b (vsync_of v)) vs ≡ true

pub record Begins (b : Bool) (parts : List Part) : Type 0 where
  pub values : List ℕ
  pub rest : List Part
  pub are : parts ≡ map column values ++ rest
  pub long : length values ≡ 11
  pub level : AreOf b values

pub begins_more : (b : Bool) (xs ys : List Part) → Begins b xs → Begins b (xs ++ ys)
begins_more b xs ys h = grind (arith, append_assoc)

-- the first column of them
pub record First (parts : List Part) : Type 0 where
  pub value : ℕ
  pub rest : List Part
  pub are : parts ≡ column value ∷ rest

pub begins_first : (b : Bool) (parts : List Part) → Begins b parts → First parts
begins_first b parts h = by_values h.values h.are h.long
  where
    by_values : (vs : List ℕ) → parts ≡ map column vs ++ h.rest → length vs ≡ 11 → First parts
    by_values [] e l = absurd (omega (arith, l))
    by_values (v ∷ vs) e l = record { value = v; rest = map column vs ++ h.rest; are = e }

columns_map : (value : ℕ → ℕ) (n x : ℕ) → map (λ i. column (value i)) (up_from x n) ≡ map column (map value (up_from x n))
columns_map value zero x = refl
columns_map value (suc n) x = ap (λ (ps : List Part). column (value x) ∷ ps) (columns_map value n (suc x))

length_values : (value : ℕ → ℕ) (n x : ℕ) → length (map value (up_from x n)) ≡ n
length_values value zero x = refl
length_values value (suc n) x = ap (λ k. suc k) (length_values value n (suc x))

level_values : (b : Bool) (value : ℕ → ℕ) → ((i : ℕ) → vsync_of (value i) ≡ b) → (n x : ℕ) → AreOf b (map value (up_from x n))
level_values b value h zero x = refl
level_values b value h (suc n) x = ap₂ (λ (s t : Bool). s && t) (same_by b (vsync_of (value x)) (h x)) (level_values b value h n (suc x))

pub begins_columns : (b : Bool) (value : ℕ → ℕ) → ((i : ℕ) → vsync_of (value i) ≡ b) → (x e : ℕ) → x + 11 ≤ e → Begins b (columns value x e)
begins_columns b value h x e le =
    let d : (x + 11) - x ≡ 11 = omega arith in
    record {
      values = map value (up_from x 11);
      rest = columns value (x + 11) e;
      are = columns_split value x (x + 11) e (omega arith) le ∙ ap (λ (ps : List Part). ps ++ columns value (x + 11) e) (ap (λ (n : ℕ). map (λ i. column (value i)) (up_from x n)) d ∙ columns_map value 11 x);
      long = length_values value 11 x;
      level = level_values b value h 11 x;
    }

pub begins_until : (mode : Mode) (line : Line) (ps : List Packet) (e : ℕ) → 11 ≤ e → Begins (level_of mode line) (until mode line ps e)
begins_until mode line [] e le = begins_columns (level_of mode line) (value_at mode line false) (value_vsync mode line false) 0 e (omega (arith, le))
begins_until mode line (p ∷ ps) e le =
    begins_more (level_of mode line) (columns (value_at mode line true) 0 12) _ (begins_columns (level_of mode line) (value_at mode line true) (value_vsync mode line true) 0 12 (omega arith))

level_same : (b : Bool) (v n : ℕ) → vsync_of v ≡ b → AreOf b (replicate n v)
level_same b v zero e = refl
level_same b v (suc n) e = ap₂ (λ (s t : Bool). s && t) (same_by b (vsync_of v) e) (level_same b v n e)

pub begins_same : (b : Bool) (v n : ℕ) → vsync_of v ≡ b → Begins b (map column (replicate 11 v) ++ replicate n (column v))
begins_same b v n e = record { values = replicate 11 v; rest = replicate n (column v); are = refl; long = refl; level = level_same b v 11 e }

-- What is seen of them.

record Zone (b : Bool) (m n : ℕ) (ts : List Cell) : Type 0 where
  pub levels : List Bool
  pub are : ts ≡ cells_of b levels
  pub long : length levels ≡ min m n

zone : (b : Bool) (vs : List ℕ) → AreOf b vs → (m : ℕ) (ss rs : List Column) → Zone b m (length vs) (parts_cells m (map column vs) ss rs)
unfolding parts_cells part_cells
zone b [] h m ss rs = record { levels = []; are = refl; long = omega arith }
zone b (v ∷ vs) h zero ss rs = record { levels = []; are = parts_none (map column (v ∷ vs)) ss rs; long = omega arith }
zone b (v ∷ vs) h (suc m) ss rs =
    let e = same_is b (vsync_of v) (and-left _ _ h) in
    let k = zone b vs (and-right (same b (vsync_of v)) _ h) (suc m - 1) (drop 1 ss) (drop 1 rs) in
    record {
      levels = vsync_of (value_of (column_at (take 1 rs) 0)) ∷ k.levels;
      are = ap₂ (λ (x : Bool) (ts : List Cell). control x (vsync_of (value_of (column_at (take 1 rs) 0))) ∷ ts) e k.are;
      long = omega (arith, k.long);
    }

pub record Opened (b : Bool) (m : ℕ) (ts : List Cell) : Type 0 where
  pub levels : List Bool
  pub rest : List Cell
  pub are : ts ≡ cells_of b levels ++ rest
  pub long : length levels ≡ min m 11
  pub none : m ≤ 11 → rest ≡ []

pub size_values : (vs : List ℕ) → size (map column vs) ≡ length vs
unfolding size
size_values [] = refl
size_values (v ∷ vs) = omega (arith, size_values vs)

pub opened : (b : Bool) (parts : List Part) (m : ℕ) (ss rs : List Column) → Begins b parts → Opened b m (parts_cells m parts ss rs)
opened b parts m ss rs h =
    let z = zone b h.values h.level m ss rs in
    grind (arith, size_values, parts_cells, parts_append, Cell, parts_none)
