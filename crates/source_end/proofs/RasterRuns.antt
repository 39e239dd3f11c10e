-- The columns of a line as runs.
use Rattle.std.proofs.Common.{◌≡◌, ℕ, zero, suc, ◌+◌, ◌-◌, ◌*◌, ◌<◌, ◌≤◌, Bool, true, false, ◌&&◌, ◌==◌, cond, min, max, List, [], ◌∷◌, ◌++◌, map, length, take, replicate, Some, refl, sym, ap, ap₂, ◌∙◌, append_assoc, arith}
use Rattle.std.specs.Prelude.{nat_lt}
use Rattle.std.proofs.lemmas.Bool.{lt-ltb, le-ltb, le-leb, lt-leb}
use Rattle.std.proofs.lemmas.List.{map-append, take_all}
use Rattle.terc4.specs.Columns.{one_if}
use Rattle.island_pack.specs.Periods.{DataIsland}
use Rattle.island_pack.specs.declared.packet.Packet.{Packet}
use Rattle.source_end.specs.declared.mode.Mode.{Mode}
use Rattle.source_end.specs.Raster.{Line, Part, column, pixels, packets, up_from, columns, level, sync_at, value_at, is_within, has_row, guard_at, blank, row_line, row_room, blank_room, sync, back, active, total, packets_at, island_of, until, whole}
use Rattle.source_end.specs.Lines.{lead, lead_end}
use Rattle.source_end.proofs.RasterModes.{IsMode}

-- Columns in two parts, and columns of one value.

up_more : (n m x : ℕ) → up_from x (n + m) ≡ up_from x n ++ up_from (x + n) m
up_more zero m x = grind arith
up_more (suc n) m x =
    let e : suc n + m ≡ suc (n + m) = omega arith in
    let d : suc x + n ≡ x + suc n = omega arith in
    ap (up_from x) e ∙ ap (λ (xs : List ℕ). x ∷ xs) (up_more n m (suc x) ∙ ap (λ (k : ℕ). up_from (suc x) n ++ up_from k m) d)

pub up_next : (x n : ℕ) → up_from x (n + 1) ≡ up_from x n ++ (x + n) ∷ []
up_next x n = up_more n 1 x

pub columns_split : (value : ℕ → ℕ) (x y e : ℕ) → x ≤ y → y ≤ e → columns value x e ≡ columns value x y ++ columns value y e
columns_split value x y e le more =
    let n : e - x ≡ (y - x) + (e - y) = omega (arith, le, more) in
    grind (arith, up_more, map-append)

same_up : (f g : ℕ → ℕ) (n x : ℕ) → ((i : ℕ) → x ≤ i → i < x + n → f i ≡ g i) → map (λ i. column (f i)) (up_from x n) ≡ map (λ i. column (g i)) (up_from x n)
same_up f g zero x h = refl
same_up f g (suc n) x h = ap₂ (λ (v : ℕ) (ps : List Part). column v ∷ ps) (h x (omega arith) (omega arith)) (same_up f g n (suc x) (λ i le lt. h i (omega arith) (omega arith)))

pub columns_same : (f g : ℕ → ℕ) (x e : ℕ) → x ≤ e → ((i : ℕ) → x ≤ i → i < e → f i ≡ g i) → columns f x e ≡ columns g x e
columns_same f g x e le h = same_up f g (e - x) x (λ i from to. h i from (omega (arith, le, to)))

flat_up : (f : ℕ → ℕ) (v n x : ℕ) → ((i : ℕ) → x ≤ i → i < x + n → f i ≡ v) → map (λ i. column (f i)) (up_from x n) ≡ replicate n (column v)
flat_up f v zero x h = refl
flat_up f v (suc n) x h = ap₂ (λ (u : ℕ) (ps : List Part). column u ∷ ps) (h x (omega arith) (omega arith)) (flat_up f v n (suc x) (λ i le lt. h i (omega arith) (omega arith)))

columns_flat : (f : ℕ → ℕ) (v x e : ℕ) → x ≤ e → ((i : ℕ) → x ≤ i → i < e → f i ≡ v) → columns f x e ≡ replicate (e - x) (column v)
columns_flat f v x e le h = flat_up f v (e - x) x (λ i from to. h i from (omega (arith, le, to)))

abbrev pub pair_value : Mode → Bool → Bool → ℕ
pair_value mode hsync vsync = one_if (level mode.positive hsync) + 2 * one_if (level mode.positive vsync)

-- control columns of a line with these control bits
abbrev pub with_ctl : Mode → Line → ℕ → ℕ → ℕ
with_ctl mode line ctl x = sync_at mode line x + ctl

-- they are two runs, since HSYNC turns once
pub span_parts : (mode : Mode) (v : Bool) (ctl from to edge a b : ℕ) → from ≤ to → edge ≡ min (max (sync mode.across) from) to → a ≡ pair_value mode true v + ctl → b ≡ pair_value mode false v + ctl
    → replicate (edge - from) (column a) ++ replicate (to - edge) (column b) ≡ columns (with_ctl mode (blank v) ctl) from to
span_parts mode v ctl from to edge a b le e ea eb =
    let value = with_ctl mode (blank v) ctl in
    let first : from ≤ edge = omega (arith, le, e) in
    let second : edge ≤ to = omega (arith, le, e) in
    sym (columns_split value from edge to first second
    ∙ ap₂ (λ (ps qs : List Part). ps ++ qs)
    (columns_flat value a from edge first (λ i low high. ap (λ (h : Bool). pair_value mode h v + ctl) (lt-ltb i (sync mode.across) (omega (arith, low, high, e))) ∙ sym ea))
    (columns_flat value b edge to second (λ i low high. ap (λ (h : Bool). pair_value mode h v + ctl) (le-ltb i (sync mode.across) (omega (arith, low, high, e))) ∙ sym eb)))

-- The packets of a line.

abbrev pub placed : Mode → Line → ℕ → Packet → Packet
placed mode line x p = record { header = p.header; bodies = p.bodies; sync = map (sync_at mode line) (up_from x 32) }

pub packets_more : (mode : Mode) (line : Line) (x : ℕ) (ps : List Packet) (p : Packet) → packets_at mode line x (ps ++ p ∷ []) ≡ packets_at mode line x ps ++ placed mode line (x + 32 * length ps) p ∷ []
packets_more mode line x [] p = grind arith
packets_more mode line x (q ∷ ps) p =
    let d : x + 32 + 32 * length ps ≡ x + 32 * length (q ∷ ps) = omega arith in
    ap (λ (qs : List Packet). placed mode line x q ∷ qs) (packets_more mode line (x + 32) ps p ∙ ap (λ (k : ℕ). packets_at mode line (x + 32) ps ++ placed mode line k p ∷ []) d)

-- Before an island.

within : (x from to : ℕ) → from ≤ x → x < to → is_within x from to ≡ true
within x from to le lt = ap₂ (λ (a b : Bool). a && b) (le-leb from x le) (lt-ltb x to lt)

before_within : (x from to : ℕ) → x < from → is_within x from to ≡ false
before_within x from to lt = ap (λ (b : Bool). b && nat_lt x to) (lt-leb from x lt)

-- the control bits of a column in which no row is announced
calm : (mode : Mode) (line : Line) (has : Bool) (x : ℕ) (b : Bool) → (has_row line && is_within x (guard_at mode - 8) (guard_at mode)) ≡ false → (has && is_within x 4 12) ≡ b → value_at mode line has x ≡ with_ctl mode line (cond b 20 0) x
calm mode line has x b e d = ap₂ (λ (s t : Bool). sync_at mode line x + cond s 4 (cond t 20 0)) e d

pub lead_columns : (mode : Mode) (v : Bool) → columns (with_ctl mode (blank v) 0) 0 4 ++ columns (with_ctl mode (blank v) 20) 4 12 ≡ columns (value_at mode (blank v) true) 0 12
lead_columns mode v = grind (arith, columns_split, columns_same, calm, before_within, within)

-- a line that takes packets is led as one with no row
pub lead_row : (mode : Mode) (row : List ℕ) (ps : List Packet) → 20 ≤ guard_at mode → lead mode (blank false) ps ≡ lead mode (row_line row) ps
lead_row mode row ps h = grind (arith, columns_same, calm, before_within)

pub lead_some : (mode : Mode) (v : Bool) (ps : List Packet) (x : DataIsland) → 1 ≤ length ps → x ≡ island_of mode (blank v) ps → (columns (with_ctl mode (blank v) 0) 0 4 ++ columns (with_ctl mode (blank v) 20) 4 12) ++ packets x ∷ [] ≡ lead mode (blank v) ps
lead_some mode v ps x h k = grind (arith, lead_columns)

pub some_there : (b : Bool) (ps : List Packet) → b ≡ (length ps == 0) → b ≡ false → 1 ≤ length ps
some_there b ps h k = grind arith

pub end_some : (ps : List Packet) → 1 ≤ length ps → lead_end ps ≡ 16 + 32 * length ps
end_some ps h = grind arith

-- After it.

some : List Packet → Bool
some [] = false
some (p ∷ ps) = true

until_led : (mode : Mode) (line : Line) (ps : List Packet) (e : ℕ) → until mode line ps e ≡ lead mode line ps ++ columns (value_at mode line (some ps)) (lead_end ps) e
unfolding some
until_led mode line ps e = grind (arith, append_assoc)

after : (ps : List Packet) (x : ℕ) → lead_end ps ≤ x → (some ps && is_within x 4 12) ≡ false
unfolding some
after ps x h = grind (arith, le-ltb)

pub blank_parts : (mode : Mode) (v : Bool) (ps : List Packet) → lead_end ps ≤ total mode.across → lead mode (blank v) ps ++ columns (with_ctl mode (blank v) 0) (lead_end ps) (total mode.across) ≡ until mode (blank v) ps (total mode.across)
blank_parts mode v ps le = grind (arith, until_led, columns_same, calm, after)

announced : (mode : Mode) (row : List ℕ) (has : Bool) (x : ℕ) → is_within x (guard_at mode - 8) (guard_at mode) ≡ true → value_at mode (row_line row) has x ≡ with_ctl mode (blank false) 4 x
announced mode row has x e = ap (λ (b : Bool). sync_at mode (blank false) x + cond b 4 (cond (has && is_within x 4 12) 20 0)) e

same_lead : (mode : Mode) (row : List ℕ) (ps : List Packet) → lead_end ps ≤ guard_at mode - 8 → lead mode (blank false) ps ≡ lead mode (row_line row) ps
same_lead mode row ps h = grind (arith, lead_row)

row_until : (mode : Mode) (row : List ℕ) (ps : List Packet) → lead_end ps ≤ guard_at mode - 8
    → lead mode (blank false) ps ++ (columns (with_ctl mode (blank false) 0) (lead_end ps) (guard_at mode - 8) ++ columns (with_ctl mode (blank false) 4) (guard_at mode - 8) (guard_at mode)) ≡ until mode (row_line row) ps (guard_at mode)
row_until mode row ps le =
    let g = guard_at mode in
    let value = value_at mode (row_line row) (some ps) in
    sym (until_led mode (row_line row) ps g
    ∙ ap₂ (λ (ls qs : List Part). ls ++ qs) (sym (same_lead mode row ps le))
    (columns_split value (lead_end ps) (g - 8) g le (omega arith)
    ∙ ap₂ (λ (qs rs : List Part). qs ++ rs)
    (columns_same value (with_ctl mode (blank false) 0) (lead_end ps) (g - 8) le (λ i low high. calm mode (row_line row) (some ps) i false (before_within i (g - 8) g high) (after ps i low)))
    (columns_same value (with_ctl mode (blank false) 4) (g - 8) g (omega arith) (λ i low high. announced mode row (some ps) i (within i (g - 8) g low high)))))

pub row_parts : (mode : Mode) (row : List ℕ) (ps : List Packet) (a : ℕ) → lead_end ps ≤ guard_at mode - 8 → a ≡ sync mode.across + back mode.across + active mode.across
    → lead mode (blank false) ps ++ (columns (with_ctl mode (blank false) 0) (lead_end ps) (guard_at mode - 8) ++ (columns (with_ctl mode (blank false) 4) (guard_at mode - 8) (guard_at mode) ++ (pixels row ∷ columns (with_ctl mode (blank false) 0) a (total mode.across))))
    ≡ whole mode (row_line row) ps (Some row)
row_parts mode row ps a le e = grind (arith, append_assoc, row_until, columns_same)

-- The packets of a line leave room.

pub blank_end : (mode : Mode) (ps : List Packet) → length ps ≤ blank_room mode → lead_end ps ≤ total mode.across
blank_end mode ps h = grind arith

pub row_end : (mode : Mode) → IsMode mode → (ps : List Packet) → length ps ≤ row_room mode → lead_end ps ≤ guard_at mode - 8
row_end mode h k l = grind arith

-- Loops over columns and packets.

pub map_next : (f : ℕ → ℕ) (x n : ℕ) → map f (up_from x (n + 1)) ≡ map f (up_from x n) ++ f (x + n) ∷ []
map_next f x n = ap (map f) (up_next x n) ∙ map-append f (up_from x n) ((x + n) ∷ [])

pub all_filled : (f : ℕ → ℕ) (x i n : ℕ) (values : List ℕ) → length values ≡ n → i ≡ n → take i values ≡ map f (up_from x i) → values ≡ map f (up_from x n)
all_filled f x i n values long all e = sym (take_all i values (omega (arith, long, all))) ∙ e ∙ ap (λ (k : ℕ). map f (up_from x k)) all
