-- Three neighbouring control columns with VSYNC active: where they were received is what the cells say.
use Rattle.std.proofs.Common.{◌≡◌, ℕ, zero, suc, ◌+◌, ◌-◌, ◌≤◌, Bool, true, false, not, ◌&&◌, ◌||◌, List, [], ◌∷◌, ◌++◌, length, take, drop, refl, sym, ap, ap₂, ◌∙◌, arith}
use Rattle.tmds_word.proofs.Below.{and-left, and-right}
use Rattle.tmds_word.specs.Column.{Column}
use Rattle.terc4.specs.Columns.{is_control_column}
use Rattle.island_pack.specs.Periods.{Pixel}
use Rattle.period_grammar.specs.Column.{value_of}
use Rattle.frame_build.specs.FrameEvent.{vsync_of, Mark, column, gap, has_vsync}
use Rattle.frame_build.specs.Change.{three_have}
use Rattle.link_laws.proofs.Cutting.{NoneControl}
use Rattle.source_end.specs.declared.mode.Mode.{Mode}
use Rattle.source_end.specs.Raster.{level, Part, column as column_part, pixels, packets}
use Rattle.listing_laws.specs.FrameLaws.{is_sync, has_sync}
use Rattle.listing_laws.proofs.Cells.{Cell, control, pixels as pixels_cell, parted, same_self, alike, three_alike, no_gap}
use Rattle.listing_laws.proofs.Threes.{met, three_wrong}
use Rattle.listing_laws.proofs.Parts.{row_cells, parts_cells, parts_none}
use Rattle.listing_laws.proofs.Accounted.{cells_first}
use Rattle.listing_laws.proofs.Arrived.{IsOther, Arrived, drop_front}
use Rattle.listing_laws.proofs.Fine.{row_first_cells, island_first_cells}

-- A column's mark.

abbrev mark_by : Bool → ℕ → Mark
mark_by true v = column (vsync_of v)
mark_by false v = gap

abbrev mark : Column → Mark
mark c = mark_by (is_control_column c) (value_of c)

-- whether three neighbouring columns of a level are among these, after marks
abbrev met_in : Bool → List Mark → List Column → Bool
met_in b ms [] = false
met_in b ms (c ∷ cs) = three_have b (mark c ∷ ms) || met_in b (mark c ∷ ms) cs

abbrev newest : Bool → List Mark → Bool
newest b [] = false
newest b (m ∷ ms) = has_vsync b m

abbrev second : Bool → List Mark → Bool
second b [] = false
second b (m ∷ ms) = newest b ms

-- the same, by the two columns before
abbrev look : Mode → Bool → Bool → List Column → Bool
look mode t u [] = false
look mode t u (c ∷ cs) = (is_sync mode c && (u && t)) || look mode u (is_sync mode c) cs

sync_level : (p v : Bool) → level v p ≡ has_vsync p (column v)
sync_level p v = grind arith

sync_mark : (mode : Mode) (c : Column) → is_sync mode c ≡ has_vsync mode.positive (mark c)
sync_mark mode c = grind (arith, sync_level, no_gap)

and_none : (a b : Bool) → (a && (b && false)) ≡ false
and_none a b = grind arith

and_assoc : (a b c : Bool) → ((a && b) && c) ≡ (a && (b && c))
and_assoc a b c = grind arith

three_by : (b : Bool) (m : Mark) (ms : List Mark) → three_have b (m ∷ ms) ≡ (has_vsync b m && (newest b ms && second b ms))
three_by b m ms = grind (arith, and_none, and_assoc)

look_met : (mode : Mode) (ms : List Mark) (cs : List Column) → met_in mode.positive ms cs ≡ look mode (second mode.positive ms) (newest mode.positive ms) cs
look_met mode ms [] = refl
look_met mode ms (c ∷ cs) =
    ap₂ (λ (x y : Bool). x || y) (three_by mode.positive (mark c) ms ∙ ap (λ (x : Bool). x && (newest mode.positive ms && second mode.positive ms)) (sym (sync_mark mode c)))
    (look_met mode (mark c ∷ ms) cs ∙ ap (λ (x : Bool). look mode (newest mode.positive ms) x cs) (sym (sync_mark mode c)))

turn_round : (a b c : Bool) → (a && (b && c)) ≡ (c && (b && a))
turn_round a b c = grind arith

has_look : (mode : Mode) (c d : Column) (cs : List Column) → has_sync mode (c ∷ (d ∷ cs)) ≡ look mode (is_sync mode c) (is_sync mode d) cs
unfolding has_sync
has_look mode c d [] = refl
has_look mode c d (e ∷ cs) = ap₂ (λ (x y : Bool). x || y) (turn_round (is_sync mode c) (is_sync mode d) (is_sync mode e)) (has_look mode d e cs)

first_looks : (a b x : Bool) → ((a && (false && false)) || ((b && (a && false)) || x)) ≡ x
first_looks a b x = grind arith

all_look : (mode : Mode) (cs : List Column) → has_sync mode cs ≡ look mode false false cs
unfolding has_sync
all_look mode [] = refl
all_look mode (c ∷ []) = grind arith
all_look mode (c ∷ (d ∷ cs)) = has_look mode c d cs ∙ sym (first_looks (is_sync mode c) (is_sync mode d) (look mode (is_sync mode c) (is_sync mode d) cs))

has_met : (mode : Mode) (cs : List Column) → has_sync mode cs ≡ met_in mode.positive [] cs
has_met mode cs = all_look mode cs ∙ sym (look_met mode [] cs)

-- Gaps.

three_gap : (b : Bool) (ms : List Mark) → three_have b (gap ∷ ms) ≡ false
three_gap b ms = grind (arith, no_gap)

three_any : (b v : Bool) (ms ns : List Mark) → alike ms ns ≡ true → three_have b (column v ∷ ms) ≡ three_have b (column v ∷ ns)
three_any b v ms ns h = grind (arith, three_alike, three_wrong)

no_control_mark : (c : Column) → not (is_control_column c) ≡ true → mark c ≡ gap
no_control_mark c h = grind arith

mark_like : (b : Bool) (m : Mark) (ms ns : List Mark) → alike ms ns ≡ true → three_have b (m ∷ ms) ≡ three_have b (m ∷ ns)
mark_like b m ms ns h = grind (arith, three_any, three_gap)

mark_alike : (m : Mark) (ms ns : List Mark) → alike ms ns ≡ true → alike (m ∷ ms) (m ∷ ns) ≡ true
mark_alike m ms ns h = grind (arith, same_self)

met_alike : (b : Bool) (cs : List Column) (ms ns : List Mark) → alike ms ns ≡ true → met_in b ms cs ≡ met_in b ns cs
met_alike b [] ms ns h = refl
met_alike b (c ∷ cs) ms ns h = ap₂ (λ (x y : Bool). x || y) (mark_like b (mark c) ms ns h) (met_alike b cs (mark c ∷ ms) (mark c ∷ ns) (mark_alike (mark c) ms ns h))

-- columns that are no control columns, and those after them
past_no_control : (b : Bool) (own rest : List Column) (k : ℕ) (ms : List Mark) → NoneControl own → met_in b (gap ∷ ms) (take k (own ++ rest)) ≡ met_in b (gap ∷ []) (take (k - length own) rest)
past_no_control b [] rest k ms h = grind (arith, met_alike)
past_no_control b (c ∷ own) rest zero ms h = let e : 0 ≡ 0 - length (c ∷ own) = omega arith in ap (λ (n : ℕ). met_in b (gap ∷ []) (take n rest)) e
past_no_control b (c ∷ own) rest (suc k) ms h = grind (arith, no_control_mark, and-left, three_gap, and-right, past_no_control b own rest k)

-- Parts.

gap_one : (b : Bool) (ns : List Mark) (cs : List Cell) → met b ns (parted ∷ cs) ≡ met b (gap ∷ ns) cs
unfolding met
gap_one b ns cs = refl

row_met : (b : Bool) (m : ℕ) (ps : List Pixel) (ss rs : List Column) (ns : List Mark) (cs : List Cell) → met b ns (row_cells (suc m) ps ss rs ++ cs) ≡ met b (gap ∷ ns) cs
unfolding met
row_met b m ps ss rs ns cs = grind (arith, met, pixels_cell, parted, gap_one)

take_nothing : (k : ℕ) (b : Bool) (ms : List Mark) → met_in b ms (take k []) ≡ false
take_nothing k b ms = grind arith

column_met : (b u v : Bool) (ns : List Mark) (cs : List Cell) → met b ns (control u v ∷ cs) ≡ (three_have b (column v ∷ ns) || met b (column v ∷ ns) cs)
unfolding met
column_met b u v ns cs = refl

-- a part that is a gap, and the parts after it
other_met : (b : Bool) (n : ℕ) (own reception ss rs sent received : List Column) (parts : List Part) (k : ℕ) (ms ns : List Mark) → 1 ≤ n → IsOther n own reception → ss ≡ own ++ sent → rs ≡ reception ++ received
    → (met_in b (gap ∷ []) (take (suc k - n) received) ≡ met b (gap ∷ ns) (parts_cells (suc k - n) parts sent received))
    → met_in b ms (take (suc k) rs) ≡ met b (gap ∷ ns) (parts_cells (suc k - n) parts (drop n ss) (drop n rs))
other_met b n own [] ss rs sent received parts k ms ns some o e d h = absurd (let l = o.received in omega (arith, l, some))
other_met b n own (c ∷ reception) ss rs sent received parts k ms ns some o e d h = grind (arith, drop_front, no_control_mark, and-left, three_gap, past_no_control, and-right, met, parts_cells)

parts_met : (b : Bool) (parts : List Part) (ss rs : List Column) → Arrived parts ss rs → (k : ℕ) (ms ns : List Mark) → alike ms ns ≡ true → met_in b ms (take k rs) ≡ met b ns (parts_cells k parts ss rs)
unfolding Arrived parts_cells met
parts_met b parts ss rs a zero ms ns h = grind (arith, met, parts_none)
parts_met b [] ss rs a (suc k) ms ns h = grind (arith, take_nothing)
parts_met b (column_part v ∷ parts) ss rs a (suc k) ms ns h = grind (arith, three_any, mark_alike, met, parts_cells, cells_first, column_met, parts_met b parts)
parts_met b (pixels bytes ∷ parts) ss rs a (suc k) ms ns h = grind (arith, other_met, met, row_first_cells, row_met, parts_cells, parts_met b parts)
parts_met b (packets x ∷ parts) ss rs a (suc k) ms ns h = grind (arith, other_met, met, island_first_cells, gap_one, parts_cells, parts_met b parts)

-- three neighbouring columns with VSYNC active were received of parts where their cells have them
pub sync_cells : (mode : Mode) (parts : List Part) (ss rs : List Column) → Arrived parts ss rs → (k : ℕ) → has_sync mode (take k rs) ≡ met mode.positive [] (parts_cells k parts ss rs)
sync_cells mode parts ss rs a k = has_met mode (take k rs) ∙ parts_met mode.positive parts ss rs a k [] [] refl
