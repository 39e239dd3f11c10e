-- The account of a raster reports what is seen of its parts.
use Rattle.std.proofs.lemmas.Grind.{common_steps}
use Rattle.std.proofs.Common.{◌≡◌, ℕ, zero, suc, ◌+◌, ◌-◌, ◌*◌, ◌/◌, ◌<◌, ◌≤◌, Bool, not, cond, ◌==◌, List, [], ◌∷◌, ◌++◌, map, length, take, drop, replicate, min, Option, refl, sym, ap, ap₂, subst, ◌∙◌, append_assoc, append-nil, arith, length-drop}
use Rattle.std.specs.Prelude.{nat_lt, nat_le}
use Rattle.std.proofs.lemmas.List.{drop-drop, drop-take, map-append, length-take}
use Rattle.std.proofs.lemmas.Bool.{lt-ltb, le-ltb, eqb-true}
use Rattle.tmds_word.specs.Column.{Column}
use Rattle.terc4.specs.Tables.{is_control}
use Rattle.terc4.specs.Columns.{is_island_guard}
use Rattle.bch_block.specs.declared.Verdict.{Verdict}
use Rattle.island_pack.specs.Periods.{ControlRun, DataIsland, Period, control as control_period, video, island, values_of, Pixel, pixels_of, period_columns, ISLAND_PREAMBLE}
use Rattle.island_pack.specs.Runs.{join}
use Rattle.island_pack.proofs.Runs.{join_values}
use Rattle.island_pack.specs.declared.packet.Packet.{Packet}
use Rattle.period_grammar.specs.Events.{Event, preamble, cut, symbols, guard, all_at, event_of}
use Rattle.period_grammar.specs.Column.{value_of}
use Rattle.period_grammar.specs.Cut.{Run, columns, in_front, value, before_runs, runs as runs_of}
use Rattle.period_grammar.specs.Island.{if_so, block_fault, block_faults, wrong_guards}
use Rattle.period_grammar.specs.Heard.{other_word, other_words, words, has_preamble, if_not, codes_of, code_fault}
use Rattle.period_grammar.proofs.Hearings.{events_at}
use Rattle.frame_build.specs.FrameEvent.{vsync_of}
use Rattle.link_laws.specs.Account.{runs_row, control_row, wrong_preamble, open_video_row, open_island_row, close_island_row, pixel_bytes, video_row, video_reported, packet_reported, packets_reported, island_reported, period_row, account_from, account_at, account}
use Rattle.link_laws.proofs.Joining.{no_row, account_zero}
use Rattle.source_end.specs.Raster.{Part, column, pixels, packets, before, gathered}
use Rattle.source_end.specs.Gathering.{size}
use Rattle.listing_laws.proofs.Machine.{Tick, control, pixels as pixels_tick, parted, ticks, ticks_append}
use Rattle.listing_laws.proofs.Cells.{Cell, Hears, none, one, apart, row, hears_append}
use Rattle.listing_laws.proofs.Cells as cell
use Rattle.listing_laws.proofs.Parts.{row_cells, gap_cells, part_cells, parts_cells, parts_none}

-- Control columns.

abbrev tick_of : Column → Tick
tick_of c = control (vsync_of (value_of c))

no_word : (lane j : ℕ) (t : Bool) → ticks (other_word lane j t) ≡ []
unfolding ticks
no_word lane j t = grind arith

no_both : (xs ys : List Event) → ticks xs ≡ [] → ticks ys ≡ [] → ticks (xs ++ ys) ≡ []
no_both xs ys h g = ticks_append xs ys ∙ ap₂ (λ (a b : List Tick). a ++ b) h g

no_other_words : (j : ℕ) (c : Column) → ticks (other_words j c) ≡ []
unfolding other_words
no_other_words j c =
    no_both (other_word 0 j (is_control c.blue)) _ (no_word 0 j (is_control c.blue))
    (no_both (other_word 1 j (is_control c.green)) _ (no_word 1 j (is_control c.green)) (no_word 2 j (is_control c.red)))

no_words : (j : ℕ) (cs : List Column) → ticks (map event_of (words j cs)) ≡ []
unfolding ticks
no_words j [] = refl
no_words j (c ∷ cs) =
    ap ticks (map-append event_of (all_at j (other_words j c)) (words (j + 1) cs) ∙ ap (λ (ts : List Event). ts ++ map event_of (words (j + 1) cs)) (events_at j (other_words j c)))
    ∙ no_both (other_words j c) (map event_of (words (j + 1) cs)) (no_other_words j c) (no_words (j + 1) cs)

-- the columns of runs
abbrev ticks_in : List Run → List Tick
ticks_in [] = []
ticks_in (columns v cs ∷ rs) = replicate (length cs) (control (vsync_of v)) ++ ticks_in rs

runs_ticks : (j : ℕ) (rs : List Run) → ticks (runs_row j rs) ≡ ticks_in rs
unfolding runs_row ticks
runs_ticks j [] = refl
runs_ticks j (columns v cs ∷ rs) =
    ticks_append (map event_of (words j cs)) _
    ∙ ap₂ (λ (xs ys : List Tick). xs ++ (replicate (length cs) (control (vsync_of v)) ++ ys)) (no_words j cs) (runs_ticks (j + length cs) rs)

front_ticks : (t : Bool) (c : Column) (r : Run) (rs : List Run) → (value_of c == value r) ≡ t → ticks_in (in_front t c r rs) ≡ tick_of c ∷ ticks_in (r ∷ rs)
front_ticks t c r rs h = grind (arith, control, eqb-true)

before_ticks : (c : Column) (rs : List Run) → ticks_in (before_runs c rs) ≡ tick_of c ∷ ticks_in rs
before_ticks c rs = grind (arith, front_ticks)

columns_ticks : (cs : List Column) → ticks_in (runs_of cs) ≡ map tick_of cs
unfolding runs_of
columns_ticks [] = refl
columns_ticks (c ∷ cs) = before_ticks c (runs_of cs) ∙ ap (λ (ts : List Tick). tick_of c ∷ ts) (columns_ticks cs)

row_ticks : (j : ℕ) (cs : List Column) → ticks (control_row j cs) ≡ map tick_of cs
row_ticks j cs = runs_ticks j (runs_of cs) ∙ columns_ticks cs

-- Gaps.

-- events that frames see as gaps
record AreGaps (ts : List Event) : Type 0 where
  many : ℕ
  are : ticks ts ≡ replicate many parted

more_gaps : (n m : ℕ) → replicate n parted ++ replicate m parted ≡ replicate (n + m) parted
more_gaps zero m = let e : m ≡ 0 + m = omega arith in ap (λ (k : ℕ). replicate k parted) e
more_gaps (suc n) m = let e : suc (n + m) ≡ suc n + m = omega arith in ap (λ (ts : List Tick). parted ∷ ts) (more_gaps n m) ∙ ap (λ (k : ℕ). replicate k parted) e

gaps_both : (xs ys : List Event) → AreGaps xs → AreGaps ys → AreGaps (xs ++ ys)
gaps_both xs ys h k = record { many = h.many + k.many; are = ticks_append xs ys ∙ ap₂ (λ (a b : List Tick). a ++ b) h.are k.are ∙ more_gaps h.many k.many }

no_gaps : AreGaps []
unfolding ticks
no_gaps = record { many = 0; are = refl }

so_gaps : (t : Bool) (s n : ℕ) → AreGaps (if_so t (symbols s n))
unfolding ticks
so_gaps t s n = grind arith

guard_gaps : (t : Bool) (b : ℕ) → AreGaps (if_so t (guard b))
unfolding ticks
guard_gaps t b = grind arith

lack_gaps : (t : Bool) (b : ℕ) → AreGaps (if_not t (preamble b))
unfolding ticks
lack_gaps t b = grind arith

block_gaps : (s i : ℕ) (v : Verdict) → AreGaps (block_fault s i v)
unfolding ticks
block_gaps s i v = grind arith

blocks_gaps : (s i : ℕ) (vs : List Verdict) → AreGaps (block_faults s i vs)
blocks_gaps s i [] = no_gaps
blocks_gaps s i (v ∷ vs) = gaps_both (block_fault s i v) (block_faults s (i + 1) vs) (block_gaps s i v) (blocks_gaps s (i + 1) vs)

code_gaps : (lane s : ℕ) (found : Option ℕ) → AreGaps (code_fault lane s found)
unfolding ticks
code_gaps lane s found = grind arith

guards_gaps : (is : Column → Bool) (b : ℕ) (g h : Column) → AreGaps (wrong_guards is b g h)
guards_gaps is b g h = gaps_both (if_so (not (is g)) (guard b)) (if_so (not (is h)) (guard (b + 1))) (guard_gaps (not (is g)) b) (guard_gaps (not (is h)) (b + 1))

open_video_gaps : (b : ℕ) (before rs : List Column) → AreGaps (open_video_row b before rs)
unfolding open_video_row
open_video_gaps b before rs = grind (arith, no_gaps, gaps_both, lack_gaps, guards_gaps)

-- an event more in front of gaps
gap_first : (t : Event) (ts : List Event) → ticks (t ∷ []) ≡ parted ∷ [] → AreGaps ts → AreGaps (t ∷ ts)
unfolding ticks
gap_first t ts e h = gaps_both (t ∷ []) ts (record { many = 1; are = e }) h

packet_gaps : (s : ℕ) (p : Packet) (ss rs : List Column) → AreGaps (packet_reported s p ss rs)
unfolding packet_reported ticks
packet_gaps s p ss rs = grind (arith, gap_first, gaps_both, so_gaps, blocks_gaps)

close_gaps : (s : ℕ) (rs : List Column) → AreGaps (close_island_row s rs)
unfolding close_island_row ticks
close_gaps s rs = grind (arith, no_gaps, gap_first, guards_gaps)

cut_gaps : (s : ℕ) → AreGaps (cut s ∷ [])
unfolding ticks
cut_gaps s = record { many = 1; are = refl }

cond_gaps : (t : Bool) (xs ys : List Event) → AreGaps xs → AreGaps ys → AreGaps (cond t xs ys)
cond_gaps t xs ys h k = grind arith

packets_gaps : (s : ℕ) (ps : List Packet) (i : ℕ) (ss rs : List Column) → AreGaps (packets_reported cut s ps i ss rs)
unfolding packets_reported
packets_gaps s [] i ss rs = cond_gaps (nat_le 2 i) _ _ (close_gaps s rs) (cut_gaps s)
packets_gaps s (p ∷ ps) i ss rs =
    cond_gaps (nat_lt i 32) _ _ (cut_gaps s)
    (gaps_both (packet_reported s p (take 32 ss) (take 32 rs)) (packets_reported cut (s + 32) ps (i - 32) (drop 32 ss) (drop 32 rs)) (packet_gaps s p (take 32 ss) (take 32 rs)) (packets_gaps (s + 32) ps (i - 32) (drop 32 ss) (drop 32 rs)))

-- an island is a gap at least
one_gap : (n : ℕ) (ts : List Tick) → ts ≡ replicate (suc n) parted → Hears ts (cell.parted ∷ [])
one_gap n ts e = subst (λ (us : List Tick). Hears us (cell.parted ∷ [])) (sym (e ∙ ap (λ (us : List Tick). parted ∷ us) (sym (append-nil (replicate n parted))))) (apart n [] [] none)

-- an island opens with an event whatever is wrong with it
open_island_gaps : (b : ℕ) (before : List Column) (g h : Column) (rs : List Column) → (n : ℕ) × (ticks (open_island_row b before (g ∷ (h ∷ rs))) ≡ replicate (suc n) parted)
unfolding open_island_row ticks
open_island_gaps b before g h rs =
    let w = lack_gaps (has_preamble ISLAND_PREAMBLE before) b in
    let k = guards_gaps is_island_guard b g h in
    let e : w.many + suc k.many ≡ suc (w.many + k.many) = omega arith in
    (w.many + k.many, ticks_append (wrong_preamble b ISLAND_PREAMBLE before) _ ∙ ap₂ (λ (xs ys : List Tick). xs ++ (parted ∷ ys)) w.are k.are ∙ more_gaps w.many (suc k.many) ∙ ap (λ (n : ℕ). replicate n parted) e)

island_hears : (j m : ℕ) (before : List Column) (x : DataIsland) (ss rs : List Column) → min m 2 ≤ length rs → Hears (ticks (island_reported j m before x ss rs)) (gap_cells m)
unfolding island_reported ticks
island_hears j zero before x ss rs le = none
island_hears j (suc zero) before x ss rs le = apart 0 [] [] none
island_hears j (suc (suc i)) before x ss [] le = absurd (omega (arith, le))
island_hears j (suc (suc i)) before x ss (g ∷ []) le = absurd (omega (arith, le))
island_hears j (suc (suc i)) before x ss (g ∷ (h ∷ rs)) le =
    let o = open_island_gaps j before g h rs in
    let p = packets_gaps (j + 2) x.packets i (drop 2 ss) (drop 2 (g ∷ (h ∷ rs))) in
    grind (arith, one_gap, ticks_append, Tick, more_gaps, parted)

-- A row.

whole_hears : (j : ℕ) (bytes : List ℕ) (n : ℕ) (ts us : List Event) → ticks ts ≡ replicate n parted → AreGaps us → (reported : Event) → ticks (reported ∷ us) ≡ pixels_tick bytes ∷ ticks us → Hears (ticks (ts ++ (reported ∷ us))) (cell.pixels bytes ∷ [])
whole_hears j bytes n ts us e g reported l =
    subst (λ (xs : List Tick). Hears xs (cell.pixels bytes ∷ []))
    (sym (ticks_append ts (reported ∷ us) ∙ ap₂ (λ (xs ys : List Tick). xs ++ ys) e (l ∙ ap (λ (xs : List Tick). pixels_tick bytes ∷ xs) (g.are ∙ sym (append-nil (replicate g.many parted))))))
    (row bytes n g.many [] [] none)

cut_hears : (n : ℕ) (ts : List Event) (s : ℕ) → ticks ts ≡ replicate n parted → Hears (ticks (ts ++ (cut s ∷ []))) (cell.parted ∷ [])
unfolding ticks
cut_hears n ts s e =
    let d : n + 1 ≡ suc n = omega arith in
    one_gap n _ (ticks_append ts (cut s ∷ []) ∙ ap (λ (xs : List Tick). xs ++ (parted ∷ [])) e ∙ more_gaps n 1 ∙ ap (λ (k : ℕ). replicate k parted) d)

line_hears : (t : Bool) (j n : ℕ) (ts : List Event) (ps : List Pixel) (ss rs : List Column) → ticks ts ≡ replicate n parted
    → Hears (ticks (ts ++ cond t (video_row j ps ss rs) (cut (j + 2) ∷ []))) (cond t (cell.pixels (pixel_bytes ps ss rs) ∷ []) (cell.parted ∷ []))
unfolding video_row ticks codes_of
line_hears t j n ts ps ss rs h = grind (arith, whole_hears, gaps_both, code_gaps, cut_hears)

video_hears : (j m : ℕ) (before : List Column) (ps : List Pixel) (ss rs : List Column) → Hears (ticks (video_reported j m before ps ss rs)) (row_cells m ps ss rs)
unfolding video_reported ticks
video_hears j zero before ps ss rs = none
video_hears j (suc zero) before ps ss rs = apart 0 [] [] none
video_hears j (suc (suc i)) before ps ss rs =
    let o = open_video_gaps j before rs in
    line_hears (nat_lt (length ps) i) j o.many (open_video_row j before rs) ps (drop 2 ss) (drop 2 rs) o.are

-- Periods.

-- the account of periods from column j on, the first of which, where it is a control period, has columns before them
abbrev account_on : List Column → ℕ → ℕ → List Period → List Column → List Column → List Event
account_on acc j m [] ss rs = account_from j m acc [] ss rs
account_on acc j m (control_period runs ∷ ps) ss rs =
    control_row j (take m (take (period_columns (control_period runs)) rs))
    ++ account_from (j + period_columns (control_period runs)) (m - period_columns (control_period runs)) (acc ++ take (period_columns (control_period runs)) rs) ps (drop (period_columns (control_period runs)) ss) (drop (period_columns (control_period runs)) rs)
account_on acc j m (video bytes ∷ ps) ss rs = account_from j m acc (video bytes ∷ ps) ss rs
account_on acc j m (island x ∷ ps) ss rs = account_from j m acc (island x ∷ ps) ss rs

on_some : (periods : List Period) (b : List Column) (j m : ℕ) (ss rs : List Column) → (acc : List Column) × (account_from j m b periods ss rs ≡ account_on acc j m periods ss rs)
unfolding account_from period_row
on_some [] b j m ss rs = (b, refl)
on_some (control_period runs ∷ ps) b j m ss rs = ([], refl)
on_some (video bytes ∷ ps) b j m ss rs = (b, refl)
on_some (island x ∷ ps) b j m ss rs = (b, refl)

nothing_on : (periods : List Period) (acc : List Column) (j : ℕ) (ss rs : List Column) → account_on acc j 0 periods ss rs ≡ []
nothing_on periods acc j ss rs = grind (arith, account_zero, no_row)

longer_period : (v : ℕ) (runs : List ControlRun) → period_columns (control_period (join v runs)) ≡ suc (period_columns (control_period runs))
unfolding period_columns
longer_period v runs = ap length (join_values v runs)

one_period : (v : ℕ) → period_columns (control_period (join v [])) ≡ 1
unfolding period_columns values_of
one_period v = refl

none_taken : (m : ℕ) → map tick_of (take m []) ≡ []
none_taken m = grind arith

alone_tick : (v : ℕ) (periods : List Period) (acc : List Column) (j m : ℕ) (ss : List Column) (c : Column) (rs : List Column)
    → account_from (j + 1) m (acc ++ c ∷ []) periods (drop 1 ss) rs ≡ account_on (acc ++ c ∷ []) (j + 1) m periods (drop 1 ss) rs
    → ticks (account_on acc j (suc m) (control_period (join v []) ∷ periods) ss (c ∷ rs)) ≡ tick_of c ∷ ticks (account_on (acc ++ c ∷ []) (j + 1) m periods (drop 1 ss) rs)
alone_tick v periods acc j m ss c rs is = grind (arith, ticks, one_period, ticks_append, Tick, row_ticks, none_taken)

-- a control column before periods
first_tick : (v : ℕ) (periods : List Period) (acc : List Column) (j m : ℕ) (ss : List Column) (c : Column) (rs : List Column)
    → ticks (account_on acc j (suc m) (before v periods) ss (c ∷ rs)) ≡ tick_of c ∷ ticks (account_on (acc ++ c ∷ []) (j + 1) m periods (drop 1 ss) rs)
first_tick v periods acc j m ss c rs = grind (arith, alone_tick, common_steps, ticks, longer_period, ticks_append, Tick, row_ticks, append_assoc, drop-drop)

pub cells_first : (v : ℕ) (parts : List Part) (m : ℕ) (ss : List Column) (c : Column) (rs : List Column)
    → parts_cells (suc m) (column v ∷ parts) ss (c ∷ rs) ≡ cell.control (vsync_of v) (vsync_of (value_of c)) ∷ parts_cells m parts (drop 1 ss) rs
unfolding parts_cells part_cells
cells_first v parts m ss c rs =
    let d : suc m - 1 ≡ m = omega arith in
    ap (λ (k : ℕ). cell.control (vsync_of v) (vsync_of (value_of c)) ∷ parts_cells k parts (drop 1 ss) rs) d

-- a part that is a period of its own, and the parts after it
period_hears : (n j m : ℕ) (own : List Event) (here : List Cell) (parts : List Part) (b ss rs : List Column) → Hears (ticks own) here
    → ((acc : List Column) → Hears (ticks (account_on acc (j + n) (m - n) (gathered parts) (drop n ss) (drop n rs))) (parts_cells (m - n) parts (drop n ss) (drop n rs)))
    → Hears (ticks (own ++ account_from (j + n) (m - n) b (gathered parts) (drop n ss) (drop n rs))) (here ++ parts_cells (m - n) parts (drop n ss) (drop n rs))
period_hears n j m own here parts b ss rs h later =
    let o = on_some (gathered parts) b (j + n) (m - n) (drop n ss) (drop n rs) in
    grind (arith, Hears, ticks, parts_cells, Tick, ticks_append, hears_append)

shorter_rest : (n m : ℕ) (rs : List Column) → m ≤ length rs → m - n ≤ length (drop n rs)
shorter_rest n m rs le = let l = length-drop n rs in omega (arith, le, l)

parts_hear : (parts : List Part) (acc : List Column) (j m : ℕ) (ss rs : List Column) → m ≤ length rs → Hears (ticks (account_on acc j m (gathered parts) ss rs)) (parts_cells m parts ss rs)
unfolding gathered parts_cells part_cells account_from period_row period_columns ticks
parts_hear parts acc j zero ss rs le = grind (arith, Hears, ticks, parts_cells, nothing_on, Cell, parts_none, none)
parts_hear [] acc j (suc m) ss rs le = none
parts_hear (column v ∷ parts) acc j (suc m) ss [] le = absurd (omega (arith, le))
parts_hear (column v ∷ parts) acc j (suc m) ss (c ∷ rs) le = grind (arith, Cell, Hears, ticks, cells_first, Tick, parts_cells, first_tick, one, parts_hear parts)
parts_hear (pixels bytes ∷ parts) acc j (suc m) ss rs le =
    let n = 2 + length bytes / 3 in
    period_hears n j (suc m) (video_reported j (suc m) acc (pixels_of bytes) (take n ss) (take n rs)) (row_cells (suc m) (pixels_of bytes) (take n ss) (take n rs)) parts (take n rs) ss rs
    (video_hears j (suc m) acc (pixels_of bytes) (take n ss) (take n rs))
    (λ acc2. parts_hear parts acc2 (j + n) (suc m - n) (drop n ss) (drop n rs) (shorter_rest n (suc m) rs le))
parts_hear (packets x ∷ parts) acc j (suc m) ss rs le =
    let n = 4 + 32 * length x.packets in
    let l = length-take n rs in
    period_hears n j (suc m) (island_reported j (suc m) acc x (take n ss) (take n rs)) (gap_cells (suc m)) parts (take n rs) ss rs
    (island_hears j (suc m) acc x (take n ss) (take n rs) (omega (arith, l, le)))
    (λ acc2. parts_hear parts acc2 (j + n) (suc m - n) (drop n ss) (drop n rs) (shorter_rest n (suc m) rs le))

-- From a column on.

pub video_size : (bytes : List ℕ) → period_columns (video bytes) ≡ 2 + length bytes / 3
unfolding period_columns
video_size bytes = refl

pub island_size : (x : DataIsland) → period_columns (island x) ≡ 4 + 32 * length x.packets
unfolding period_columns
island_size x = refl

lt_shift : (a l : ℕ) → nat_lt (1 + a) (1 + l) ≡ nat_lt a l
lt_shift a l = grind arith

past : (p : Period) (ps : List Period) (ss rs : List Column) (n a b m : ℕ) → period_columns p ≡ n → b ≡ n + a
    → account (p ∷ ps) ss rs b m ≡ account ps (drop n ss) (drop n rs) a m
unfolding account
past p ps ss rs n a b m e d = grind (arith, le-ltb)

-- m columns of a period of k columns from column a of it on
abbrev at_with : ℕ → ℕ → ℕ → List Column → List Period → List Column → List Column → List Event
at_with k a m first ps ss rs = control_row 0 (take m first) ++ account_from (k - a) (m - (k - a)) first ps (drop k ss) (drop k rs)

first_dropped : (n a : ℕ) (rs : List Column) → drop (1 + a) (take (1 + n) rs) ≡ drop a (take n (drop 1 rs))
first_dropped n a rs = sym (drop-drop a 1 (take (1 + n) rs)) ∙ ap (drop a) (drop-take 1 n rs)

-- a control column more, before
past_column : (w : ℕ) (periods : List Period) (ss rs : List Column) (a m : ℕ) → account (before w periods) ss rs (1 + a) m ≡ account periods (drop 1 ss) (drop 1 rs) a m
unfolding account account_at
past_column w [] ss rs a m = past (control_period (join w [])) [] ss rs 1 a (1 + a) m (one_period w) refl
past_column w (video bytes ∷ periods) ss rs a m = past (control_period (join w [])) (video bytes ∷ periods) ss rs 1 a (1 + a) m (one_period w) refl
past_column w (island x ∷ periods) ss rs a m = past (control_period (join w [])) (island x ∷ periods) ss rs 1 a (1 + a) m (one_period w) refl
past_column w (control_period runs ∷ periods) ss rs a m =
    let n = period_columns (control_period runs) in
    let s : period_columns (control_period (join w runs)) ≡ 1 + n = longer_period w runs ∙ omega arith in
    let e : (1 + n) - (1 + a) ≡ n - a = omega arith in
    let d : (1 + a) - (1 + n) ≡ a - n = omega arith in
    ap (λ (k : ℕ). cond (nat_lt (1 + a) k) (at_with k (1 + a) m (drop (1 + a) (take k rs)) periods ss rs) (account periods (drop k ss) (drop k rs) ((1 + a) - k) m)) s
    ∙ ap₂ (λ (b : Bool) (cs : List Column). cond b (at_with (1 + n) (1 + a) m cs periods ss rs) (account periods (drop (1 + n) ss) (drop (1 + n) rs) ((1 + a) - (1 + n)) m)) (lt_shift a n) (first_dropped n a rs)
    ∙ ap₂ (λ (i k : ℕ). cond (nat_lt a n)
    (control_row 0 (take m (drop a (take n (drop 1 rs)))) ++ account_from i (m - i) (drop a (take n (drop 1 rs))) periods (drop (1 + n) ss) (drop (1 + n) rs))
    (account periods (drop (1 + n) ss) (drop (1 + n) rs) k m)) e d
    ∙ ap₂ (λ (cs ds : List Column). cond (nat_lt a n)
    (control_row 0 (take m (drop a (take n (drop 1 rs)))) ++ account_from (n - a) (m - (n - a)) (drop a (take n (drop 1 rs))) periods cs ds)
    (account periods cs ds (a - n) m)) (sym (drop-drop n 1 ss)) (sym (drop-drop n 1 rs))

pub at_start : (runs : List ControlRun) (periods : List Period) (ss rs : List Column) (m : ℕ) → 0 < period_columns (control_period runs)
    → account (control_period runs ∷ periods) ss rs 0 m ≡ account_on [] 0 m (control_period runs ∷ periods) ss rs
unfolding account account_at
at_start runs periods ss rs m lt = grind (arith, lt-ltb)

starts : (v : ℕ) (periods : List Period) (ss rs : List Column) (m : ℕ) → account (before v periods) ss rs 0 m ≡ account_on [] 0 m (before v periods) ss rs
starts v periods ss rs m = grind (arith, at_start, one_period, longer_period)

-- a part more in front
front_hears : (n : ℕ) (periods more : List Period) (front back : List Part) (v m : ℕ) (ss rs : List Column)
    → account more ss rs (n + size front) m ≡ account periods (drop n ss) (drop n rs) (size front) m
    → Hears (ticks (account periods (drop n ss) (drop n rs) (size front) m)) (parts_cells m (column v ∷ back) (drop (size front) (drop n ss)) (drop (size front) (drop n rs)))
    → Hears (ticks (account more ss rs (n + size front) m)) (parts_cells m (column v ∷ back) (drop (n + size front) ss) (drop (n + size front) rs))
front_hears n periods more front back v m ss rs e h = grind (arith, Hears, ticks, parts_cells, Cell, drop-drop)

fewer_left : (n k m : ℕ) (rs : List Column) → n + k + m ≤ length rs → k + m ≤ length (drop n rs)
fewer_left n k m rs le = let l = length-drop n rs in omega (arith, le, l)

pub account_hears : (front back : List Part) (v : ℕ) (m : ℕ) (ss rs : List Column) → size front + m ≤ length rs
    → Hears (ticks (account (gathered (front ++ (column v ∷ back))) ss rs (size front) m)) (parts_cells m (column v ∷ back) (drop (size front) ss) (drop (size front) rs))
unfolding gathered size
account_hears [] back v m ss rs le =
    subst (λ (ts : List Event). Hears (ticks ts) (parts_cells m (column v ∷ back) ss rs)) (sym (starts v (gathered back) ss rs m)) (parts_hear (column v ∷ back) [] 0 m ss rs (omega (arith, le)))
account_hears (column w ∷ front) back v m ss rs le =
    front_hears 1 (gathered (front ++ (column v ∷ back))) (before w (gathered (front ++ (column v ∷ back)))) front back v m ss rs (past_column w (gathered (front ++ (column v ∷ back))) ss rs (size front) m)
    (account_hears front back v m (drop 1 ss) (drop 1 rs) (fewer_left 1 (size front) m rs le))
account_hears (pixels bytes ∷ front) back v m ss rs le =
    let n = 2 + length bytes / 3 in
    front_hears n (gathered (front ++ (column v ∷ back))) (video bytes ∷ gathered (front ++ (column v ∷ back))) front back v m ss rs
    (past (video bytes) (gathered (front ++ (column v ∷ back))) ss rs n (size front) (n + size front) m (video_size bytes) refl)
    (account_hears front back v m (drop n ss) (drop n rs) (fewer_left n (size front) m rs le))
account_hears (packets x ∷ front) back v m ss rs le =
    let n = 4 + 32 * length x.packets in
    front_hears n (gathered (front ++ (column v ∷ back))) (island x ∷ gathered (front ++ (column v ∷ back))) front back v m ss rs
    (past (island x) (gathered (front ++ (column v ∷ back))) ss rs n (size front) (n + size front) m (island_size x) refl)
    (account_hears front back v m (drop n ss) (drop n rs) (fewer_left n (size front) m rs le))
