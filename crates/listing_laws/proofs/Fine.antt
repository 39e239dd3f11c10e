-- Where damage is sparse no column is a third wrong one among eleven.
use Rattle.std.proofs.Common.{◌≡◌, ℕ, zero, suc, ◌+◌, ◌-◌, ◌*◌, ◌/◌, ◌≤◌, Bool, true, false, not, ◌&&◌, ◌||◌, ◌==◌, List, [], ◌∷◌, ◌++◌, length, take, drop, refl, sym, ap, ap₂, subst, ◌∙◌, arith}
use Rattle.std.specs.Prelude.{nat_lt}
use Rattle.std.proofs.lemmas.Bool.{le-leb, leb-true, eqb-true}
use Rattle.std.proofs.lemmas.List.{drop-drop}
use Rattle.tmds_word.proofs.Below.{and-left, and-right, passes_below, passes_at}
use Rattle.tmds_word.specs.Column.{Column, blues}
use Rattle.terc4.specs.Tables.{control_words, value_in}
use Rattle.terc4.specs.Columns.{one_if}
use Rattle.island_pack.specs.Periods.{DataIsland, Pixel, pixels_of}
use Rattle.island_pack.specs.Spelling.{control_column}
use Rattle.island_pack.specs.Sparse.{unlike_words, AreFew}
use Rattle.period_grammar.specs.Column.{control_bits, value_of}
use Rattle.frame_build.specs.FrameEvent.{vsync_of}
use Rattle.std.proofs.lemmas.Bool.{ltb-true}
use Rattle.source_end.specs.Raster.{Part, column, pixels, packets}
use Rattle.listing_laws.proofs.Cells.{Cell, pixels as pixels_cell, parted, wrongs, few, same, same_self, fine}
use Rattle.listing_laws.proofs.Parts.{row_cells, gap_cells, part_cells, parts_cells, parts_none}
use Rattle.listing_laws.proofs.Accounted.{cells_first}
use Rattle.listing_laws.proofs.Arrived.{Arrived, drop_front}

-- whether the word of lane 0 of each column was received unlike
unfoldable pub flags : List Column → List Column → List Bool
flags (s ∷ ss) (r ∷ rs) = not (s.blue == r.blue) ∷ flags ss rs
flags _ _ = []

-- none is a third among eleven; hs are those before, the newest first
unfoldable pub sparse : List Bool → List Bool → Bool
sparse hs [] = true
sparse hs (f ∷ fs) = (not f || few hs) && sparse (f ∷ hs) fs

abbrev count : List Bool → ℕ
count [] = 0
count (f ∷ fs) = one_if f + count fs

abbrev onto : List Bool → List Bool → List Bool
onto [] ys = ys
onto (h ∷ hs) ys = onto hs (h ∷ ys)

length_onto : (hs ys : List Bool) → length (onto hs ys) ≡ length hs + length ys
length_onto [] ys = omega arith
length_onto (h ∷ hs) ys = let e = length_onto hs (h ∷ ys) in omega (arith, e)

drop_onto : (hs ys : List Bool) → drop (length hs) (onto hs ys) ≡ ys
drop_onto [] ys = refl
drop_onto (h ∷ hs) ys =
    let e : length (h ∷ hs) ≡ 1 + length hs = omega arith in
    ap (λ (k : ℕ). drop k (onto hs (h ∷ ys))) e ∙ sym (drop-drop 1 (length hs) (onto hs (h ∷ ys)) ∙ ap (λ (k : ℕ). drop k (onto hs (h ∷ ys))) (let d : length hs + 1 ≡ 1 + length hs = omega arith in d)) ∙ ap (drop 1) (drop_onto hs (h ∷ ys))

more_counted : (j k : ℕ) (ys : List Bool) → count (take j ys) ≤ count (take (j + k) ys)
more_counted zero k ys = omega arith
more_counted (suc j) k [] = omega arith
more_counted (suc j) k (y ∷ ys) =
    let e : suc j + k ≡ suc (j + k) = omega arith in
    let h = more_counted j k ys in
    subst (λ (n : ℕ). one_if y + count (take j ys) ≤ count (take n (y ∷ ys))) (sym e) (omega (arith, h))

-- a window has the wrong ones before a place, and those after it
window : (hs ys : List Bool) (j k : ℕ) → count (take j ys) + wrongs k hs ≤ count (take (j + k) (drop (length hs - k) (onto hs ys)))
window hs ys j zero =
    let e : j ≡ j + 0 = omega arith in
    let d : length hs ≡ length hs - 0 = omega arith in
    grind (arith, drop_onto)
window [] ys j (suc k) = grind (arith, more_counted)
window (h ∷ hs) ys j (suc k) =
    let i = window hs (h ∷ ys) (suc j) k in
    grind (arith, wrongs)

abbrev Windows : List Bool → Type 0
Windows fs = (i : ℕ) → i + 11 ≤ length fs → count (take 11 (drop i fs)) ≤ 2

one_true : (fs : List Bool) → count (take 1 (true ∷ fs)) ≡ 1
unfolding one_if
one_true fs = grind arith

-- one that is wrong is not the third
not_third : (hs fs : List Bool) (f : Bool) → Windows (onto hs (f ∷ fs)) → 11 ≤ length (onto hs (f ∷ fs)) → (not f || few hs) ≡ true
not_third hs fs false w long = refl
not_third hs fs true w long =
    let i = window hs (true ∷ fs) 1 10 in
    let l = length_onto hs (true ∷ fs) in
    let q = w (length hs - 10) (omega (arith, l, long)) in
    le-leb (wrongs 10 hs) 1 (omega (arith, i, q, one_true fs))

sparse_from : (fs hs : List Bool) → Windows (onto hs fs) → 11 ≤ length (onto hs fs) → sparse hs fs ≡ true
unfolding sparse
sparse_from [] hs w long = refl
sparse_from (f ∷ fs) hs w long = ap₂ (λ (a b : Bool). a && b) (not_third hs fs f w long) (sparse_from fs (f ∷ hs) w long)

-- The words of lane 0.

no_flags : (ss : List Column) → flags ss [] ≡ []
unfolding flags
no_flags [] = refl
no_flags (s ∷ ss) = refl

same_flags : (ss rs : List Column) (n : ℕ) → flags (drop n ss) (drop n rs) ≡ drop n (flags ss rs)
unfolding flags
same_flags ss rs zero = refl
same_flags [] [] (suc n) = refl
same_flags [] (r ∷ rs) (suc n) = refl
same_flags (s ∷ ss) [] (suc n) = no_flags (drop n ss)
same_flags (s ∷ ss) (r ∷ rs) (suc n) = same_flags ss rs n

taken_flags : (n : ℕ) (ss rs : List Column) → count (take n (flags ss rs)) ≡ unlike_words (take n (blues ss)) (take n (blues rs))
unfolding flags unlike_words
taken_flags zero ss rs = refl
taken_flags (suc n) [] rs = refl
taken_flags (suc n) (s ∷ ss) [] = refl
taken_flags (suc n) (s ∷ ss) (r ∷ rs) = ap (λ (k : ℕ). one_if (not (s.blue == r.blue)) + k) (taken_flags n ss rs)

drop_blues : (n : ℕ) (cs : List Column) → drop n (blues cs) ≡ blues (drop n cs)
drop_blues zero cs = refl
drop_blues (suc n) [] = refl
drop_blues (suc n) (c ∷ cs) = drop_blues n cs

length_flags : (ss rs : List Column) → length rs ≡ length ss → length (flags ss rs) ≡ length ss
unfolding flags
length_flags [] [] e = refl
length_flags [] (r ∷ rs) e = absurd (omega (arith, e))
length_flags (s ∷ ss) [] e = absurd (omega (arith, e))
length_flags (s ∷ ss) (r ∷ rs) e = ap (λ k. suc k) (length_flags ss rs (omega (arith, e)))

length_blues : (cs : List Column) → length (blues cs) ≡ length cs
length_blues [] = refl
length_blues (c ∷ cs) = ap (λ k. suc k) (length_blues cs)

windows : (ss rs : List Column) → length rs ≡ length ss → AreFew (blues ss) (blues rs) → Windows (flags ss rs)
windows ss rs same h i le =
    let k = h i (omega (arith, le, length_flags ss rs same, length_blues ss)) in
    let e : count (take 11 (drop i (flags ss rs))) ≡ unlike_words (take 11 (drop i (blues ss))) (take 11 (drop i (blues rs))) =
    ap (λ (fs : List Bool). count (take 11 fs)) (sym (same_flags ss rs i)) ∙ taken_flags 11 (drop i ss) (drop i rs)
    ∙ ap₂ (λ (xs ys : List ℕ). unlike_words (take 11 xs) (take 11 ys)) (sym (drop_blues i ss)) (sym (drop_blues i rs)) in
    omega (arith, e, k)

pub flags_sparse : (ss rs : List Column) → length rs ≡ length ss → 11 ≤ length ss → AreFew (blues ss) (blues rs) → sparse [] (flags ss rs) ≡ true
flags_sparse ss rs same long h = sparse_from (flags ss rs) [] (windows ss rs same h) (let l = length_flags ss rs same in omega (arith, l, long))

-- from a column on, after some
pub record SparseFrom (fs : List Bool) : Type 0 where
  pub before : List Bool
  pub sparse_after : sparse before fs ≡ true

pub sparse_drop : (n : ℕ) (fs hs : List Bool) → sparse hs fs ≡ true → SparseFrom (drop n fs)
unfolding sparse
sparse_drop zero fs hs h = record { before = hs; sparse_after = h }
sparse_drop (suc n) [] hs h = record { before = hs; sparse_after = refl }
sparse_drop (suc n) (f ∷ fs) hs h = sparse_drop n fs (f ∷ hs) (and-right (not f || few hs) _ h)

pub sparse_on : (n : ℕ) (ss rs : List Column) → SparseFrom (flags ss rs) → SparseFrom (flags (drop n ss) (drop n rs))
sparse_on n ss rs h = subst (λ (fs : List Bool). SparseFrom fs) (sym (same_flags ss rs n)) (sparse_drop n (flags ss rs) h.before h.sparse_after)

-- Cells.

-- each that is wrong is wrong among these too
abbrev within : List Bool → List Bool → Bool
within [] hs = true
within (r ∷ rs) [] = false
within (r ∷ rs) (h ∷ hs) = (not r || h) && within rs hs

fewer_wrong : (n : ℕ) (rs hs : List Bool) → within rs hs ≡ true → wrongs n rs ≤ wrongs n hs
unfolding one_if
fewer_wrong zero rs hs h = omega arith
fewer_wrong (suc n) [] hs h = omega arith
fewer_wrong (suc n) (r ∷ rs) [] h = absurd cc
fewer_wrong (suc n) (true ∷ rs) (true ∷ hs) h = let k = fewer_wrong n rs hs h in omega (arith, k)
fewer_wrong (suc n) (true ∷ rs) (false ∷ hs) h = absurd cc
fewer_wrong (suc n) (false ∷ rs) (true ∷ hs) h = let k = fewer_wrong n rs hs h in omega (arith, k)
fewer_wrong (suc n) (false ∷ rs) (false ∷ hs) h = let k = fewer_wrong n rs hs h in omega (arith, k)

few_within : (rs hs : List Bool) → within rs hs ≡ true → few hs ≡ true → few rs ≡ true
few_within rs hs h f =
    let k = fewer_wrong 10 rs hs h in
    let l = leb-true (wrongs 10 hs) 1 f in
    le-leb (wrongs 10 rs) 1 (omega (arith, k, l))

pub value_test : passes_below 64 (λ v. value_of (control_column v) == v) ≡ true
unfolding passes_below control_words value_in value_of control_bits
value_test = refl

pub value_back : (v : ℕ) → nat_lt v 64 ≡ true → value_of (control_column v) ≡ v
value_back v h = eqb-true (value_of (control_column v)) v (passes_at 64 (λ v. value_of (control_column v) == v) v value_test (ltb-true v 64 h))

same_level : (v : ℕ) (c : Column) → nat_lt v 64 ≡ true → (control_column v).blue ≡ c.blue → vsync_of (value_of c) ≡ vsync_of v
unfolding value_of
same_level v c small e = grind (arith, value_back)

record IsColumn (b l f : Bool) (rs hs : List Bool) : Type 0 where
  head : (same b l || few rs) ≡ true
  rest : within (not (same b l) ∷ rs) (f ∷ hs) ≡ true

column_fine : (v : ℕ) (c : Column) (rs hs : List Bool) (t : Bool) → ((control_column v).blue == c.blue) ≡ t → nat_lt v 64 ≡ true → within rs hs ≡ true → (not (not t) || few hs) ≡ true
    → IsColumn (vsync_of v) (vsync_of (value_of c)) (not t) rs hs
column_fine v c rs hs t h k l m = grind (arith, same, same_level, eqb-true, same_self, few, few_within)

gap_first : (recent : List Bool) (cs : List Cell) → fine [] cs ≡ true → fine recent (parted ∷ cs) ≡ true
unfolding fine
gap_first recent cs h = h

pub row_first_cells : (bytes : List ℕ) (parts : List Part) (m : ℕ) (ss rs : List Column) → parts_cells m (pixels bytes ∷ parts) ss rs
    ≡ row_cells m (pixels_of bytes) (take (2 + length bytes / 3) ss) (take (2 + length bytes / 3) rs) ++ parts_cells (m - (2 + length bytes / 3)) parts (drop (2 + length bytes / 3) ss) (drop (2 + length bytes / 3) rs)
unfolding parts_cells part_cells
row_first_cells bytes parts m ss rs = refl

pub island_first_cells : (x : DataIsland) (parts : List Part) (m : ℕ) (ss rs : List Column) → parts_cells m (packets x ∷ parts) ss rs
    ≡ gap_cells m ++ parts_cells (m - (4 + 32 * length x.packets)) parts (drop (4 + 32 * length x.packets) ss) (drop (4 + 32 * length x.packets) rs)
unfolding parts_cells part_cells
island_first_cells x parts m ss rs = refl

abbrev IsFine : List Bool → List Part → ℕ → List Column → List Column → Type 0
IsFine rs parts m sent received = fine rs (parts_cells m parts sent received) ≡ true

first_fine : (v : ℕ) (parts : List Part) (m : ℕ) (c : Column) (sent received : List Column) (rs hs : List Bool) → nat_lt v 64 ≡ true → within rs hs ≡ true
    → sparse hs (flags (control_column v ∷ sent) (c ∷ received)) ≡ true
    → ((ts gs : List Bool) → within ts gs ≡ true → sparse gs (flags sent received) ≡ true → IsFine ts parts m sent received)
    → IsFine rs (column v ∷ parts) (suc m) (control_column v ∷ sent) (c ∷ received)
unfolding fine flags sparse
first_fine v parts m c sent received rs hs small w h later =
    let f = not ((control_column v).blue == c.blue) in
    let k = column_fine v c rs hs ((control_column v).blue == c.blue) refl small w (and-left (not f || few hs) _ h) in
    ap (fine rs) (cells_first v parts m (control_column v ∷ sent) c received)
    ∙ ap₂ (λ (a b : Bool). a && b) k.head (later (not (same (vsync_of v) (vsync_of (value_of c))) ∷ rs) (f ∷ hs) k.rest (and-right (not f || few hs) (sparse (f ∷ hs) (flags sent received)) h))

row_fine : (m : ℕ) (ps : List Pixel) (ss rs : List Column) (recent : List Bool) (cs : List Cell) → fine [] cs ≡ true → fine recent (row_cells (suc m) ps ss rs ++ cs) ≡ true
unfolding fine
row_fine m ps ss rs recent cs h = grind (arith, fine, pixels_cell, parted, gap_first)

island_fine : (m : ℕ) (recent : List Bool) (cs : List Cell) → fine [] cs ≡ true → fine recent (gap_cells (suc m) ++ cs) ≡ true
island_fine m recent cs h = gap_first recent cs h

cells_fine : (parts : List Part) (m : ℕ) (ss rs : List Column) → Arrived parts ss rs → (recent hs : List Bool) → within recent hs ≡ true → sparse hs (flags ss rs) ≡ true → IsFine recent parts m ss rs
unfolding Arrived parts_cells fine
cells_fine parts zero ss rs a recent hs w h = grind (arith, fine, parts_none)
cells_fine [] (suc m) ss rs a recent hs w h = grind arith
cells_fine (column v ∷ parts) (suc m) ss rs a recent hs w h = grind (arith, first_fine, cells_fine parts m)
cells_fine (pixels bytes ∷ parts) (suc m) ss rs a recent hs w h =
    let n = 2 + length bytes / 3 in
    let s = sparse_on n ss rs (record { before = hs; sparse_after = h }) in
    let d = ap (drop n) a.4 ∙ drop_front n a.0 a.2 a.6.sent in
    let r = ap (drop n) a.5 ∙ drop_front n a.1 a.3 a.6.received in
    let there = subst (λ (xs : List Column). Arrived parts (drop n ss) xs) (sym r) (subst (λ (xs : List Column). Arrived parts xs a.3) (sym d) a.7) in
    ap (fine recent) (row_first_cells bytes parts (suc m) ss rs)
    ∙ row_fine m (pixels_of bytes) (take n ss) (take n rs) recent (parts_cells (suc m - n) parts (drop n ss) (drop n rs)) (cells_fine parts (suc m - n) (drop n ss) (drop n rs) there [] s.before refl s.sparse_after)
cells_fine (packets x ∷ parts) (suc m) ss rs a recent hs w h =
    let n = 4 + 32 * length x.packets in
    let s = sparse_on n ss rs (record { before = hs; sparse_after = h }) in
    let d = ap (drop n) a.4 ∙ drop_front n a.0 a.2 a.6.sent in
    let r = ap (drop n) a.5 ∙ drop_front n a.1 a.3 a.6.received in
    let there = subst (λ (xs : List Column). Arrived parts (drop n ss) xs) (sym r) (subst (λ (xs : List Column). Arrived parts xs a.3) (sym d) a.7) in
    ap (fine recent) (island_first_cells x parts (suc m) ss rs)
    ∙ island_fine m recent (parts_cells (suc m - n) parts (drop n ss) (drop n rs)) (cells_fine parts (suc m - n) (drop n ss) (drop n rs) there [] s.before refl s.sparse_after)

-- what is seen of parts, from a gap or the start on
pub parts_fine : (parts : List Part) (m : ℕ) (ss rs : List Column) → Arrived parts ss rs → SparseFrom (flags ss rs) → fine [] (parts_cells m parts ss rs) ≡ true
parts_fine parts m ss rs a h = cells_fine parts m ss rs a [] h.before refl h.sparse_after
