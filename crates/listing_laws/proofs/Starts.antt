-- Where a control period of a raster ends: before a data island, in column 12 of a line, before a row, or at the very end.
-- So the twelve columns before an end are of one line, and have its VSYNC level.
use Rattle.std.proofs.Common.{◌≡◌, ℕ, zero, suc, ◌+◌, ◌-◌, ◌*◌, ◌/◌, ◌≤◌, Bool, true, false, List, [], ◌∷◌, ◌++◌, map, length, replicate, refl, sym, ap, ap₂, subst, ◌∙◌, append_assoc, arith, inl, inr, ◌⊎◌, length-append}
use Rattle.std.proofs.lemmas.Bool.{cases_lt}
use Rattle.std.proofs.lemmas.List.{get_or_append_left, get_or-append_right, get_or-replicate, length-replicate}
use Rattle.island_pack.specs.Periods.{DataIsland, Period, values_of}
use Rattle.island_pack.specs.declared.packet.Packet.{Packet}
use Rattle.island_pack.specs.Kinds.{Kind, control_column, pixel_column, packet_column, guard_pair, kinds_in, kinds_of, kind_at, EndsAt}
use Rattle.island_pack.proofs.Runs.{join_values}
use Rattle.link_laws.specs.Alternating.{IsMiddle, built}
use Rattle.link_laws.proofs.Shapes.{middle_video, middle_island, where_ends}
use Rattle.source_end.specs.declared.mode.Mode.{Mode}
use Rattle.source_end.specs.Raster.{Line, Part, column, pixels, packets, up_from, columns, sync_at, value_at, guard_at, sync, back, active, total, island_of, until, before, gathered}
use Rattle.source_end.specs.Gathering.{size}
use Rattle.source_end.proofs.Gathered.{size_append}
use Rattle.source_end.proofs.RasterSizes.{Fits, size_columns, size_until, length_packets}
use Rattle.listing_laws.proofs.Lines.{level_of, value_vsync, even_until, even_columns, sync_vsync, columns_split, Begins, begins_more, begins_columns}
use Rattle.listing_laws.proofs.Mute.{Mute, mute_append, mute_even, mute_pixels}

unfoldable pub kinds : List Part → List Kind
kinds [] = []
kinds (column v ∷ parts) = control_column ∷ kinds parts
kinds (pixels bytes ∷ parts) = (guard_pair ++ replicate (length bytes / 3) pixel_column) ++ kinds parts
kinds (packets x ∷ parts) = (guard_pair ++ (replicate (32 * length x.packets) packet_column ++ guard_pair)) ++ kinds parts

pub kinds_append : (xs ys : List Part) → kinds (xs ++ ys) ≡ kinds xs ++ kinds ys
unfolding kinds
kinds_append [] ys = refl
kinds_append (column v ∷ xs) ys = ap (λ (ks : List Kind). control_column ∷ ks) (kinds_append xs ys)
kinds_append (pixels bytes ∷ xs) ys = ap (λ (ks : List Kind). (guard_pair ++ replicate (length bytes / 3) pixel_column) ++ ks) (kinds_append xs ys) ∙ sym (append_assoc (guard_pair ++ replicate (length bytes / 3) pixel_column) (kinds xs) (kinds ys))
kinds_append (packets x ∷ xs) ys = ap (λ (ks : List Kind). (guard_pair ++ (replicate (32 * length x.packets) packet_column ++ guard_pair)) ++ ks) (kinds_append xs ys) ∙ sym (append_assoc (guard_pair ++ (replicate (32 * length x.packets) packet_column ++ guard_pair)) (kinds xs) (kinds ys))

before_kinds : (v : ℕ) (periods : List Period) → kinds_of (before v periods) ≡ control_column ∷ kinds_of periods
unfolding kinds_of kinds_in values_of
before_kinds v periods = grind (arith, join_values)

pub gathered_kinds : (parts : List Part) → kinds_of (gathered parts) ≡ kinds parts
unfolding gathered kinds kinds_of kinds_in
gathered_kinds [] = refl
gathered_kinds (column v ∷ parts) = before_kinds v (gathered parts) ∙ ap (λ (ks : List Kind). control_column ∷ ks) (gathered_kinds parts)
gathered_kinds (pixels bytes ∷ parts) = ap (λ (ks : List Kind). (guard_pair ++ replicate (length bytes / 3) pixel_column) ++ ks) (gathered_kinds parts)
gathered_kinds (packets x ∷ parts) = ap (λ (ks : List Kind). (guard_pair ++ (replicate (32 * length x.packets) packet_column ++ guard_pair)) ++ ks) (gathered_kinds parts)

up_kinds : (value : ℕ → ℕ) (n x : ℕ) → kinds (map (λ i. column (value i)) (up_from x n)) ≡ replicate n control_column
unfolding kinds
up_kinds value zero x = refl
up_kinds value (suc n) x = ap (λ (ks : List Kind). control_column ∷ ks) (up_kinds value n (suc x))

columns_kinds : (value : ℕ → ℕ) (x e : ℕ) → kinds (columns value x e) ≡ replicate (e - x) control_column
columns_kinds value x e = up_kinds value (e - x) x

-- no end lies in control columns before a control column
pub record EndsPast (rest : List Kind) (n i : ℕ) : Type 0 where
  pub at : ℕ
  pub place : i ≡ n + at
  pub ends : EndsAt rest at

past_columns : (n : ℕ) (rest : List Kind) (i : ℕ) → kind_at rest 0 ≡ control_column → EndsAt (replicate n control_column ++ rest) i → EndsPast rest n i
past_columns n rest i starts h = grind (arith, cases_lt, length-replicate, get_or-append_right, get_or_append_left, get_or-replicate)

-- The parts of a line from twelve columns before an end on.

pub record Found (b : Bool) (parts : List Part) (i : ℕ) : Type 0 where
  pub front : List Part
  pub mid : List Part
  pub are : parts ≡ front ++ mid
  pub place : size front + 11 ≡ i
  pub begins : Begins b mid
  pub mute : Mute b mid

abbrev pub Where : Bool → List Part → List Kind → ℕ → Type 0
Where b parts rest i = Found b parts i ⊎ EndsPast rest (size parts) i

-- the end is in column 12
at_twelve : (b : Bool) (parts : List Part) (i : ℕ) → i + 1 ≡ 12 → Begins b parts → Mute b parts → Found b parts i
unfolding size
at_twelve b parts i e begins mute = grind arith

length_island : (n : ℕ) → length (guard_pair ++ (replicate (32 * n) packet_column ++ guard_pair)) ≡ 4 + 32 * n
length_island n = let l = length-replicate (32 * n) packet_column in omega (arith, length-append (replicate (32 * n) packet_column) guard_pair, l)

island_middle : (x : DataIsland) (n : ℕ) → length x.packets ≡ n → 1 ≤ n → IsMiddle (guard_pair ++ (replicate (32 * n) packet_column ++ guard_pair))
unfolding kinds_in
island_middle x n e some = subst (λ (k : ℕ). IsMiddle (guard_pair ++ (replicate (32 * k) packet_column ++ guard_pair))) e (middle_island x (omega (arith, e, some)))

row_middle : (bytes : List ℕ) → 1 ≤ length bytes / 3 → IsMiddle (guard_pair ++ replicate (length bytes / 3) pixel_column)
unfolding kinds_in
row_middle bytes some = middle_video bytes some

-- the kinds of a line with packets, up to column e
until_kinds : (mode : Mode) (line : Line) (p : Packet) (ps : List Packet) (e : ℕ)
    → kinds (until mode line (p ∷ ps) e) ≡ replicate 12 control_column ++ ((guard_pair ++ (replicate (32 * length (p ∷ ps)) packet_column ++ guard_pair)) ++ replicate (e - (16 + 32 * length (p ∷ ps))) control_column)
unfolding kinds
until_kinds mode line p ps e = grind (arith, kinds_append, columns_kinds, length_packets)

begins_packets : (mode : Mode) (line : Line) (p : Packet) (ps : List Packet) (e : ℕ) → Begins (level_of mode line) (until mode line (p ∷ ps) e)
begins_packets mode line p ps e =
    begins_more (level_of mode line) (columns (value_at mode line true) 0 12) _ (begins_columns (level_of mode line) (value_at mode line true) (value_vsync mode line true) 0 12 (omega arith))

-- a line without a row
pub blank_ends : (mode : Mode) (line : Line) (ps : List Packet) (e : ℕ) → Fits (length ps) e → (rest : List Kind) (i : ℕ) → kind_at rest 0 ≡ control_column
    → EndsAt (kinds (until mode line ps e) ++ rest) i → Where (level_of mode line) (until mode line ps e) rest i
blank_ends mode line [] e fits rest i starts h =
    let k = past_columns (e - 0) rest i starts (subst (λ (ks : List Kind). EndsAt (ks ++ rest) i) (columns_kinds (value_at mode line false) 0 e) h) in
    inr (record { at = k.at; place = let s = size_until mode line [] e fits in omega (arith, k.place, s); ends = k.ends })
blank_ends mode line (p ∷ ps) e fits rest i starts h =
    let b = level_of mode line in
    let n = length (p ∷ ps) in
    let t = e - (16 + 32 * n) in
    let is : kinds (until mode line (p ∷ ps) e) ++ rest ≡ built 12 (guard_pair ++ (replicate (32 * n) packet_column ++ guard_pair)) (replicate t control_column ++ rest) =
    ap (λ (ks : List Kind). ks ++ rest) (until_kinds mode line p ps e)
    ∙ append_assoc (replicate 12 control_column) ((guard_pair ++ (replicate (32 * n) packet_column ++ guard_pair)) ++ replicate t control_column) rest
    ∙ ap (λ (ks : List Kind). replicate 12 control_column ++ ks) (append_assoc (guard_pair ++ (replicate (32 * n) packet_column ++ guard_pair)) (replicate t control_column) rest) in
    let k = where_ends 12 (guard_pair ++ (replicate (32 * n) packet_column ++ guard_pair)) (replicate t control_column ++ rest) i (island_middle (island_of mode line (p ∷ ps)) n (length_packets mode line 14 (p ∷ ps)) (omega arith)) (subst (λ (ks : List Kind). EndsAt ks i) is h) in
    elim k [
      | inl first ↦ inl (at_twelve b (until mode line (p ∷ ps) e) i first (begins_packets mode line p ps e) (mute_even b (until mode line (p ∷ ps) e) (even_until mode line (p ∷ ps) e)))
      | inr later ↦
          let q = past_columns t rest later.at starts later.ends in
          let s = size_until mode line (p ∷ ps) e fits in
          let l = length_island n in
          let f : 16 + 32 * n ≤ e = fits (omega arith) in
          inr (record { at = q.at; place = omega (arith, q.place, later.place, s, l, f); ends = q.ends })
    ]

-- A line with a row.

abbrev row_tail : Mode → Line → List ℕ → List Part
row_tail mode line bytes = pixels bytes ∷ columns (λ x. sync_at mode line x) (sync mode.across + back mode.across + active mode.across) (total mode.across)

mute_tail : (mode : Mode) (line : Line) (bytes : List ℕ) → Mute (level_of mode line) (row_tail mode line bytes)
mute_tail mode line bytes =
    mute_pixels (level_of mode line) bytes _ (mute_even (level_of mode line) (columns (λ x. sync_at mode line x) (sync mode.across + back mode.across + active mode.across) (total mode.across))
    (even_columns (level_of mode line) (λ x. sync_at mode line x) (sync mode.across + back mode.across + active mode.across) (total mode.across) (sync_vsync mode line)))

-- the twelve columns before column g, and the row
last_twelve : (mode : Mode) (line : Line) (has : Bool) (bytes : List ℕ) (front : List Part) (g i : ℕ) → 12 ≤ g → size front + 12 ≡ g → i + 1 ≡ g → (parts : List Part)
    → parts ≡ front ++ (columns (value_at mode line has) (g - 12) g ++ row_tail mode line bytes) → Found (level_of mode line) parts i
last_twelve mode line has bytes front g i le s e parts are =
    let b = level_of mode line in
    record {
      front = front;
      mid = columns (value_at mode line has) (g - 12) g ++ row_tail mode line bytes;
      are = are;
      place = omega (arith, s, e);
      begins = begins_more b (columns (value_at mode line has) (g - 12) g) _ (begins_columns b (value_at mode line has) (value_vsync mode line has) (g - 12) g (omega (arith, le)));
      mute = mute_append b (columns (value_at mode line has) (g - 12) g) _ (mute_even b (columns (value_at mode line has) (g - 12) g) (even_columns b (value_at mode line has) (g - 12) g (value_vsync mode line has))) (mute_tail mode line bytes);
    }

tail_kinds : (mode : Mode) (line : Line) (bytes : List ℕ) (rest : List Kind) → kinds (row_tail mode line bytes) ++ rest
    ≡ (guard_pair ++ replicate (length bytes / 3) pixel_column) ++ (replicate (total mode.across - (sync mode.across + back mode.across + active mode.across)) control_column ++ rest)
unfolding kinds
tail_kinds mode line bytes rest = grind (arith, append_assoc, columns_kinds)

length_row : (n : ℕ) → length (guard_pair ++ replicate n pixel_column) ≡ 2 + n
length_row n = let l = length-replicate n pixel_column in omega (arith, l)

size_island : (x : DataIsland) (parts : List Part) → size (packets x ∷ parts) ≡ 4 + 32 * length x.packets + size parts
unfolding size
size_island x parts = refl

-- packets, if there are any, leave room for twelve columns before the guard of a row
abbrev pub Leaves : Mode → ℕ → Type 0
Leaves mode n = 1 ≤ n → 28 + 32 * n ≤ guard_at mode

abbrev pub IsWide : Mode → Type 0
IsWide mode = 14 ≤ back mode.across

row_size : (mode : Mode) (line : Line) (ps : List Packet) (bytes : List ℕ) → Leaves mode (length ps)
    → size (until mode line ps (guard_at mode) ++ row_tail mode line bytes) ≡ guard_at mode + (2 + length bytes / 3 + (total mode.across - (sync mode.across + back mode.across + active mode.across)))
unfolding size
row_size mode line ps bytes leaves = grind (arith, size_append, size_until, size_columns)

pub row_ends : (mode : Mode) → IsWide mode → (line : Line) (ps : List Packet) → Leaves mode (length ps) → (bytes : List ℕ) → 1 ≤ length bytes / 3 → (rest : List Kind) (i : ℕ) → kind_at rest 0 ≡ control_column
    → EndsAt (kinds (until mode line ps (guard_at mode) ++ row_tail mode line bytes) ++ rest) i → Where (level_of mode line) (until mode line ps (guard_at mode) ++ row_tail mode line bytes) rest i
row_ends mode wide line [] leaves bytes some rest i starts h =
    let g = guard_at mode in
    let value = value_at mode line false in
    let t = total mode.across - (sync mode.across + back mode.across + active mode.across) in
    let mid = guard_pair ++ replicate (length bytes / 3) pixel_column in
    let is : kinds (columns value 0 g ++ row_tail mode line bytes) ++ rest ≡ built (g - 0) mid (replicate t control_column ++ rest) =
    ap (λ (ks : List Kind). ks ++ rest) (kinds_append (columns value 0 g) (row_tail mode line bytes))
    ∙ append_assoc (kinds (columns value 0 g)) (kinds (row_tail mode line bytes)) rest
    ∙ ap₂ (λ (xs ys : List Kind). xs ++ ys) (columns_kinds value 0 g) (tail_kinds mode line bytes rest) in
    let s = row_size mode line [] bytes leaves in
    let l = length_row (length bytes / 3) in
    elim (where_ends (g - 0) mid (replicate t control_column ++ rest) i (row_middle bytes some) (subst (λ (ks : List Kind). EndsAt ks i) is h)) [
      | inl first ↦ inl (last_twelve mode line false bytes (columns value 0 (g - 12)) g i (omega (arith, wide)) (let z = size_columns value 0 (g - 12) in omega (arith, z, wide)) (omega (arith, first)) (columns value 0 g ++ row_tail mode line bytes)
          (ap (λ (ps : List Part). ps ++ row_tail mode line bytes) (columns_split value 0 (g - 12) g (omega arith) (omega arith))
          ∙ append_assoc (columns value 0 (g - 12)) (columns value (g - 12) g) (row_tail mode line bytes)))
      | inr later ↦
          let q = past_columns t rest later.at starts later.ends in
          inr (record { at = q.at; place = omega (arith, q.place, later.place, s, l); ends = q.ends })
    ]
row_ends mode wide line (p ∷ ps) leaves bytes some rest i starts h =
    let g = guard_at mode in
    let b = level_of mode line in
    let n = length (p ∷ ps) in
    let value = value_at mode line true in
    let t = total mode.across - (sync mode.across + back mode.across + active mode.across) in
    let t1 = g - (16 + 32 * n) in
    let isl = guard_pair ++ (replicate (32 * n) packet_column ++ guard_pair) in
    let mid = guard_pair ++ replicate (length bytes / 3) pixel_column in
    let whole_line = until mode line (p ∷ ps) g ++ row_tail mode line bytes in
    let is : kinds whole_line ++ rest ≡ built 12 isl (built t1 mid (replicate t control_column ++ rest)) =
    ap (λ (ks : List Kind). ks ++ rest) (kinds_append (until mode line (p ∷ ps) g) (row_tail mode line bytes))
    ∙ append_assoc (kinds (until mode line (p ∷ ps) g)) (kinds (row_tail mode line bytes)) rest
    ∙ ap₂ (λ (xs ys : List Kind). xs ++ ys) (until_kinds mode line p ps g) (tail_kinds mode line bytes rest)
    ∙ append_assoc (replicate 12 control_column) (isl ++ replicate t1 control_column) (mid ++ (replicate t control_column ++ rest))
    ∙ ap (λ (ks : List Kind). replicate 12 control_column ++ ks) (append_assoc isl (replicate t1 control_column) (mid ++ (replicate t control_column ++ rest))) in
    let s = row_size mode line (p ∷ ps) bytes leaves in
    let l = length_row (length bytes / 3) in
    let m = length_island n in
    let f : 28 + 32 * n ≤ g = leaves (omega arith) in
    elim (where_ends 12 isl (built t1 mid (replicate t control_column ++ rest)) i (island_middle (island_of mode line (p ∷ ps)) n (length_packets mode line 14 (p ∷ ps)) (omega arith)) (subst (λ (ks : List Kind). EndsAt ks i) is h)) [
      | inl first ↦ inl (at_twelve b whole_line i first (begins_more b (until mode line (p ∷ ps) g) _ (begins_packets mode line p ps g))
          (mute_append b (until mode line (p ∷ ps) g) _ (mute_even b (until mode line (p ∷ ps) g) (even_until mode line (p ∷ ps) g)) (mute_tail mode line bytes)))
      | inr later ↦ elim (where_ends t1 mid (replicate t control_column ++ rest) later.at (row_middle bytes some) later.ends) [
        | inl first ↦
            let front = columns value 0 12 ++ (packets (island_of mode line (p ∷ ps)) ∷ columns value (16 + 32 * n) (g - 12)) in
            let a = size_append (columns value 0 12) (packets (island_of mode line (p ∷ ps)) ∷ columns value (16 + 32 * n) (g - 12)) in
            let c = size_columns value 0 12 in
            let d = size_island (island_of mode line (p ∷ ps)) (columns value (16 + 32 * n) (g - 12)) in
            let k = size_columns value (16 + 32 * n) (g - 12) in
            let q = length_packets mode line 14 (p ∷ ps) in
            let split = columns_split value (16 + 32 * n) (g - 12) g (omega (arith, f)) (omega arith) in
            inl (last_twelve mode line true bytes front g i (omega (arith, f)) (omega (arith, a, c, d, k, q, f)) (omega (arith, first, later.place, m, f)) whole_line
            (ap (λ (cs : List Part). (columns value 0 12 ++ (packets (island_of mode line (p ∷ ps)) ∷ cs)) ++ row_tail mode line bytes) split
            ∙ ap (λ (cs : List Part). cs ++ row_tail mode line bytes) (sym (append_assoc (columns value 0 12) (packets (island_of mode line (p ∷ ps)) ∷ columns value (16 + 32 * n) (g - 12)) (columns value (g - 12) g)))
            ∙ append_assoc front (columns value (g - 12) g) (row_tail mode line bytes)))
        | inr last ↦
            let q = past_columns t rest last.at starts last.ends in
            inr (record { at = q.at; place = omega (arith, q.place, last.place, later.place, s, l, m, f); ends = q.ends })
      ]
    ]
