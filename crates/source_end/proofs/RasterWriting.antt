-- Lines that are written one after another.
use Rattle.std.proofs.Common.{◌≡◌, ℕ, zero, suc, ◌+◌, ◌*◌, ◌/◌, ◌^◌, ◌<◌, ◌≤◌, Bool, true, false, ◌&&◌, ◌==◌, get_or, min, List, [], ◌∷◌, ◌++◌, map, length, take, drop, replicate, refl, sym, ap, ap₂, ◌∙◌, append_assoc, append-nil, arith, mul-le-mul_right}
use Rattle.std.proofs.lemmas.List.{map-append, drop_all, take_min, length-take, replicate-append-replicate}
use Rattle.std.proofs.lemmas.Bool.{cases_lt, eqb-true}
use Rattle.tmds_word.proofs.Below.{and-left, and-right}
use Rattle.island_pack.specs.declared.packet.Packet.{Packet}
use Rattle.island_pack.specs.declared.ranges.TheConstants.{COLUMN_LIMIT}
use Rattle.source_end.specs.declared.mode.Mode.{Mode}
use Rattle.source_end.specs.Content.{Frame}
use Rattle.source_end.specs.Raster.{Line, Part, pixels, blank, row_line, room, sync, back, front, total, whole, laid, lines_of, parts_of, final_columns}
use Rattle.source_end.specs.Lines.{lead, lead_end, left}
use Rattle.source_end.specs.Gathering.{size}
use Rattle.source_end.proofs.Gathered.{size_append}
use Rattle.source_end.proofs.RasterModes.{IsMode, AreRows, AreFrames}
use Rattle.source_end.proofs.RasterSizes.{parts, more_times, size_frame, size_columns, length_packets, laid_append, parts_first, parts_none}

-- Packets that are taken.

pub take_taken : (n m : ℕ) (ps : List Packet) → m ≡ min (length ps) n → take m ps ≡ take n ps
take_taken n m ps e =
    let d : m ≡ min n (length ps) = omega (arith, e) in
    ap (λ (k : ℕ). take k ps) d ∙ take_min n ps

pub drop_taken : (n m : ℕ) (ps : List Packet) → m ≡ min (length ps) n → drop m ps ≡ drop n ps
drop_taken n m ps e = grind (arith, cases_lt, drop_all)

size_none : size [] ≡ 0
unfolding size
size_none = refl

pub size_lead : (mode : Mode) (line : Line) (ps : List Packet) → size (lead mode line ps) ≡ lead_end ps
unfolding size
size_lead mode line ps = grind (arith, size_none, size_append, size_columns, length_packets)

pub size_pixels : (row : List ℕ) → size (pixels row ∷ []) ≡ 2 + length row / 3
unfolding size
size_pixels row = omega arith

-- One line more.

left_append : (mode : Mode) (xs ys : List Line) (ps : List Packet) → left mode (xs ++ ys) ps ≡ left mode ys (left mode xs ps)
unfolding left
left_append mode [] ys ps = refl
left_append mode (x ∷ xs) ys ps = left_append mode xs ys (drop (room mode x) ps)

pub laid_more : (mode : Mode) (lines : List Line) (line : Line) (ps : List Packet) → laid mode (lines ++ line ∷ []) ps ≡ laid mode lines ps ++ whole mode line (take (room mode line) (left mode lines ps)) line.row
unfolding laid
laid_more mode lines line ps = grind (arith, laid_append, append-nil)

pub left_more : (mode : Mode) (lines : List Line) (line : Line) (ps : List Packet) → left mode (lines ++ line ∷ []) ps ≡ drop (room mode line) (left mode lines ps)
unfolding left
left_more mode lines line ps = grind (arith, left_append)

pub none_laid : (mode : Mode) (ps : List Packet) → laid mode [] ps ≡ []
unfolding laid
none_laid mode ps = refl

pub none_left : (mode : Mode) (ps : List Packet) → left mode [] ps ≡ ps
unfolding left
none_left mode ps = refl

pub one_blank : (n : ℕ) (v : Bool) → replicate (n + 1) (blank v) ≡ replicate n (blank v) ++ blank v ∷ []
one_blank n v = sym (replicate-append-replicate n 1 (blank v))

pub one_row : (rows : List (List ℕ)) (row : List ℕ) → map row_line (rows ++ row ∷ []) ≡ map row_line rows ++ row_line row ∷ []
one_row rows row = map-append row_line rows (row ∷ [])

-- a line more takes its packets of those that are left
pub record Step (mode : Mode) (lines : List Line) (line : Line) (ps front back : List Packet) : Type 0 where
  pub rest : back ≡ left mode (lines ++ line ∷ []) ps
  pub parts : laid mode lines ps ++ whole mode line front line.row ≡ laid mode (lines ++ line ∷ []) ps

pub step : (mode : Mode) (lines : List Line) (line : Line) (ps rest front back : List Packet) (m : ℕ) → rest ≡ left mode lines ps → m ≡ min (length rest) (room mode line) → front ≡ take m rest → back ≡ drop m rest → Step mode lines line ps front back
step mode lines line ps rest front back m e n f b = grind (arith, drop_taken, left_more, parts, take_taken, laid_more)

pub one_time : (n t : ℕ) → (n + 1) * t ≡ n * t + t
one_time n t = grind arith

-- Rows.

pub rows_take : (w i : ℕ) (rows : List (List ℕ)) → AreRows w rows → AreRows w (take i rows)
rows_take w zero rows h = refl
rows_take w (suc i) [] h = refl
rows_take w (suc i) (row ∷ rows) h = ap₂ (λ (a b : Bool). a && b) (and-left (length row == 3 * w) _ h) (rows_take w i rows (and-right (length row == 3 * w) _ h))

pub row_at : (w i : ℕ) (rows : List (List ℕ)) (d : List ℕ) → AreRows w rows → i < length rows → length (get_or rows i d) ≡ 3 * w
row_at w i [] d h lt = absurd (omega arith)
row_at w zero (row ∷ rows) d h lt = eqb-true (length row) (3 * w) (and-left (length row == 3 * w) _ h)
row_at w (suc i) (row ∷ rows) d h lt = let less : i < length rows = omega arith in row_at w i rows d (and-right (length row == 3 * w) _ h) less

-- Frames.

unfoldable pub bodies : Mode → List Frame → List Part
bodies mode [] = []
bodies mode (f ∷ frames) = laid mode (lines_of mode f) f.packets ++ bodies mode frames

pub none_bodies : (mode : Mode) → bodies mode [] ≡ []
unfolding bodies
none_bodies mode = refl

pub bodies_more : (mode : Mode) (frames : List Frame) (f : Frame) → bodies mode (frames ++ f ∷ []) ≡ bodies mode frames ++ laid mode (lines_of mode f) f.packets
unfolding bodies
bodies_more mode [] f = append-nil (laid mode (lines_of mode f) f.packets)
bodies_more mode (g ∷ frames) f =
    ap (λ (ps : List Part). laid mode (lines_of mode g) g.packets ++ ps) (bodies_more mode frames f) ∙ sym (append_assoc (laid mode (lines_of mode g) g.packets) (bodies mode frames) (laid mode (lines_of mode f) f.packets))

pub parts_bodies : (mode : Mode) (frames : List Frame) → bodies mode frames ++ final_columns mode ≡ parts_of mode frames
unfolding bodies
parts_bodies mode [] = sym (parts_none mode)
parts_bodies mode (f ∷ frames) = grind (arith, append_assoc, parts_first, parts_bodies mode frames)

pub frames_take : (mode : Mode) (i : ℕ) (frames : List Frame) → AreFrames mode frames → AreFrames mode (take i frames)
frames_take mode zero frames h = tt
frames_take mode (suc i) [] h = tt
frames_take mode (suc i) (f ∷ frames) h = (h.0, frames_take mode i frames h.1)

pub size_bodies : (mode : Mode) → IsMode mode → (frames : List Frame) → AreFrames mode frames → size (bodies mode frames) ≡ length frames * (total mode.across * total mode.down)
unfolding bodies
size_bodies mode ok [] are = size_none ∙ omega arith
size_bodies mode ok (f ∷ frames) are = grind (arith, size_append, size_frame, more_times, size_bodies mode ok frames)

-- the frames so far, and one more, are no more columns than all
pub few_so_far : (mode : Mode) → IsMode mode → (frames : List Frame) → AreFrames mode frames → (i : ℕ) → i < length frames → length frames * (total mode.across * total mode.down) + 32 ≤ COLUMN_LIMIT → size (bodies mode (take i frames)) + total mode.across * total mode.down < 2 ^ 32
few_so_far mode ok frames are i lt few =
    let a = total mode.across * total mode.down in
    let s = size_bodies mode ok (take i frames) (frames_take mode i frames are) in
    let long : length (take i frames) ≡ i = omega (arith, length-take i frames, lt) in
    let t = ap (λ (n : ℕ). n * a) long in
    let sum = one_time i a in
    let next : i + 1 ≤ length frames = omega (arith, lt) in
    let most = mul-le-mul_right a next in
    omega (arith, s, t, sum, most, few)

pub few_at_end : (mode : Mode) → IsMode mode → (frames : List Frame) → AreFrames mode frames → length frames * (total mode.across * total mode.down) + 32 ≤ COLUMN_LIMIT → size (bodies mode frames) + 32 < 2 ^ 32
few_at_end mode ok frames are few = omega (arith, size_bodies mode ok frames are, few)

-- Parts in a row.

pub five : (p a b d x e : List Part) → ((((p ++ a) ++ b) ++ d) ++ x) ++ e ≡ p ++ (a ++ (b ++ (d ++ (x ++ e))))
five p a b d x e = simp append_assoc

pub four : (p a b d e : List Part) → (((p ++ a) ++ b) ++ d) ++ e ≡ p ++ (a ++ (b ++ (d ++ e)))
four p a b d e = simp append_assoc

pub frame_parts : (mode : Mode) (f : Frame) (n1 n2 n3 : ℕ) (rows : List (List ℕ)) (p1 r1 r2 r3 : List Packet)
    → n1 ≡ sync mode.down → n2 ≡ back mode.down → n3 ≡ front mode.down → rows ≡ f.rows → p1 ≡ f.packets
    → r1 ≡ left mode (replicate n1 (blank true)) p1 → r2 ≡ left mode (replicate n2 (blank false)) r1 → r3 ≡ left mode (map row_line rows) r2
    → laid mode (replicate n1 (blank true)) p1 ++ (laid mode (replicate n2 (blank false)) r1 ++ (laid mode (map row_line rows) r2 ++ laid mode (replicate n3 (blank false)) r3)) ≡ laid mode (lines_of mode f) f.packets
frame_parts mode f n1 n2 n3 rows p1 r1 r2 r3 e1 e2 e3 e4 e5 d1 d2 d3 = let whole = parts mode f in cc
