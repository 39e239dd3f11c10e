-- A raster that is given frame by frame: the periods that were taken out, the parts that a gathering still has, and
-- those to follow.
use Rattle.std.proofs.Common.{◌≡◌, ℕ, ◌+◌, ◌*◌, ◌^◌, ◌<◌, ◌≤◌, true, List, [], ◌∷◌, ◌++◌, map, length, take, replicate, None, refl, sym, ap, ap₂, subst, ◌∙◌, append_assoc, append-nil, length-append, arith}
use Rattle.std.specs.Prelude.{IsTrue}
use Rattle.std.specs.List.{list_all}
use Rattle.std.proofs.Math.Seq.{take-append_seam}
use Rattle.std.proofs.lemmas.List.{nil_from_length}
use Rattle.std.proofs.lemmas.List.Folds.{list_all-append}
use Rattle.tmds_word.specs.Column.{Column}
use Rattle.terc4.specs.Columns.{one_if}
use Rattle.island_pack.specs.Periods.{Period, columns_of}
use Rattle.island_pack.specs.Spelling.{Spells}
use Rattle.island_pack.specs.declared.ranges.TheConstants.{COLUMN_LIMIT}
use Rattle.source_end.specs.declared.gathering.Gathering.{Gathering}
use Rattle.source_end.specs.declared.item.Item.{Item}
use Rattle.source_end.specs.declared.mode.Mode.{Mode}
use Rattle.source_end.specs.ItemPeriods.{period_of}
use Rattle.source_end.specs.Content.{Frame, are_content}
use Rattle.source_end.specs.Kept.{is_sendable}
use Rattle.source_end.specs.Raster.{Part, column, total, laid, lines_of, parts_of, gathered, raster_of}
use Rattle.source_end.specs.RasterRefusals.{raster_fault}
use Rattle.source_end.specs.RasterLaws.{RasterConforms, RasterColumns}
use Rattle.source_end.specs.Gathering.{size, Has, Parted}
use Rattle.source_end.proofs.Turns.{left, right, columns_of-append}
use Rattle.source_end.proofs.Sendable.{sendable_all}
use Rattle.source_end.proofs.Streams.{Spells-length}
use Rattle.source_end.proofs.Gathered.{size_append}
use Rattle.source_end.proofs.RasterModes.{IsFrame, AreFrames, good_mode, good_frames, few_columns}
use Rattle.source_end.proofs.RasterSizes.{parts_first}
use Rattle.source_end.proofs.RasterLaw.{raster_conforms, raster_columns}
use Rattle.source_end.proofs.RasterWriting.{bodies, bodies_more, parts_bodies, few_so_far, few_at_end}

-- What was taken out of a gathering, and what it still has.

pub parted_none : (g : Gathering) → Has g [] → Parted [] g []
unfolding gathered
parted_none g h = record { earlier = []; rest = []; parts_are = refl; periods_are = refl; apart = λ later. refl; held = h }

pub parted_taken : (g now : Gathering) (taken : List Item) (parts : List Part) → Has g parts → taken ≡ g.items.items → now.items.items ≡ [] → now.period ≡ g.period → Parted (map period_of taken) now parts
unfolding gathered
parted_taken g now taken parts h e none same = record {
  earlier = h.earlier;
  rest = map column h.values;
  parts_are = h.parts_are;
  periods_are = ap (map period_of) e ∙ h.periods_are;
  apart = h.apart;
  held = record { earlier = []; values = h.values; parts_are = refl; periods_are = ap (map period_of) none; runs_are = same ∙ h.runs_are; apart = λ later. refl };
}

-- parts more are written, and periods more are taken out
pub parted_more : (ps more : List Period) (g mid now : Gathering) (parts own : List Part) → (h : Parted ps g parts) → Has mid (h.rest ++ own) → ((qs : List Part) → Has mid qs → Parted more now qs) → Parted (ps ++ more) now (parts ++ own)
parted_more ps more g mid now parts own h held taking =
    let k = taking (h.rest ++ own) held in
    record {
      earlier = h.earlier ++ k.earlier;
      rest = k.rest;
      parts_are = ap (λ (qs : List Part). qs ++ own) h.parts_are ∙ append_assoc h.earlier h.rest own ∙ ap (λ (qs : List Part). h.earlier ++ qs) k.parts_are ∙ sym (append_assoc h.earlier k.earlier k.rest);
      periods_are = ap₂ (λ (xs ys : List Period). xs ++ ys) h.periods_are k.periods_are ∙ sym (h.apart k.earlier);
      apart = λ later.
          ap gathered (append_assoc h.earlier k.earlier later)
          ∙ h.apart (k.earlier ++ later)
          ∙ ap (λ (xs : List Period). gathered h.earlier ++ xs) (k.apart later)
          ∙ sym (append_assoc (gathered h.earlier) (gathered k.earlier) (gathered later))
          ∙ ap (λ (xs : List Period). xs ++ gathered later) (sym (h.apart k.earlier));
      held = k.held;
    }

pub size_rest : (ps : List Period) (g : Gathering) (parts : List Part) → (h : Parted ps g parts) → size h.rest ≤ size parts
size_rest ps g parts h =
    let s = ap size h.parts_are ∙ size_append h.earlier h.rest in
    omega (arith, s)

-- The frames so far and the one that follows, of all of them.

frame_after : (mode : Mode) (done : List Frame) (f : Frame) (rest : List Frame) → AreFrames mode (done ++ (f ∷ rest)) → IsFrame mode f
frame_after mode [] f rest are = are.0
frame_after mode (d ∷ ds) f rest are = frame_after mode ds f rest are.1

-- those that are left begin with it
split : (frames done left : List Frame) (f : Frame) (rest : List Frame) → done ++ left ≡ frames → left ≡ f ∷ rest → done ++ (f ∷ rest) ≡ frames
split frames done left f rest e first = ap (λ (fs : List Frame). done ++ fs) (sym first) ∙ e

pub next_frame : (mode : Mode) (frames done left : List Frame) (f : Frame) (rest : List Frame) → done ++ left ≡ frames → left ≡ f ∷ rest → raster_fault mode frames ≡ None → IsFrame mode f
next_frame mode frames done left f rest e first none = frame_after mode done f rest (subst (AreFrames mode) (sym (split frames done left f rest e first)) (good_frames mode frames none))

next_fits : (mode : Mode) (frames done : List Frame) (f : Frame) (rest : List Frame) → done ++ (f ∷ rest) ≡ frames → raster_fault mode frames ≡ None → size (bodies mode done) + total mode.across * total mode.down < 2 ^ 32
next_fits mode frames done f rest e none =
    let n = length-append done (f ∷ rest) in
    let lt : length done < length frames = omega (arith, ap length e, n) in
    subst (λ (ds : List Frame). size (bodies mode ds) + total mode.across * total mode.down < 2 ^ 32)
    (ap (take (length done)) (sym e) ∙ take-append_seam done (f ∷ rest))
    (few_so_far mode (good_mode mode frames none) frames (good_frames mode frames none) (length done) lt (few_columns mode frames none))

pub next_parted : (mode : Mode) (frames done left : List Frame) (f : Frame) (rest : List Frame) (ps more : List Period) (g now : Gathering)
    → done ++ left ≡ frames → left ≡ f ∷ rest → raster_fault mode frames ≡ None → Parted ps g (bodies mode done)
    → ((qs : List Period) (parts : List Part) → Parted qs g parts → size parts + total mode.across * total mode.down < 2 ^ 32 → Parted (qs ++ more) now (parts ++ laid mode (lines_of mode f) f.packets))
    → Parted (ps ++ more) now (bodies mode (done ++ f ∷ []))
next_parted mode frames done left f rest ps more g now e first none h ended =
    subst (Parted (ps ++ more) now) (sym (bodies_more mode done f)) (ended ps (bodies mode done) h (next_fits mode frames done f rest (split frames done left f rest e first) none))

-- Periods that a raster begins with.

abbrev pub Begins : Mode → List Frame → List Period → Type 0
Begins mode frames ps = (others : List Period) × (raster_of mode frames ≡ ps ++ others)

parts_split : (mode : Mode) (xs ys : List Frame) → parts_of mode (xs ++ ys) ≡ bodies mode xs ++ parts_of mode ys
unfolding bodies
parts_split mode [] ys = refl
parts_split mode (f ∷ xs) ys = grind (arith, parts_first, append_assoc, bodies, parts_split mode xs ys)

pub parted_begins : (mode : Mode) (ps : List Period) (g : Gathering) (done rest : List Frame) → Parted ps g (bodies mode done) → Begins mode (done ++ rest) ps
unfolding raster_of
parted_begins mode ps g done rest h =
    let later = h.rest ++ parts_of mode rest in (
      gathered later,
      ap gathered (parts_split mode done rest ∙ ap (λ (qs : List Part). qs ++ parts_of mode rest) h.parts_are ∙ append_assoc h.earlier h.rest (parts_of mode rest))
          ∙ h.apart later
          ∙ ap (λ (xs : List Period). xs ++ gathered later) (sym h.periods_are),
    )

pub next_begins : (mode : Mode) (frames done left : List Frame) (f : Frame) (rest : List Frame) (ps : List Period) (g : Gathering) → done ++ left ≡ frames → left ≡ f ∷ rest → Parted ps g (bodies mode (done ++ f ∷ []))
    → Begins mode frames ps
next_begins mode frames done left f rest ps g e first h =
    subst (λ (fs : List Frame). Begins mode fs ps) (append_assoc done (f ∷ []) rest ∙ split frames done left f rest e first) (parted_begins mode ps g (done ++ f ∷ []) rest h)

-- the last columns make the others
ends : (mode : Mode) (frames : List Frame) (ps more : List Period) (g : Gathering) (v : ℕ) → (h : Parted ps g (bodies mode frames)) → v ≡ 3 * one_if mode.positive → more ≡ gathered (h.rest ++ replicate 32 (column v)) → raster_of mode frames ≡ ps ++ more
unfolding raster_of
ends mode frames ps more g v h is e =
    let last = replicate 32 (column v) in
    ap gathered (sym (parts_bodies mode frames) ∙ ap (λ (k : ℕ). bodies mode frames ++ replicate 32 (column k)) (sym is) ∙ ap (λ (qs : List Part). qs ++ last) h.parts_are ∙ append_assoc h.earlier h.rest last)
    ∙ h.apart (h.rest ++ last)
    ∙ ap₂ (λ (xs ys : List Period). xs ++ ys) (sym h.periods_are) (sym e)

pub whole : (mode : Mode) (frames done left : List Frame) (ps more : List Period) (g now : Gathering) (v : ℕ)
    → done ++ left ≡ frames → length left ≡ 0 → raster_fault mode frames ≡ None → Parted ps g (bodies mode done) → v ≡ 3 * one_if mode.positive
    → ((parts : List Part) → Has g parts → size parts + 32 < 2 ^ 32 → Has now (parts ++ replicate 32 (column v))) → ((parts : List Part) → Has now parts → more ≡ gathered parts)
    → raster_of mode frames ≡ ps ++ more
whole mode frames done left ps more g now v e none_left none h is columns items =
    let all = sym (append-nil done) ∙ ap (λ (fs : List Frame). done ++ fs) (sym (nil_from_length left none_left)) ∙ e in
    let k = subst (λ (fs : List Frame). Parted ps g (bodies mode fs)) all h in
    let few = few_at_end mode (good_mode mode frames none) frames (good_frames mode frames none) (few_columns mode frames none) in
    let fits : size k.rest + 32 < 2 ^ 32 = omega (arith, few, size_rest ps g (bodies mode frames) k) in
    ends mode frames ps more g v k is (items (k.rest ++ replicate 32 (column v)) (columns k.rest k.held fits))

pub all_begin : (mode : Mode) (frames : List Frame) (ps : List Period) → raster_of mode frames ≡ ps → Begins mode frames ps
all_begin mode frames ps e = ([], e ∙ sym (append-nil ps))

-- What is given of them.

pub more_sendable : (mode : Mode) (frames : List Frame) (ps more : List Period) → raster_fault mode frames ≡ None → IsTrue (are_content frames) → Begins mode frames (ps ++ more) → list_all is_sendable more ≡ true
unfolding RasterConforms
more_sendable mode frames ps more none content begins =
    let all = sendable_all (raster_of mode frames) (raster_conforms mode frames none content) in
    grind (arith, list_all-append, left, right)

pub more_fits : (mode : Mode) (frames : List Frame) (ps more : List Period) (columns : List Column) → raster_fault mode frames ≡ None → Begins mode frames (ps ++ more) → Spells ps columns → length columns + columns_of more ≤ COLUMN_LIMIT
unfolding RasterColumns
more_fits mode frames ps more columns none begins spelled =
    let all = raster_columns mode frames none in
    grind (arith, few_columns, columns_of-append, Spells-length)
