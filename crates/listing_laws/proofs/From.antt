-- What is listed of a raster from twelve columns before the end of any of its control periods on.
use Rattle.std.proofs.Common.{◌≡◌, ℕ, zero, suc, ◌+◌, ◌-◌, ◌*◌, ◌<◌, ◌≤◌, Bool, true, false, not, cond, List, [], ◌∷◌, ◌++◌, map, length, drop, replicate, refl, sym, ap, ap₂, subst, ◌∙◌, append_assoc, append-nil, arith, inl, inr}
use Rattle.std.specs.Prelude.{nat_lt}
use Rattle.std.proofs.lemmas.Bool.{lt-ltb, le-ltb, cases_lt}
use Rattle.tmds_word.proofs.Below.{and-right}
use Rattle.tmds_word.specs.Column.{Column}
use Rattle.terc4.specs.Columns.{one_if}
use Rattle.island_pack.specs.Kinds.{Kind, control_column, kind_at, EndsAt}
use Rattle.link_laws.proofs.Shapes.{ends_alone}
use Rattle.link_laws.specs.Account.{account}
use Rattle.source_end.specs.declared.mode.Mode.{Mode}
use Rattle.source_end.specs.Content.{Frame}
use Rattle.source_end.specs.Raster.{Line, Part, column, sync, back, active, front, laid, blank, parts_of, gathered, raster_of}
use Rattle.source_end.specs.Gathering.{size}
use Rattle.source_end.proofs.Gathered.{size_append, size_same}
use Rattle.source_end.proofs.RasterModes.{IsMode, AreRows, IsFrame, AreFrames}
use Rattle.source_end.proofs.RasterSizes.{laid_append, size_blank, size_rows, long_row, sync_part, after_sync, back_part, after_back, rows_part, front_part, parts_none, parts_more}
use Rattle.listing_writer.specs.Listed.{Listed, listed_from}
use Rattle.listing_laws.proofs.Machine.{ends, ticks}
use Rattle.listing_laws.proofs.Walk.{listed_ticks}
use Rattle.listing_laws.proofs.Cells.{Cell, State, after, says, after_append, says_append, fine, fresh, all_say}
use Rattle.listing_laws.proofs.Ready.{Ready, reports_nothing, columns as cells_of, flat_columns, begin, begin_few, begin_after, heard_once, once_ready, is_heard}
use Rattle.listing_laws.proofs.Parts.{parts_cells}
use Rattle.listing_laws.proofs.Accounted.{account_hears}
use Rattle.listing_laws.proofs.Lines.{Begins, begins_more, begins_first, begins_same, opened, final_vsync, size_values}
use Rattle.listing_laws.proofs.Rows.{seen, seen_append}
use Rattle.listing_laws.proofs.Frames.{row_lines_of, rows_listed, begins_blank}
use Rattle.listing_laws.proofs.Counting.{sync_area, back_area, active_area, front_area, frame_area, wide_sync, turns, frame_reported, frames_listed, pending, frames_none, IsLast, last_rest, last_by, begins_parts, even_same, silent_frame, frames_say, after_sync_lines, nothing_said}
use Rattle.listing_laws.proofs.Mute.{Mute, mute_even}
use Rattle.listing_laws.proofs.Starts.{kinds, kinds_append, Found}
use Rattle.listing_laws.proofs.Found.{AreLines, lines_append, blank_lines, starts_control, lines_ends}

-- The first columns.

record IsBegun (b : Bool) (ts : List Cell) : Type 0 where
  pub nothing : says ts fresh ≡ []
  pub group : List ℕ
  pub ready : Ready (after ts fresh) b false group

-- after eleven columns it is as if their level had been heard before
begun_by : (b : Bool) (us : List Bool) (rest : List Cell) → 9 ≤ length us → (after (cells_of b us ++ rest) fresh ≡ after (cells_of b us ++ rest) (heard_once b)) × (says (cells_of b us ++ rest) fresh ≡ says (cells_of b us ++ rest) (heard_once b))
begun_by b us rest le =
    let e = begin_after b us le in
    let p = begin b us le in
    let q = reports_nothing b false [] (cells_of b us) (heard_once b) (flat_columns b us) (once_ready b) in (
      after_append (cells_of b us) rest fresh ∙ ap (after rest) e ∙ sym (after_append (cells_of b us) rest (heard_once b)),
      says_append (cells_of b us) rest fresh ∙ ap₂ (λ (xs : List Listed) (s : State). xs ++ says rest s) (p.nothing ∙ sym q.nothing) e ∙ sym (says_append (cells_of b us) rest (heard_once b)),
    )

begun : (b : Bool) (mid : List Part) (ss rs : List Column) (e p : ℕ) → Begins b mid → Mute b mid → p + 11 ≤ e → IsBegun b (seen ss rs e p mid)
unfolding seen
begun b mid ss rs e p begins mute le =
    let ts = parts_cells (e - p) mid (drop p ss) (drop p rs) in
    let o = opened b mid (e - p) (drop p ss) (drop p rs) begins in
    let m = mute (e - p) (drop p ss) (drop p rs) (heard_once b) [] (once_ready b) in
    let k = begun_by b o.levels o.rest (let l = o.long in omega (arith, l, le)) in
    record {
      nothing = ap (λ (us : List Cell). says us fresh) o.are ∙ k.1 ∙ sym (ap (λ (us : List Cell). says us (heard_once b)) o.are) ∙ m.nothing;
      group = m.group;
      ready = subst (λ (s : State). Ready s b false m.group) (sym (ap (λ (us : List Cell). after us fresh) o.are ∙ k.0 ∙ sym (ap (λ (us : List Cell). after us (heard_once b)) o.are))) m.ready;
    }

few_seen : (b : Bool) (parts : List Part) (ss rs : List Column) (e p : ℕ) → Begins b parts → e < p + 11 → says (seen ss rs e p parts) fresh ≡ []
unfolding seen
few_seen b parts ss rs e p begins lt =
    let o = opened b parts (e - p) (drop p ss) (drop p rs) begins in
    let is : parts_cells (e - p) parts (drop p ss) (drop p rs) ≡ cells_of b o.levels = o.are ∙ ap (λ (ts : List Cell). cells_of b o.levels ++ ts) (o.none (omega (arith, lt))) ∙ append-nil (cells_of b o.levels) in
    ap (λ (ts : List Cell). says ts fresh) is ∙ begin_few b o.levels

-- parts of one level, and what is said of those after them once the level was heard
from_mid : (mode : Mode) (b : Bool) (mid more : List Part) (lines : List Listed) (ss rs : List Column) (e p q : ℕ) (last : Bool) → Begins b mid → Mute b mid → p + size mid ≡ q → (e < p + 11 → lines ≡ [])
    → ((t : State) (g : List ℕ) → Ready t b false g → IsLast mode (seen ss rs e q more) t last → says (seen ss rs e q more) t ≡ lines) → IsLast mode (seen ss rs e p (mid ++ more)) fresh last → says (seen ss rs e p (mid ++ more)) fresh ≡ lines
from_mid mode b mid more lines ss rs e p q last begins mute place silent later final = elim (cases_lt e (p + 11)) [
  | inl lt ↦ few_seen b (mid ++ more) ss rs e p (begins_more b mid more begins) lt ∙ sym (silent lt)
  | inr le ↦
      let first = seen ss rs e p mid in
      let h = begun b mid ss rs e p begins mute le in
      let split = seen_append ss rs e p mid more in
      let at_last = last_by mode _ _ (after first fresh) last (ap (λ (k : ℕ). seen ss rs e k more) place) (last_rest mode first (seen ss rs e (p + size mid) more) fresh last (last_by mode _ _ fresh last split final)) in
      ap (λ (ts : List Cell). says ts fresh) split ∙ says_append first (seen ss rs e (p + size mid) more) fresh
      ∙ ap₂ (λ (xs ys : List Listed). xs ++ ys) h.nothing
      (ap (λ (k : ℕ). says (seen ss rs e k more) (after first fresh)) place ∙ later (after first fresh) h.group h.ready at_last)
]

-- What is listed.

-- from column a on, of frames of which the first begins at column p: a frame counts where a lies before its back lines
unfoldable pub frames_from : Mode → List Column → List Column → ℕ → ℕ → Bool → ℕ → List Frame → List Listed
frames_from mode ss rs a e last p [] = []
frames_from mode ss rs a e last p (f ∷ frames) =
    cond (nat_lt a (p + sync_area mode)) (rows_listed mode true ss rs e (p + sync_area mode + back_area mode) 0 f.rows ++ frame_reported mode e last (p + frame_area mode)) []
    ++ frames_from mode ss rs a e last (p + frame_area mode) frames

pub counted : (mode : Mode) (f : Frame) (frames : List Frame) (ss rs : List Column) (a e p : ℕ) (last : Bool) → a < p + sync_area mode → frames_from mode ss rs a e last p (f ∷ frames)
    ≡ (rows_listed mode true ss rs e (p + sync_area mode + back_area mode) 0 f.rows ++ frame_reported mode e last (p + frame_area mode)) ++ frames_from mode ss rs a e last (p + frame_area mode) frames
unfolding frames_from
counted mode f frames ss rs a e p last lt =
    ap (λ (t : Bool). cond t (rows_listed mode true ss rs e (p + sync_area mode + back_area mode) 0 f.rows ++ frame_reported mode e last (p + frame_area mode)) [] ++ frames_from mode ss rs a e last (p + frame_area mode) frames) (lt-ltb a (p + sync_area mode) lt)

pub uncounted : (mode : Mode) (f : Frame) (frames : List Frame) (ss rs : List Column) (a e p : ℕ) (last : Bool) → p + sync_area mode ≤ a → frames_from mode ss rs a e last p (f ∷ frames) ≡ frames_from mode ss rs a e last (p + frame_area mode) frames
unfolding frames_from
uncounted mode f frames ss rs a e p last le =
    ap (λ (t : Bool). cond t (rows_listed mode true ss rs e (p + sync_area mode + back_area mode) 0 f.rows ++ frame_reported mode e last (p + frame_area mode)) [] ++ frames_from mode ss rs a e last (p + frame_area mode) frames) (le-ltb a (p + sync_area mode) le)

-- all frames that begin at column a or later count
all_counted : (mode : Mode) → IsMode mode → (ss rs : List Column) (a e p : ℕ) (last : Bool) (frames : List Frame) → a ≤ p → frames_from mode ss rs a e last p frames ≡ frames_listed mode ss rs e last p frames
unfolding frames_from frames_listed
all_counted mode ok ss rs a e p last [] le = refl
all_counted mode ok ss rs a e p last (f ∷ frames) le =
    counted mode f frames ss rs a e p last (let w = wide_sync mode ok in omega (arith, w, le))
    ∙ append_assoc (rows_listed mode true ss rs e (p + sync_area mode + back_area mode) 0 f.rows) (frame_reported mode e last (p + frame_area mode)) (frames_from mode ss rs a e last (p + frame_area mode) frames)
    ∙ ap (λ (xs : List Listed). rows_listed mode true ss rs e (p + sync_area mode + back_area mode) 0 f.rows ++ (frame_reported mode e last (p + frame_area mode) ++ xs)) (all_counted mode ok ss rs a e (p + frame_area mode) last frames (omega (arith, le)))

no_frames : (mode : Mode) (ss rs : List Column) (a e p : ℕ) (last : Bool) → frames_from mode ss rs a e last p [] ≡ []
unfolding frames_from
no_frames mode ss rs a e p last = refl

no_pending : (e p : ℕ) (last : Bool) (g : List ℕ) → pending e last p false g ≡ []
unfolding pending
no_pending e p last g = grind (arith, turns, ends)

-- Where it begins.

-- where it begins in the sync lines of a frame, it begins with three of their columns
abbrev pub StartsSync : Mode → List Frame → ℕ → List Part → Type 0
StartsSync mode [] n mid = Unit {0}
StartsSync mode (f ∷ frames) n mid = (n < sync_area mode → Begins mode.positive mid × (n + 11 ≤ sync_area mode)) × (frame_area mode ≤ n → StartsSync mode frames (n - frame_area mode) mid)

-- parts of a raster from twelve columns before the end of a control period on, and what is listed of them
pub record StartsAt (mode : Mode) (frames : List Frame) (i : ℕ) : Type 0 where
  pub front : List Part
  pub mid : List Part
  pub are : parts_of mode frames ≡ front ++ mid
  pub place : size front + 11 ≡ i
  pub b : Bool
  pub begins : Begins b mid
  pub sync_start : StartsSync mode frames (size front) mid
  pub says_all : (ss rs : List Column) (e p : ℕ) (last : Bool) → e ≤ length ss → e ≤ length rs → IsLast mode (seen ss rs e (p + size front) mid) fresh last → says (seen ss rs e (p + size front) mid) fresh ≡ frames_from mode ss rs (p + size front) e last p frames

-- all lines of a frame but the sync lines
abbrev low_lines : Mode → Frame → List Line
low_lines mode f = replicate (back mode.down) (blank false) ++ (row_lines_of f.rows ++ replicate (front mode.down) (blank false))

abbrev low_part : Mode → Frame → List Part
low_part mode f = laid mode (low_lines mode f) (after_sync mode f)

low_is : (mode : Mode) (f : Frame) → low_part mode f ≡ back_part mode f ++ (rows_part mode f ++ front_part mode f)
low_is mode f =
    laid_append mode (replicate (back mode.down) (blank false)) (row_lines_of f.rows ++ replicate (front mode.down) (blank false)) (after_sync mode f)
    ∙ ap (λ (ps : List Part). back_part mode f ++ ps) (laid_append mode (row_lines_of f.rows) (replicate (front mode.down) (blank false)) (after_back mode f))

rows_are_lines : (mode : Mode) → IsMode mode → (rows : List (List ℕ)) → AreRows (active mode.across) rows → AreLines false (row_lines_of rows)
rows_are_lines mode ok [] are = tt
rows_are_lines mode ok (row ∷ rows) are = grind (arith, long_row, and-right, rows_are_lines mode ok rows)

low_are : (mode : Mode) → IsMode mode → (f : Frame) → IsFrame mode f → AreLines false (low_lines mode f)
low_are mode ok f good =
    lines_append false (replicate (back mode.down) (blank false)) _ (blank_lines false (back mode.down))
    (lines_append false (row_lines_of f.rows) _ (rows_are_lines mode ok f.rows good.rows) (blank_lines false (front mode.down)))

size_low : (mode : Mode) → IsMode mode → (f : Frame) → IsFrame mode f → size (low_part mode f) ≡ back_area mode + active_area mode + front_area mode
size_low mode ok f good =
    let a = size_append (back_part mode f) (rows_part mode f ++ front_part mode f) in
    grind (arith, size_append, rows_part, front_part, size_blank, after_sync, size_rows, after_back, row_lines_of, active_area, low_is)

frame_parts : (mode : Mode) (f : Frame) (frames : List Frame) → parts_of mode (f ∷ frames) ≡ sync_part mode f ++ (low_part mode f ++ parts_of mode frames)
frame_parts mode f frames = grind (arith, parts_more, sync_part, back_part, append_assoc, rows_part, front_part, low_is)

low_more : (mode : Mode) (f : Frame) (frames : List Frame) → low_part mode f ++ parts_of mode frames ≡ back_part mode f ++ (rows_part mode f ++ (front_part mode f ++ parts_of mode frames))
low_more mode f frames = grind (arith, low_is, append_assoc, back_part, rows_part, front_part)

pub size_mid : (b : Bool) (parts : List Part) → Begins b parts → 11 ≤ size parts
size_mid b parts h = let e = ap size h.are in let s = size_append (map column h.values) h.rest in let v = size_values h.values in omega (arith, e, s, v, h.long)

-- in a sync line
in_sync : (mode : Mode) → IsMode mode → (f : Frame) → IsFrame mode f → (frames : List Frame) → AreFrames mode frames → (i : ℕ) → Found mode.positive (sync_part mode f) i → StartsAt mode (f ∷ frames) i
in_sync mode ok f good frames are i h =
    let more = low_part mode f ++ parts_of mode frames in
    let s = size_append h.front h.mid in
    let n = size_blank mode true (sync mode.down) f.packets in
    let z : size (sync_part mode f) ≡ size h.front + size h.mid = ap size h.are ∙ s in
    let l = size_mid mode.positive h.mid h.begins in
    record {
      front = h.front;
      mid = h.mid ++ more;
      are = frame_parts mode f frames ∙ ap (λ (ps : List Part). ps ++ more) h.are ∙ append_assoc h.front h.mid more;
      place = h.place;
      b = mode.positive;
      begins = begins_more mode.positive h.mid more h.begins;
      sync_start = ((λ lt. (begins_more mode.positive h.mid more h.begins, omega (arith, z, n, l))), λ le. absurd (omega (arith, z, n, l, le)));
      says_all = λ ss rs e p last sent received final.
          let lt : p + size h.front < p + sync_area mode = omega (arith, z, n, l) in
          let list = counted mode f frames ss rs (p + size h.front) e p last lt
          ∙ append_assoc (rows_listed mode true ss rs e (p + sync_area mode + back_area mode) 0 f.rows) (frame_reported mode e last (p + frame_area mode)) (frames_from mode ss rs (p + size h.front) e last (p + frame_area mode) frames)
          ∙ ap (λ (xs : List Listed). rows_listed mode true ss rs e (p + sync_area mode + back_area mode) 0 f.rows ++ (frame_reported mode e last (p + frame_area mode) ++ xs))
          (all_counted mode ok ss rs (p + size h.front) e (p + frame_area mode) last frames (omega (arith, lt))) in
          from_mid mode mode.positive h.mid more _ ss rs e (p + size h.front) (p + sync_area mode) last h.begins h.mute (omega (arith, z, n)) (λ few. silent_frame mode ok f frames ss rs e p last (omega (arith, few, lt)))
          (λ t g now final2.
          ap (λ (ps : List Part). says (seen ss rs e (p + sync_area mode) ps) t) (low_more mode f frames)
          ∙ after_sync_lines mode ok f good frames ss rs e p last sent received t false g refl now
          (λ u c2 g2 ready final3. frames_say mode ok frames are ss rs e last sent received (p + frame_area mode) u c2 g2 ready final3)
          (last_by mode _ _ t last (ap (λ (ps : List Part). seen ss rs e (p + sync_area mode) ps) (low_more mode f frames)) final2)) final
          ∙ sym list;
    }

-- in a line of the other level
in_low : (mode : Mode) → IsMode mode → (f : Frame) → IsFrame mode f → (frames : List Frame) → AreFrames mode frames → (i at : ℕ) → i ≡ size (sync_part mode f) + at → Found (not mode.positive) (low_part mode f) at → StartsAt mode (f ∷ frames) i
in_low mode ok f good frames are i at place h =
    let more = parts_of mode frames in
    let s = size_append h.front h.mid in
    let r = size_append (sync_part mode f) h.front in
    let n = size_blank mode true (sync mode.down) f.packets in
    let m = size_low mode ok f good in
    let z : size (low_part mode f) ≡ size h.front + size h.mid = ap size h.are ∙ s in
    record {
      front = sync_part mode f ++ h.front;
      mid = h.mid ++ more;
      are = grind (arith, frame_parts, sync_part, append_assoc);
      place = omega (arith, r, place, h.place);
      b = not mode.positive;
      begins = begins_more (not mode.positive) h.mid more h.begins;
      sync_start = let l = size_mid (not mode.positive) h.mid h.begins in ((λ lt. absurd (omega (arith, r, n, lt))), λ le. absurd (omega (arith, r, n, z, m, l, le)));
      says_all = λ ss rs e p last sent received final.
          let start = p + size (sync_part mode f ++ h.front) in
          let le : p + sync_area mode ≤ start = omega (arith, r, n) in
          let to : start ≤ p + frame_area mode = omega (arith, r, n, z, m) in
          let list = uncounted mode f frames ss rs start e p last le ∙ all_counted mode ok ss rs start e (p + frame_area mode) last frames to in
          from_mid mode (not mode.positive) h.mid more _ ss rs e start (p + frame_area mode) last h.begins h.mute (omega (arith, r, n, z, m)) (λ few. frames_none mode ok ss rs e (p + frame_area mode) last frames (omega (arith, few, to)))
          (λ t g now final2. frames_say mode ok frames are ss rs e last sent received (p + frame_area mode) t false g now final2
          ∙ ap (λ (xs : List Listed). xs ++ frames_listed mode ss rs e last (p + frame_area mode) frames) (no_pending e (p + frame_area mode) last g)) final
          ∙ sym list;
    }

-- in a later frame
in_later : (mode : Mode) → IsMode mode → (f : Frame) → IsFrame mode f → (frames : List Frame) → (i at : ℕ) → i ≡ size (sync_part mode f) + (size (low_part mode f) + at) → StartsAt mode frames at → StartsAt mode (f ∷ frames) i
in_later mode ok f good frames i at place h =
    let before = sync_part mode f ++ low_part mode f in
    let r = size_append (sync_part mode f) (low_part mode f) in
    let s = size_append before h.front in
    let n = size_blank mode true (sync mode.down) f.packets in
    let m = size_low mode ok f good in
    record {
      front = before ++ h.front;
      mid = h.mid;
      are = frame_parts mode f frames ∙ sym (append_assoc (sync_part mode f) (low_part mode f) (parts_of mode frames))
          ∙ ap (λ (ps : List Part). before ++ ps) h.are ∙ sym (append_assoc before h.front h.mid);
      place = omega (arith, r, s, place, h.place);
      b = h.b;
      begins = h.begins;
      sync_start = grind (arith, frame_area);
      says_all = grind (arith, frame_area, sync_area, says, seen, fresh, last_by, uncounted);
    }

-- in the columns after the last frame
same_kinds : (v n : ℕ) → kinds (replicate n (column v)) ≡ replicate n control_column
unfolding kinds
same_kinds v zero = refl
same_kinds v (suc n) = ap (λ (ks : List Kind). control_column ∷ ks) (same_kinds v n)

none_seen : (ss rs : List Column) (e p : ℕ) → seen ss rs e p [] ≡ []
unfolding seen parts_cells
none_seen ss rs e p = refl

in_final : (mode : Mode) (i : ℕ) → i + 1 ≡ 32 → StartsAt mode [] i
in_final mode i e =
    let v = 3 * one_if mode.positive in
    let mid = replicate 12 (column v) in
    let s = size_same 20 v in
    let begins : Begins mode.positive mid = begins_same mode.positive v 1 (final_vsync mode.positive) in
    record {
      front = replicate 20 (column v);
      mid = mid;
      are = parts_none mode;
      place = omega (arith, s, e);
      b = mode.positive;
      begins = begins;
      sync_start = tt;
      says_all = λ ss rs e p last sent received final.
          let start = p + size (replicate 20 (column v)) in
          let whole = ap (λ (ps : List Part). seen ss rs e start ps) (sym (append-nil mid)) in
          ap (λ (ts : List Cell). says ts fresh) whole
          ∙ from_mid mode mode.positive mid [] [] ss rs e start (start + size mid) last begins
          (mute_even mode.positive mid (even_same mode.positive v 12 (final_vsync mode.positive))) refl (λ few. refl)
          (λ t g now final2. ap (λ (ts : List Cell). says ts t) (none_seen ss rs e (start + size mid)) ∙ nothing_said t)
          (last_by mode _ _ fresh last whole final)
          ∙ sym (no_frames mode ss rs start e p last);
    }

kinds_start : (b : Bool) (parts : List Part) → Begins b parts → kind_at (kinds parts) 0 ≡ control_column
unfolding kinds
kinds_start b parts h = let f = begins_first b parts h in ap (λ (ps : List Part). kind_at (kinds ps) 0) f.are

later_start : (mode : Mode) → IsMode mode → (f : Frame) (frames : List Frame) → kind_at (kinds (low_part mode f) ++ kinds (parts_of mode frames)) 0 ≡ control_column
later_start mode ok f frames =
    starts_control (not mode.positive) (low_part mode f) (kinds (parts_of mode frames))
    (subst (λ (ps : List Part). Begins (not mode.positive) ps) (sym (low_is mode f))
    (begins_more (not mode.positive) (back_part mode f) _ (begins_blank mode ok false (back mode.down) (after_sync mode f) ok.back_lines)))

pub starts_at : (mode : Mode) → IsMode mode → (frames : List Frame) → AreFrames mode frames → (i : ℕ) → EndsAt (kinds (parts_of mode frames)) i → StartsAt mode frames i
starts_at mode ok [] are i h =
    in_final mode i (ends_alone 32 i (subst (λ (ks : List Kind). EndsAt ks i) (ap kinds (parts_none mode) ∙ same_kinds (3 * one_if mode.positive) 32 ∙ sym (append-nil (replicate 32 control_column))) h))
starts_at mode ok (f ∷ frames) are i h =
    let more = kinds (low_part mode f) ++ kinds (parts_of mode frames) in
    let is : kinds (parts_of mode (f ∷ frames)) ≡ kinds (sync_part mode f) ++ more =
    ap kinds (frame_parts mode f frames) ∙ kinds_append (sync_part mode f) (low_part mode f ++ parts_of mode frames)
    ∙ ap (λ (ks : List Kind). kinds (sync_part mode f) ++ ks) (kinds_append (low_part mode f) (parts_of mode frames)) in
    elim (lines_ends mode ok true (replicate (sync mode.down) (blank true)) (blank_lines true (sync mode.down)) f.packets more i (later_start mode ok f frames) (subst (λ (ks : List Kind). EndsAt ks i) is h)) [
      | inl found ↦ in_sync mode ok f are.0 frames are.1 i found
      | inr later ↦ elim (lines_ends mode ok false (low_lines mode f) (low_are mode ok f are.0) (after_sync mode f) (kinds (parts_of mode frames)) later.at (kinds_start mode.positive (parts_of mode frames) (begins_parts mode ok frames)) later.ends) [
        | inl found ↦ in_low mode ok f are.0 frames are.1 i later.at later.place found
        | inr last ↦ in_later mode ok f are.0 frames i last.at (omega (arith, later.place, last.place)) (starts_at mode ok frames are.1 last.at last.ends)
      ]
    ]

account_says : (front mid : List Part) (v : ℕ) (back : List Part) → mid ≡ column v ∷ back → (ss rs : List Column) (a m : ℕ) → size front ≡ a → a + m ≤ length rs → fine [] (seen ss rs (a + m) a mid) ≡ true
    → listed_from [] (account (gathered (front ++ mid)) ss rs a m) ≡ says (seen ss rs (a + m) a mid) fresh
unfolding seen
account_says front mid v back is ss rs a m place le ok = grind (arith, seen, parts_cells, listed_ticks, all_say, ticks, account_hears, Cell, fine, says)

-- what is listed of the account of a raster
pub frames_listed_from : (mode : Mode) (frames : List Frame) (i : ℕ) (h : StartsAt mode frames i) (sent received : List Column) (a m : ℕ) → size h.front ≡ a → a + m ≤ length sent → a + m ≤ length received
    → fine [] (seen sent received (a + m) a h.mid) ≡ true
    → listed_from [] (account (raster_of mode frames) sent received a m) ≡ frames_from mode sent received a (a + m) (is_heard mode.positive (after (seen sent received (a + m) a h.mid) fresh).heard) 0 frames
unfolding raster_of
frames_listed_from mode frames i h sent received a m place in_sent in_received ok =
    let f = begins_first h.b h.mid h.begins in
    let last = is_heard mode.positive (after (seen sent received (a + m) a h.mid) fresh).heard in
    let z : 0 + size h.front ≡ a = omega (arith, place) in
    ap (λ (ps : List Part). listed_from [] (account (gathered ps) sent received a m)) h.are
    ∙ account_says h.front h.mid f.value f.rest f.are sent received a m place in_received ok
    ∙ ap (λ (k : ℕ). says (seen sent received (a + m) k h.mid) fresh) (sym z)
    ∙ h.says_all sent received (a + m) 0 last in_sent in_received (ap (λ (k : ℕ). is_heard mode.positive (after (seen sent received (a + m) k h.mid) fresh).heard) z)
    ∙ ap (λ (k : ℕ). frames_from mode sent received k (a + m) last 0 frames) z
