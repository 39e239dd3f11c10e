-- What is listed by places is what is listed by the received columns.
use Rattle.std.proofs.Common.{◌≡◌, ℕ, suc, ◌+◌, ◌-◌, ◌<◌, ◌≤◌, Bool, true, false, not, ◌||◌, cond, min, max, List, [], ◌∷◌, ◌++◌, length, take, drop, refl, sym, ap, ap₂, subst, ◌∙◌, append_assoc, append-nil, arith, inl, inr}
use Rattle.std.specs.Prelude.{nat_lt}
use Rattle.std.proofs.lemmas.Bool.{cases_lt}
use Rattle.tmds_word.specs.Column.{Column}
use Rattle.frame_build.specs.FrameEvent.{Mark}
use Rattle.source_end.specs.declared.mode.Mode.{Mode}
use Rattle.source_end.specs.Content.{Frame}
use Rattle.source_end.specs.Raster.{Part, front, total, parts_of}
use Rattle.source_end.specs.Gathering.{part_size, size}
use Rattle.source_end.specs.Lines.{left}
use Rattle.source_end.proofs.Gathered.{size_append}
use Rattle.source_end.proofs.RasterModes.{IsMode, IsFrame, AreFrames}
use Rattle.source_end.proofs.RasterSizes.{size_blank, size_rows, sync_part, after_sync, back_part, after_back, rows_part, front_part, parts_first, parts_more, size_frame, four_areas}
use Rattle.listing_writer.specs.Listed.{Listed, row}
use Rattle.listing_laws.specs.FrameLaws.{row_bytes, row_at, row_end, back_at, active_at, front_at, next_at, has_sync, counts, is_reported, rows_received, whole_frame, frames_received}
use Rattle.listing_laws.proofs.Cells.{Cell, State, after, after_append, fine, fresh}
use Rattle.listing_laws.proofs.Ready.{Flat, clear_trail, columns as cells_of, begin, settle, is_heard, other_heard}
use Rattle.listing_laws.proofs.Cells.{same_self}
use Rattle.listing_laws.proofs.Threes.{met, push, met_append, met_after, fine_front, fine_rest, marks_after, none_met, heard_met}
use Rattle.listing_laws.proofs.Parts.{parts_cells}
use Rattle.listing_laws.proofs.Lines.{Even, Begins, opened}
use Rattle.listing_laws.proofs.Rows.{seen, seen_append, seen_even}
use Rattle.listing_laws.proofs.Frames.{even_blank, begins_blank, row_lines_of, rows_listed, none_listed, rest_flat}
use Rattle.listing_laws.proofs.Counting.{sync_area, back_area, active_area, frame_area, wide_sync, wide_back, wide_front, turns, turns_yes, turns_no, turns_last, frame_reported, reported_none, begins_parts, nothing_seen, no_choice, twice}
use Rattle.listing_laws.proofs.From.{frames_from, counted, uncounted, StartsSync}
use Rattle.listing_laws.proofs.Arrived.{Arrived, arrived_append}
use Rattle.listing_laws.proofs.Fine.{flags, SparseFrom, sparse_on, parts_fine}
use Rattle.listing_laws.proofs.Synced.{sync_cells}

-- Lists of parts cut in two ways.

some_columns : (p : Part) → 1 ≤ part_size p
some_columns p = grind arith

record IsCut (xs ys us vs : List Part) : Type 0 where
  pub between : List Part
  pub are : ys ≡ between ++ vs
  pub place : size xs + size between ≡ size us

cut_parts : (xs ys us vs : List Part) → xs ++ ys ≡ us ++ vs → size xs ≤ size us → IsCut xs ys us vs
unfolding size
cut_parts [] ys us vs e le = record { between = us; are = e; place = omega arith }
cut_parts (x ∷ xs) ys [] vs e le = absurd (omega (arith, some_columns x, le))
cut_parts (x ∷ xs) ys (u ∷ us) vs e le = grind (arith, cut_parts xs ys us vs)

-- Eleven columns of a level have three neighbouring ones.

eleven_met : (b : Bool) (parts : List Part) (k : ℕ) (ss rs : List Column) → Begins b parts → 11 ≤ k → fine [] (parts_cells k parts ss rs) ≡ true → met b [] (parts_cells k parts ss rs) ≡ true
eleven_met b parts k ss rs begins le ok =
    let o = opened b parts k ss rs begins in
    let f = fine_front (cells_of b o.levels) o.rest [] (subst (λ (ts : List Cell). fine [] ts ≡ true) o.are ok) in
    let h = begin b o.levels (let l = o.long in omega (arith, l, le)) in
    ap (met b []) o.are ∙ met_append b [] (cells_of b o.levels) o.rest
    ∙ ap (λ (t : Bool). t || met b (push (cells_of b o.levels) []) o.rest) (sym (heard_met b o.levels fresh f refl) ∙ ap (is_heard b) h.ready.heard ∙ same_self b)

-- Sync lines after lines of the other level.

-- of lines of the other level there are no three
low_met : (b : Bool) (ts : List Cell) → Flat (not b) ts → fine [] ts ≡ true → met b [] ts ≡ false
low_met b ts flat ok = ap (λ (x : Bool). met x [] ts) (twice b) ∙ none_met (not b) ts [] [] flat ok (clear_trail (not b) [] [] refl)

-- what is heard of sync lines after lines of the other level
record IsAfter (b : Bool) (fs : List Cell) (s : State) : Type 0 where
  pub unheard : is_heard b (after fs s).heard ≡ false
  pub long : 2 ≤ length fs

length_cells : (b : Bool) (us : List Bool) → length (cells_of b us) ≡ length us
length_cells b [] = refl
length_cells b (u ∷ us) = ap (λ k. suc k) (length_cells b us)

longer : (xs ys : List Cell) → length xs ≤ length (xs ++ ys)
longer [] ys = omega arith
longer (x ∷ xs) ys = let h = longer xs ys in omega (arith, h)

later : (b : Bool) (parts : List Part) (k : ℕ) (ss rs : List Column) → Begins (not b) parts → Even (not b) parts → 11 ≤ k → (s : State) → IsAfter b (parts_cells k parts ss rs) s
later b parts k ss rs begins even le s =
    let o = opened (not b) parts k ss rs begins in
    let l : length o.levels ≡ 11 = let m = o.long in omega (arith, m, le) in
    let h = settle (not b) o.levels o.rest s (omega (arith, l)) (rest_flat (not b) (cells_of (not b) o.levels) o.rest (parts_cells k parts ss rs) o.are (even k ss rs)) in
    grind (arith, is_heard, after, cells_of, other_heard, Cell, longer, length_cells)

-- after lines of the other level three neighbouring columns were received where the level is heard
zone_met : (b : Bool) (fs : List Cell) (us : List Bool) (s : State) → fine s.recent (fs ++ cells_of b us) ≡ true → IsAfter b fs s → met b (push fs []) (cells_of b us) ≡ is_heard b (after (fs ++ cells_of b us) s).heard
zone_met b fs us s ok h =
    sym (ap (λ (t : State). is_heard b t.heard) (after_append fs (cells_of b us) s)
    ∙ heard_met b us (after fs s) (fine_rest fs (cells_of b us) s ok) h.unheard
    ∙ ap (λ (ms : List Mark). met b ms (cells_of b us)) (marks_after fs s (fine_front fs (cells_of b us) s.recent ok))
    ∙ met_after b fs s.marks (cells_of b us) h.long)

-- The scene: columns a up to e of a raster, from twelve columns before the end of a control period on.

pub record Scene (mode : Mode) (all : List Frame) (ss rs : List Column) (a e : ℕ) (last : Bool) : Type 0 where
  pub ok : IsMode mode
  pub early : List Part
  pub mid : List Part
  pub are : parts_of mode all ≡ early ++ mid
  pub place : size early ≡ a
  pub arrived : Arrived (parts_of mode all) ss rs
  pub sparse : SparseFrom (flags ss rs)
  pub at_last : is_heard mode.positive (after (seen ss rs e a mid) fresh).heard ≡ last

-- parts from column p on
pub record IsAt (mode : Mode) (all : List Frame) (rest : List Part) (p : ℕ) : Type 0 where
  pub before : List Part
  pub are : parts_of mode all ≡ before ++ rest
  pub place : size before ≡ p

pub at_next : (mode : Mode) (all : List Frame) (xs ys : List Part) (p q : ℕ) → IsAt mode all (xs ++ ys) p → p + size xs ≡ q → IsAt mode all ys q
at_next mode all xs ys p q h e = record {
  before = h.before ++ xs;
  are = h.are ∙ sym (append_assoc h.before xs ys);
  place = let s = size_append h.before xs in omega (arith, s, h.place, e);
}

there : (mode : Mode) (all : List Frame) (ss rs : List Column) (a e : ℕ) (last : Bool) (rest : List Part) (p : ℕ) → Scene mode all ss rs a e last → IsAt mode all rest p → Arrived rest (drop p ss) (drop p rs)
there mode all ss rs a e last rest p scene h =
    subst (λ (n : ℕ). Arrived rest (drop n ss) (drop n rs)) h.place (arrived_append h.before rest ss rs (subst (λ (ps : List Part). Arrived ps ss rs) h.are scene.arrived))

fine_there : (mode : Mode) (all : List Frame) (ss rs : List Column) (a e : ℕ) (last : Bool) (rest : List Part) (p k : ℕ) → Scene mode all ss rs a e last → IsAt mode all rest p → fine [] (parts_cells k rest (drop p ss) (drop p rs)) ≡ true
fine_there mode all ss rs a e last rest p k scene h = parts_fine rest k (drop p ss) (drop p rs) (there mode all ss rs a e last rest p scene h) (sparse_on p ss rs scene.sparse)

at_seen : (ss rs : List Column) (e p : ℕ) (parts : List Part) → seen ss rs e p parts ≡ parts_cells (e - p) parts (drop p ss) (drop p rs)
unfolding seen
at_seen ss rs e p parts = refl

pub at_mid : (mode : Mode) (all : List Frame) (ss rs : List Column) (a e : ℕ) (last : Bool) → (scene : Scene mode all ss rs a e last) → IsAt mode all scene.mid a
at_mid mode all ss rs a e last scene = record { before = scene.early; are = scene.are; place = scene.place }

-- low lines at column p, and the sync lines at column q after them
record LowAndSync (mode : Mode) (all : List Frame) (low rest : List Part) (p q : ℕ) : Type 0 where
  pub here : IsAt mode all (low ++ rest) p
  pub place : p + size low ≡ q
  pub long : 11 ≤ size low
  pub begins : Begins (not mode.positive) low
  pub even : Even (not mode.positive) low
  pub rest_begins : Begins mode.positive rest

split_seen : (ss rs : List Column) (e p q : ℕ) (low rest : List Part) → p + size low ≡ q → seen ss rs e p (low ++ rest) ≡ seen ss rs e p low ++ seen ss rs e q rest
split_seen ss rs e p q low rest place = seen_append ss rs e p low rest ∙ ap (λ (k : ℕ). seen ss rs e p low ++ seen ss rs e k rest) place

pub fine_seen : (mode : Mode) (all : List Frame) (ss rs : List Column) (a e : ℕ) (last : Bool) (rest : List Part) (p : ℕ) → Scene mode all ss rs a e last → IsAt mode all rest p → fine [] (seen ss rs e p rest) ≡ true
fine_seen mode all ss rs a e last rest p scene h = ap (fine []) (at_seen ss rs e p rest) ∙ fine_there mode all ss rs a e last rest p (e - p) scene h

no_cells : (b : Bool) (ms : List Mark) → met b ms [] ≡ false
unfolding met
no_cells b ms = refl

-- both, with what is seen of the sync lines
low_split : (mode : Mode) (all : List Frame) (ss rs : List Column) (a e : ℕ) (last : Bool) → Scene mode all ss rs a e last → (low rest : List Part) (p q : ℕ) → LowAndSync mode all low rest p q
    → met mode.positive [] (seen ss rs e p (low ++ rest)) ≡ met mode.positive (push (seen ss rs e p low) []) (seen ss rs e q rest)
low_split mode all ss rs a e last scene low rest p q h =
    let b = mode.positive in
    let fs = seen ss rs e p low in
    let split = split_seen ss rs e p q low rest h.place in
    let ok = fine_front fs (seen ss rs e q rest) [] (ap (fine []) (sym split) ∙ fine_seen mode all ss rs a e last (low ++ rest) p scene h.here) in
    ap (met b []) split ∙ met_append b [] fs (seen ss rs e q rest)
    ∙ ap (λ (t : Bool). t || met b (push fs []) (seen ss rs e q rest)) (low_met b fs (seen_even (not b) ss rs e p low h.even) ok)

seen_after : (mode : Mode) (all : List Frame) (ss rs : List Column) (e : ℕ) (low rest : List Part) (p q : ℕ) → LowAndSync mode all low rest p q → q ≤ e → (s : State) → IsAfter mode.positive (seen ss rs e p low) s
seen_after mode all ss rs e low rest p q h le s =
    subst (λ (ts : List Cell). IsAfter mode.positive ts s) (sym (at_seen ss rs e p low)) (later mode.positive low (e - p) (drop p ss) (drop p rs) h.begins h.even (omega (arith, h.place, h.long, le)) s)

-- eleven columns of the sync lines were received
sync_whole : (mode : Mode) (all : List Frame) (ss rs : List Column) (a e : ℕ) (last : Bool) → Scene mode all ss rs a e last → (low rest : List Part) (p q : ℕ) → LowAndSync mode all low rest p q → q + 11 ≤ e
    → met mode.positive (push (seen ss rs e p low) []) (seen ss rs e q rest) ≡ true
sync_whole mode all ss rs a e last scene low rest p q h le =
    let b = mode.positive in
    let fs = seen ss rs e p low in
    let o = opened b rest (e - q) (drop q ss) (drop q rs) h.rest_begins in
    let us = o.levels in
    let l : length us ≡ 11 = let m = o.long in omega (arith, m, le) in
    let zs : seen ss rs e q rest ≡ cells_of b us ++ o.rest = at_seen ss rs e q rest ∙ o.are in
    let split = split_seen ss rs e p q low rest h.place ∙ ap (λ (ts : List Cell). fs ++ ts) zs ∙ sym (append_assoc fs (cells_of b us) o.rest) in
    let ok = fine_front (fs ++ cells_of b us) o.rest [] (ap (fine []) (sym split) ∙ fine_seen mode all ss rs a e last (low ++ rest) p scene h.here) in
    let s = settle b us [] (after fs fresh) (omega (arith, l)) refl in
    let heard : is_heard b (after (fs ++ cells_of b us) fresh).heard ≡ true =
    ap (λ (t : State). is_heard b t.heard) (after_append fs (cells_of b us) fresh) ∙ ap (λ (ts : List Cell). is_heard b (after ts (after fs fresh)).heard) (sym (append-nil (cells_of b us))) ∙ ap (is_heard b) s.ready.heard ∙ same_self b in
    ap (met b (push fs [])) zs ∙ met_append b (push fs []) (cells_of b us) o.rest
    ∙ ap (λ (t : Bool). t || met b (push (cells_of b us) (push fs [])) o.rest)
    (zone_met b fs us fresh ok (seen_after mode all ss rs e low rest p q h (omega (arith, le)) fresh) ∙ heard)

-- fewer were received: what is heard at last says
sync_part_received : (mode : Mode) (all : List Frame) (ss rs : List Column) (a e : ℕ) (last : Bool) → Scene mode all ss rs a e last → (low rest : List Part) (p q : ℕ) → LowAndSync mode all low rest p q → a ≤ p → q ≤ e → e < q + 11
    → met mode.positive (push (seen ss rs e p low) []) (seen ss rs e q rest) ≡ last
sync_part_received mode all ss rs a e last scene low rest p q h from le lt =
    let b = mode.positive in
    let fs = seen ss rs e p low in
    let o = opened b rest (e - q) (drop q ss) (drop q rs) h.rest_begins in
    let us = o.levels in
    let zs : seen ss rs e q rest ≡ cells_of b us = at_seen ss rs e q rest ∙ o.are ∙ ap (λ (ts : List Cell). cells_of b us ++ ts) (o.none (omega (arith, lt))) ∙ append-nil (cells_of b us) in
    let c = cut_parts scene.early scene.mid h.here.before (low ++ rest) (sym scene.are ∙ h.here.are) (omega (arith, scene.place, h.here.place, from)) in
    let pre = seen ss rs e a c.between in
    let place : a + size c.between ≡ p = let k = c.place in omega (arith, k, scene.place, h.here.place) in
    let all_seen : seen ss rs e a scene.mid ≡ pre ++ (fs ++ cells_of b us) =
    ap (λ (ps : List Part). seen ss rs e a ps) c.are ∙ split_seen ss rs e a p c.between (low ++ rest) place ∙ ap (λ (ts : List Cell). pre ++ ts) (split_seen ss rs e p q low rest h.place ∙ ap (λ (ts : List Cell). fs ++ ts) zs) in
    let ok = ap (fine []) (sym all_seen) ∙ fine_seen mode all ss rs a e last scene.mid a scene (at_mid mode all ss rs a e last scene) in
    let s = after pre fresh in
    ap (met b (push fs [])) zs
    ∙ zone_met b fs us s (fine_rest pre (fs ++ cells_of b us) fresh ok) (seen_after mode all ss rs e low rest p q h le s)
    ∙ ap (λ (t : State). is_heard b t.heard) (sym (after_append pre (fs ++ cells_of b us) fresh))
    ∙ ap (λ (ts : List Cell). is_heard b (after ts fresh).heard) (sym all_seen)
    ∙ scene.at_last

-- three neighbouring columns were received of low lines and the sync lines after them where the sync lines are heard
low_and_sync : (mode : Mode) (all : List Frame) (ss rs : List Column) (a e : ℕ) (last : Bool) → Scene mode all ss rs a e last → (low rest : List Part) (p q : ℕ) → LowAndSync mode all low rest p q → a ≤ p
    → met mode.positive [] (seen ss rs e p (low ++ rest)) ≡ turns e last q
low_and_sync mode all ss rs a e last scene low rest p q h from =
    low_split mode all ss rs a e last scene low rest p q h
    ∙ elim (cases_lt e q) [
      | inl less ↦ ap (met mode.positive (push (seen ss rs e p low) [])) (nothing_seen ss rs e q rest less) ∙ no_cells mode.positive (push (seen ss rs e p low) []) ∙ sym (turns_no e q last less)
      | inr le ↦ elim (cases_lt e (q + 11)) [
        | inl few ↦ sync_part_received mode all ss rs a e last scene low rest p q h from le few ∙ sym (turns_last e q last le few)
        | inr many ↦ sync_whole mode all ss rs a e last scene low rest p q h many ∙ sym (turns_yes e q last many)
      ]
    ]

-- The frames of a raster.

rows_same : (mode : Mode) (ss rs : List Column) (e p y : ℕ) (rows : List (List ℕ)) → rows_listed mode true ss rs e p y rows ≡ rows_received mode ss rs e p y rows
unfolding rows_listed rows_received
rows_same mode ss rs e p y [] = refl
rows_same mode ss rs e p y (bytes ∷ rows) = ap (λ (xs : List Listed). cond (nat_lt (p + row_end mode) e) (row (row_bytes ss rs (p + row_at mode) bytes) (record { counts = true; ragged = false; row = y }) ∷ []) [] ++ xs) (rows_same mode ss rs e (p + total mode.across) (suc y) rows)

-- the parts before a frame's front lines
abbrev high_part : Mode → Frame → List Part
high_part mode f = sync_part mode f ++ (back_part mode f ++ rows_part mode f)

high_size : (mode : Mode) → IsMode mode → (f : Frame) → IsFrame mode f → size (high_part mode f) ≡ sync_area mode + back_area mode + active_area mode
high_size mode ok f good = grind (arith, size_append, sync_part, back_part, rows_part, size_blank, after_sync, size_rows, after_back, active_area)

high_and_front : (mode : Mode) (f : Frame) (frames : List Frame) → parts_of mode (f ∷ frames) ≡ high_part mode f ++ (front_part mode f ++ parts_of mode frames)
high_and_front mode f frames = grind (arith, parts_more, sync_part, append_assoc, back_part, rows_part, front_part)

at_front : (mode : Mode) → IsMode mode → (all : List Frame) (f : Frame) → IsFrame mode f → (frames : List Frame) (p : ℕ) → IsAt mode all (parts_of mode (f ∷ frames)) p → IsAt mode all (front_part mode f ++ parts_of mode frames) (front_at mode p)
at_front mode ok all f good frames p h =
    let s = high_size mode ok f good in
    at_next mode all (high_part mode f) (front_part mode f ++ parts_of mode frames) p (front_at mode p) (subst (λ (ps : List Part). IsAt mode all ps p) (high_and_front mode f frames) h) (omega (arith, s))

at_later : (mode : Mode) → IsMode mode → (all : List Frame) (f : Frame) → IsFrame mode f → (frames : List Frame) (p : ℕ) → IsAt mode all (parts_of mode (f ∷ frames)) p → IsAt mode all (parts_of mode frames) (next_at mode p)
at_later mode ok all f good frames p h = grind (arith, at_next, parts_first, size_frame, four_areas)

front_low : (mode : Mode) → IsMode mode → (all : List Frame) (f : Frame) → IsFrame mode f → (frames : List Frame) (p : ℕ) → IsAt mode all (parts_of mode (f ∷ frames)) p
    → LowAndSync mode all (front_part mode f) (parts_of mode frames) (front_at mode p) (next_at mode p)
front_low mode ok all f good frames p h =
    let qs = left mode (row_lines_of f.rows) (after_back mode f) in
    let n = size_blank mode false (front mode.down) qs in
    let w = wide_front mode ok in
    record {
      here = at_front mode ok all f good frames p h;
      place = omega (arith, n);
      long = omega (arith, n, w);
      begins = begins_blank mode ok false (front mode.down) qs ok.front_lines;
      even = even_blank mode false (front mode.down) qs;
      rest_begins = begins_parts mode ok frames;
    }

-- a frame is reported where three such columns were received after its rows
reported_where : (mode : Mode) (all : List Frame) (ss rs : List Column) (a e : ℕ) (last : Bool) → (scene : Scene mode all ss rs a e last) → (f : Frame) → IsFrame mode f → (frames : List Frame) (p : ℕ) → IsAt mode all (parts_of mode (f ∷ frames)) p → a ≤ front_at mode p
    → is_reported mode rs a e p ≡ turns e last (next_at mode p)
reported_where mode all ss rs a e last scene f good frames p h le =
    let x = front_at mode p in
    let parts = front_part mode f ++ parts_of mode frames in
    let here = at_front mode scene.ok all f good frames p h in
    let m : max x a ≡ x = omega (arith, le) in
    let d : min e e - x ≡ e - x = omega arith in
    ap (λ (i : ℕ). has_sync mode (take (min e e - i) (drop i rs))) m
    ∙ ap (λ (i : ℕ). has_sync mode (take i (drop x rs))) d
    ∙ sync_cells mode parts (drop x ss) (drop x rs) (there mode all ss rs a e last parts x scene here) (e - x)
    ∙ ap (met mode.positive []) (sym (at_seen ss rs e x parts))
    ∙ low_and_sync mode all ss rs a e last scene (front_part mode f) (parts_of mode frames) x (next_at mode p) (front_low mode scene.ok all f good frames p h) le

-- what stands on both sides for one frame
abbrev by_place : Mode → List Column → List Column → ℕ → Bool → ℕ → Frame → List Listed
by_place mode ss rs e last p f = rows_listed mode true ss rs e (p + sync_area mode + back_area mode) 0 f.rows ++ frame_reported mode e last (p + frame_area mode)

abbrev by_columns : Mode → List Column → List Column → ℕ → ℕ → ℕ → Frame → List Listed
by_columns mode ss rs a e p f =
    cond (counts mode rs a e p) (rows_received mode ss rs e (active_at mode p) 0 f.rows ++ cond (is_reported mode rs a e p) (whole_frame mode ∷ []) []) []

frame_same : (mode : Mode) (ss rs : List Column) (a e : ℕ) (last : Bool) (p : ℕ) (f : Frame) → counts mode rs a e p ≡ true → is_reported mode rs a e p ≡ turns e last (next_at mode p) → by_place mode ss rs e last p f ≡ by_columns mode ss rs a e p f
unfolding frame_reported
frame_same mode ss rs a e last p f counting reported = grind (arith, frame_area, rows_same, sync_area, back_area, turns)

no_sync : (mode : Mode) (cs : List Column) → has_sync mode (take 0 cs) ≡ false
unfolding has_sync
no_sync mode cs = refl

-- fewer than eleven columns from column x on: nothing is listed of the frame
frame_none : (mode : Mode) → IsMode mode → (ss rs : List Column) (a e : ℕ) (last : Bool) (p : ℕ) (f : Frame) → e < p + sync_area mode + 11 → by_place mode ss rs e last p f ≡ by_columns mode ss rs a e p f
frame_none mode ok ss rs a e last p f lt =
    let w = wide_back mode ok in
    let none = none_listed mode true ss rs e (p + sync_area mode + back_area mode) 0 f.rows (omega (arith, lt, ok.back_columns)) in
    let z : min e e - max (front_at mode p) a ≡ 0 = omega (arith, lt, w) in
    let reported : is_reported mode rs a e p ≡ false = ap (λ (k : ℕ). has_sync mode (take k (drop (max (front_at mode p) a) rs))) z ∙ no_sync mode (drop (max (front_at mode p) a) rs) in
    ap₂ (λ (xs ys : List Listed). xs ++ ys) none (reported_none mode e (p + frame_area mode) last (omega (arith, lt, w)))
    ∙ sym (ap₂ (λ (xs : List Listed) (t : Bool). cond (counts mode rs a e p) (xs ++ cond t (whole_frame mode ∷ []) []) []) (sym (rows_same mode ss rs e (active_at mode p) 0 f.rows) ∙ none) reported ∙ no_choice (counts mode rs a e p))

-- the eleven columns at x, the later of the frame's first column and a, decide
at_x : (mode : Mode) (all : List Frame) (ss rs : List Column) (a e : ℕ) (last : Bool) → (scene : Scene mode all ss rs a e last) → (f : Frame) → IsFrame mode f → (frames : List Frame) (p x : ℕ) → IsAt mode all (parts_of mode (f ∷ frames)) p
    → x ≡ max p a → (rest : List Part) → IsAt mode all rest x → Begins mode.positive rest → x + 11 ≤ p + sync_area mode → by_place mode ss rs e last p f ≡ by_columns mode ss rs a e p f
at_x mode all ss rs a e last scene f good frames p x h is rest at begins le = elim (cases_lt e (x + 11)) [
  | inl lt ↦ frame_none mode scene.ok ss rs a e last p f (omega (arith, lt, le))
  | inr more ↦
      let k = min (back_at mode p) e - x in
      frame_same mode ss rs a e last p f
      (ap (λ (i : ℕ). has_sync mode (take (min (back_at mode p) e - i) (drop i rs))) (sym is)
      ∙ sync_cells mode rest (drop x ss) (drop x rs) (there mode all ss rs a e last rest x scene at) k
      ∙ eleven_met mode.positive rest k (drop x ss) (drop x rs) begins (omega (arith, more, le)) (fine_there mode all ss rs a e last rest x k scene at))
      (reported_where mode all ss rs a e last scene f good frames p h (omega (arith, is, le)))
]

next_place : (mode : Mode) (p : ℕ) → p + frame_area mode ≡ next_at mode p
next_place mode p = omega arith

-- frames that begin at column a or later
after_same : (mode : Mode) (all : List Frame) (ss rs : List Column) (a e : ℕ) (last : Bool) → (scene : Scene mode all ss rs a e last) → (frames : List Frame) → AreFrames mode frames → (p : ℕ) → a ≤ p → IsAt mode all (parts_of mode frames) p
    → frames_from mode ss rs a e last p frames ≡ frames_received mode ss rs a e p frames
unfolding frames_from frames_received
after_same mode all ss rs a e last scene [] are p le h = refl
after_same mode all ss rs a e last scene (f ∷ frames) are p le h =
    let w = wide_sync mode scene.ok in
    counted mode f frames ss rs a e p last (omega (arith, w, le))
    ∙ ap₂ (λ (xs ys : List Listed). xs ++ ys)
    (at_x mode all ss rs a e last scene f are.0 frames p p h (omega (arith, le)) (parts_of mode (f ∷ frames)) h (begins_parts mode scene.ok (f ∷ frames)) (omega (arith, w)))
    (ap (λ (q : ℕ). frames_from mode ss rs a e last q frames) (next_place mode p)
    ∙ after_same mode all ss rs a e last scene frames are.1 (next_at mode p) (omega (arith, le)) (at_later mode scene.ok all f are.0 frames p h))

-- a frame whose sync lines are past counts not
past_same : (mode : Mode) (ss rs : List Column) (a e p : ℕ) (f : Frame) → p + sync_area mode ≤ a → by_columns mode ss rs a e p f ≡ []
past_same mode ss rs a e p f le =
    let z : min (back_at mode p) e - max p a ≡ 0 = omega (arith, le) in
    ap (λ (t : Bool). cond t (rows_received mode ss rs e (active_at mode p) 0 f.rows ++ cond (is_reported mode rs a e p) (whole_frame mode ∷ []) []) [])
    (ap (λ (k : ℕ). has_sync mode (take k (drop (max p a) rs))) z ∙ no_sync mode (drop (max p a) rs))

-- frames of which a lies in one, or after the last
pub start_same : (mode : Mode) (all : List Frame) (ss rs : List Column) (a e : ℕ) (last : Bool) → (scene : Scene mode all ss rs a e last) → (frames : List Frame) → AreFrames mode frames → (p : ℕ) → p ≤ a → IsAt mode all (parts_of mode frames) p
    → StartsSync mode frames (a - p) scene.mid → frames_from mode ss rs a e last p frames ≡ frames_received mode ss rs a e p frames
unfolding frames_from frames_received
start_same mode all ss rs a e last scene [] are p le h starts = refl
start_same mode all ss rs a e last scene (f ∷ frames) are p le h starts = elim (cases_lt a (p + sync_area mode)) [
  | inl lt ↦
      let k = starts.0 (omega (arith, lt, le)) in
      counted mode f frames ss rs a e p last lt
      ∙ ap₂ (λ (xs ys : List Listed). xs ++ ys)
      (at_x mode all ss rs a e last scene f are.0 frames p a h (omega (arith, le)) scene.mid (at_mid mode all ss rs a e last scene) k.0 (omega (arith, k.1, le)))
      (ap (λ (q : ℕ). frames_from mode ss rs a e last q frames) (next_place mode p) ∙ after_same mode all ss rs a e last scene frames are.1 (next_at mode p) (omega (arith, lt)) (at_later mode scene.ok all f are.0 frames p h))
  | inr past ↦
      uncounted mode f frames ss rs a e p last past
      ∙ ap₂ (λ (xs ys : List Listed). xs ++ ys) (sym (past_same mode ss rs a e p f past))
      (ap (λ (q : ℕ). frames_from mode ss rs a e last q frames) (next_place mode p)
      ∙ elim (cases_lt a (next_at mode p)) [
        | inl less ↦ after_same mode all ss rs a e last scene frames are.1 (next_at mode p) (omega (arith, less)) (at_later mode scene.ok all f are.0 frames p h)
        | inr least ↦ grind (arith, frame_area, at_later, StartsSync, start_same mode all ss rs a e last scene frames)
      ])
]
