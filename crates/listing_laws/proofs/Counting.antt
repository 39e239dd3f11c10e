-- Whole frames, one after another, and the columns after the last.
use Rattle.std.proofs.Common.{◌≡◌, ℕ, zero, suc, ◌+◌, ◌-◌, ◌*◌, ◌<◌, ◌≤◌, Bool, true, false, not, ◌&&◌, ◌||◌, cond, List, [], ◌∷◌, ◌++◌, length, drop, replicate, refl, sym, ap, ap₂, subst, ◌∙◌, append-nil, arith, inl, inr}
use Rattle.std.specs.Prelude.{nat_le}
use Rattle.std.proofs.lemmas.Bool.{le-leb, lt-leb, cases_lt}
use Rattle.std.proofs.lemmas.List.{length-replicate}
use Rattle.tmds_word.specs.Column.{Column}
use Rattle.terc4.specs.Columns.{one_if}
use Rattle.island_pack.specs.declared.packet.Packet.{Packet}
use Rattle.frame_build.specs.FrameEvent.{vsync_of}
use Rattle.source_end.specs.declared.mode.Mode.{Mode}
use Rattle.source_end.specs.Content.{Frame}
use Rattle.source_end.specs.Raster.{Part, column, sync, back, active, front, total, laid, blank, final_columns, parts_of}
use Rattle.source_end.specs.Gathering.{size}
use Rattle.source_end.specs.Lines.{left}
use Rattle.source_end.proofs.RasterModes.{IsMode, AreRows, IsFrame, AreFrames}
use Rattle.source_end.proofs.RasterSizes.{size_blank, size_rows, sync_part, after_sync, back_part, after_back, rows_part, front_part, parts_none, parts_more}
use Rattle.listing_laws.specs.FrameLaws.{whole_frame}
use Rattle.listing_writer.specs.Listed.{Listed, frame}
use Rattle.listing_laws.proofs.Machine.{ends}
use Rattle.listing_laws.proofs.Cells.{Cell, State, after, says, after_append, says_append}
use Rattle.listing_laws.proofs.Ready.{Ready, reports_nothing, is_heard}
use Rattle.listing_laws.proofs.Parts.{parts_cells}
use Rattle.listing_laws.proofs.Parts as part
use Rattle.listing_laws.proofs.Lines.{Even, even_none, even_column, Begins, begins_more, begins_same, final_vsync}
use Rattle.listing_laws.proofs.Rows.{seen, seen_append, seen_even}
use Rattle.listing_laws.proofs.Frames.{even_blank, begins_blank, seen_turn, seen_few, row_lines_of, rows_listed, none_listed, rows_say}

-- how many columns the sync and back lines take, and a whole frame
abbrev pub sync_area : Mode → ℕ
sync_area mode = sync mode.down * total mode.across

abbrev pub back_area : Mode → ℕ
back_area mode = back mode.down * total mode.across

abbrev pub active_area : Mode → ℕ
active_area mode = active mode.down * total mode.across

abbrev pub front_area : Mode → ℕ
front_area mode = front mode.down * total mode.across

abbrev pub frame_area : Mode → ℕ
frame_area mode = sync_area mode + back_area mode + active_area mode + front_area mode

some_area : (n t : ℕ) → 1 ≤ n → t ≤ n * t
some_area n t h = grind arith

pub wide_sync : (mode : Mode) → IsMode mode → 14 ≤ sync_area mode
wide_sync mode ok = let h = some_area (sync mode.down) (total mode.across) ok.sync_lines in omega (arith, h, ok.back_columns)

pub wide_back : (mode : Mode) → IsMode mode → 14 ≤ back_area mode
wide_back mode ok = let h = some_area (back mode.down) (total mode.across) ok.back_lines in omega (arith, h, ok.back_columns)

pub wide_front : (mode : Mode) → IsMode mode → 14 ≤ front_area mode
wide_front mode ok = let h = some_area (front mode.down) (total mode.across) ok.front_lines in omega (arith, h, ok.back_columns)

-- whether the sync lines at column p are heard in the columns up to column e: eleven of them were received, or fewer,
-- and `last` says whether VSYNC is at its active level at last
abbrev pub turns : ℕ → Bool → ℕ → Bool
turns e last p = nat_le (p + 11) e || (nat_le p e && last)

pub turns_yes : (e p : ℕ) (last : Bool) → p + 11 ≤ e → turns e last p ≡ true
turns_yes e p last le = ap (λ (t : Bool). t || (nat_le p e && last)) (le-leb (p + 11) e le)

pub turns_no : (e p : ℕ) (last : Bool) → e < p → turns e last p ≡ false
turns_no e p last lt = ap₂ (λ (t u : Bool). t || (u && last)) (lt-leb (p + 11) e (omega (arith, lt))) (lt-leb p e lt)

pub turns_last : (e p : ℕ) (last : Bool) → p ≤ e → e < p + 11 → turns e last p ≡ last
turns_last e p last le lt = ap₂ (λ (t u : Bool). t || (u && last)) (lt-leb (p + 11) e lt) (le-leb p e le)

-- a frame is reported where the sync lines after it are heard
unfoldable pub frame_reported : Mode → ℕ → Bool → ℕ → List Listed
frame_reported mode e last p = cond (turns e last p) (whole_frame mode ∷ []) []

-- what is listed of frames from column p on that all count
unfoldable pub frames_listed : Mode → List Column → List Column → ℕ → Bool → ℕ → List Frame → List Listed
frames_listed mode ss rs e last p [] = []
frames_listed mode ss rs e last p (f ∷ frames) =
    rows_listed mode true ss rs e (p + sync_area mode + back_area mode) 0 f.rows
    ++ (frame_reported mode e last (p + frame_area mode) ++ frames_listed mode ss rs e last (p + frame_area mode) frames)

-- the frame of a group that was there before
unfoldable pub pending : ℕ → Bool → ℕ → Bool → List ℕ → List Listed
pending e last p c g = cond (turns e last p) (ends true c g) []

pending_is : (e p : ℕ) (last : Bool) (c : Bool) (g : List ℕ) → p + 11 ≤ e → pending e last p c g ≡ ends true c g
unfolding pending
pending_is e p last c g le = ap (λ (t : Bool). cond t (ends true c g) []) (turns_yes e p last le)

pending_none : (e p : ℕ) (last : Bool) (c : Bool) (g : List ℕ) → e < p → pending e last p c g ≡ []
unfolding pending
pending_none e p last c g lt = ap (λ (t : Bool). cond t (ends true c g) []) (turns_no e p last lt)

pub reported_none : (mode : Mode) (e p : ℕ) (last : Bool) → e < p → frame_reported mode e last p ≡ []
unfolding frame_reported
reported_none mode e p last lt = ap (λ (t : Bool). cond t (whole_frame mode ∷ []) []) (turns_no e p last lt)

-- the frame of a frame's rows
frame_is : (mode : Mode) → IsMode mode → ends true true (replicate (active mode.down) (active mode.across)) ≡ whole_frame mode ∷ []
frame_is mode ok = grind (arith, ends, length-replicate)

-- the frame of rows that were received, where the sync lines after them are heard
pending_frame : (mode : Mode) → IsMode mode → (e p : ℕ) (last : Bool) (g : List ℕ) → (p ≤ e → g ≡ replicate (active mode.down) (active mode.across)) → pending e last p true g ≡ frame_reported mode e last p
unfolding pending frame_reported
pending_frame mode ok e p last g grown = grind (arith, cases_lt, pending_none, reported_none, ends, frame_is)

-- where the first columns of frames were not received, nothing is listed from there on
pub frames_none : (mode : Mode) → IsMode mode → (ss rs : List Column) (e p : ℕ) (last : Bool) (frames : List Frame) → e < p + 11 → frames_listed mode ss rs e last p frames ≡ []
unfolding frames_listed
frames_none mode ok ss rs e p last [] lt = refl
frames_none mode ok ss rs e p last (f ∷ frames) lt =
    let w = wide_sync mode ok in
    ap₂ (λ (xs ys : List Listed). xs ++ ys)
    (none_listed mode true ss rs e (p + sync_area mode + back_area mode) 0 f.rows (omega (arith, ok.back_columns, lt, w)))
    (ap₂ (λ (xs ys : List Listed). xs ++ ys) (reported_none mode e (p + frame_area mode) last (omega (arith, lt, w))) (frames_none mode ok ss rs e (p + frame_area mode) last frames (omega (arith, lt, w))))

-- From the rows on.

-- whether VSYNC is at its active level at last
abbrev pub IsLast : Mode → List Cell → State → Bool → Type 0
IsLast mode ts s last = is_heard mode.positive (after ts s).heard ≡ last

pub last_rest : (mode : Mode) (xs ys : List Cell) (s : State) (last : Bool) → IsLast mode (xs ++ ys) s last → IsLast mode ys (after xs s) last
last_rest mode xs ys s last h = ap (λ (t : State). is_heard mode.positive t.heard) (sym (after_append xs ys s)) ∙ h

pub last_by : (mode : Mode) (xs ys : List Cell) (s : State) (last : Bool) → xs ≡ ys → IsLast mode xs s last → IsLast mode ys s last
last_by mode xs ys s last e h = subst (λ (ts : List Cell). IsLast mode ts s last) e h

pub frames_more : (mode : Mode) (f : Frame) (frames : List Frame) (ss rs : List Column) (e p : ℕ) (last : Bool) → frames_listed mode ss rs e last p (f ∷ frames)
    ≡ rows_listed mode true ss rs e (p + sync_area mode + back_area mode) 0 f.rows ++ (frame_reported mode e last (p + frame_area mode) ++ frames_listed mode ss rs e last (p + frame_area mode) frames)
unfolding frames_listed
frames_more mode f frames ss rs e p last = refl

-- rows of a counting group from row y on, front lines, and what follows, which begins at column q
pub rows_and_front : (mode : Mode) → IsMode mode → (rows : List (List ℕ)) → AreRows (active mode.across) rows → (qs : List Packet) (back : List Part) (lines : List Listed)
    → (ss rs : List Column) (e p q : ℕ) (last : Bool) → q ≡ p + length rows * total mode.across + front_area mode → e ≤ length ss → e ≤ length rs
    → (s : State) (c : Bool) (y : ℕ) → y + length rows ≡ active mode.down → Ready s (not mode.positive) c (replicate y (active mode.across))
    → ((t : State) (g : List ℕ) → (q ≤ e → g ≡ replicate (active mode.down) (active mode.across)) → Ready t (not mode.positive) c g → IsLast mode (seen ss rs e q back) t last → says (seen ss rs e q back) t ≡ lines)
    → IsLast mode (seen ss rs e p (laid mode (row_lines_of rows) qs ++ (laid mode (replicate (front mode.down) (blank false)) (left mode (row_lines_of rows) qs) ++ back))) s last
    → says (seen ss rs e p (laid mode (row_lines_of rows) qs ++ (laid mode (replicate (front mode.down) (blank false)) (left mode (row_lines_of rows) qs) ++ back))) s
    ≡ rows_listed mode c ss rs e p y rows ++ lines
rows_and_front mode ok rows are qs back lines ss rs e p q last place ends_sent ends_received s c y count was later final =
    let b = not mode.positive in
    let one = laid mode (row_lines_of rows) qs in
    let two = laid mode (replicate (front mode.down) (blank false)) (left mode (row_lines_of rows) qs) in
    let n = size_rows mode ok rows are qs in
    let m = size_blank mode false (front mode.down) (left mode (row_lines_of rows) qs) in
    let first = seen ss rs e p one in
    let second = seen ss rs e (p + size one) two in
    let third = seen ss rs e (p + size one + size two) back in
    let here : p + size one + size two ≡ q = omega (arith, n, m, place) in
    let all : seen ss rs e p (one ++ (two ++ back)) ≡ first ++ (second ++ third) =
    seen_append ss rs e p one (two ++ back) ∙ ap (λ (ts : List Cell). first ++ ts) (seen_append ss rs e (p + size one) two back) in
    let r = rows_say mode ok rows are qs ss rs e p ends_sent ends_received s c y (omega (arith, count, ok.few_lines)) was in
    let f = reports_nothing b c r.group_after second (after first s) (seen_even b ss rs e (p + size one) two (even_blank mode false (front mode.down) (left mode (row_lines_of rows) qs))) r.ready in
    let at_last = last_rest mode second third (after first s) last (last_rest mode first (second ++ third) s last (last_by mode _ _ s last all final)) in
    let g = later (after second (after first s)) r.group_after (λ h. r.grown (omega (arith, h, place)) ∙ ap (λ (k : ℕ). replicate k (active mode.across)) count) f.ready
    (last_by mode _ _ (after second (after first s)) last (ap (λ (k : ℕ). seen ss rs e k back) here) at_last) in
    ap (λ (ts : List Cell). says ts s) all ∙ says_append first (second ++ third) s
    ∙ ap₂ (λ (xs ys : List Listed). xs ++ ys) r.listed (says_append second third (after first s) ∙ ap₂ (λ (xs ys : List Listed). xs ++ ys) f.nothing (ap (λ (k : ℕ). says (seen ss rs e k back) (after second (after first s))) here ∙ g))

-- The columns after the last frame.

pub even_same : (b : Bool) (v n : ℕ) → vsync_of v ≡ b → Even b (replicate n (column v))
even_same b v zero e = even_none b
even_same b v (suc n) e = even_column b v (replicate n (column v)) e (even_same b v n e)

pub begins_final : (mode : Mode) → Begins mode.positive (final_columns mode)
begins_final mode = begins_same mode.positive (3 * one_if mode.positive) 21 (final_vsync mode.positive)

pub even_final : (mode : Mode) → Even mode.positive (final_columns mode)
even_final mode = even_same mode.positive (3 * one_if mode.positive) 32 (final_vsync mode.positive)

pub begins_parts : (mode : Mode) → IsMode mode → (frames : List Frame) → Begins mode.positive (parts_of mode frames)
begins_parts mode ok [] = subst (λ (ps : List Part). Begins mode.positive ps) (sym (parts_none mode)) (begins_final mode)
begins_parts mode ok (f ∷ frames) =
    subst (λ (ps : List Part). Begins mode.positive ps) (sym (parts_more mode f frames))
    (begins_more mode.positive (sync_part mode f) _ (begins_blank mode ok true (sync mode.down) f.packets ok.sync_lines))

pub listed_nothing : (mode : Mode) (ss rs : List Column) (e p : ℕ) (last : Bool) → frames_listed mode ss rs e last p [] ≡ []
unfolding frames_listed
listed_nothing mode ss rs e p last = refl

pub no_choice : (t : Bool) → cond t (let none : List Listed = [] in none) [] ≡ []
no_choice t = grind arith

pub twice : (b : Bool) → b ≡ not (not b)
twice b = grind arith

-- back lines: after them rows count, whatever was heard before them was the active level
pub back_lines : (mode : Mode) → IsMode mode → (n : ℕ) → 1 ≤ n → (qs : List Packet) (back : List Part) (lines : List Listed)
    → (ss rs : List Column) (e p q : ℕ) (last : Bool) → q ≡ p + n * total mode.across → (e < p + 11 → lines ≡ []) → (s : State) (c : Bool) (g : List ℕ) → ends true c g ≡ [] → Ready s mode.positive c g
    → ((t : State) → Ready t (not mode.positive) true [] → IsLast mode (seen ss rs e q back) t last → says (seen ss rs e q back) t ≡ lines)
    → IsLast mode (seen ss rs e p (laid mode (replicate n (blank false)) qs ++ back)) s last
    → says (seen ss rs e p (laid mode (replicate n (blank false)) qs ++ back)) s ≡ lines
back_lines mode ok n some qs back lines ss rs e p q last place silent s c g no_frame was later final =
    let b = not mode.positive in
    let one = laid mode (replicate n (blank false)) qs in
    let ready = subst (λ (x : Bool). Ready s x c g) (twice mode.positive) was in
    let begins = begins_blank mode ok false n qs some in
    elim (cases_lt e (p + 11)) [
      | inl lt ↦
          seen_few b c g ss rs e p (one ++ back) s (begins_more b one back begins) lt ready
          ∙ ap (λ (xs : List Listed). cond (is_heard b (after (seen ss rs e p (one ++ back)) s).heard) xs []) no_frame
          ∙ no_choice (is_heard b (after (seen ss rs e p (one ++ back)) s).heard)
          ∙ sym (silent lt)
      | inr le ↦ grind (arith, size_blank, seen, seen_append, seen_turn, even_blank, last_rest, last_by, Cell, says, says_append)
    ]

pub silent_frame : (mode : Mode) → IsMode mode → (f : Frame) (frames : List Frame) (ss rs : List Column) (e p : ℕ) (last : Bool) → e < p + sync_area mode + 11
    → rows_listed mode true ss rs e (p + sync_area mode + back_area mode) 0 f.rows ++ (frame_reported mode e last (p + frame_area mode) ++ frames_listed mode ss rs e last (p + frame_area mode) frames) ≡ []
silent_frame mode ok f frames ss rs e p last lt = grind (arith, wide_back, none_listed, reported_none, frames_none)

-- what is said of a frame's columns after its sync lines
pub after_sync_lines : (mode : Mode) → IsMode mode → (f : Frame) → IsFrame mode f → (frames : List Frame) (ss rs : List Column) (e p : ℕ) (last : Bool) → e ≤ length ss → e ≤ length rs
    → (s : State) (c : Bool) (g : List ℕ) → ends true c g ≡ [] → Ready s mode.positive c g
    → ((t : State) (c : Bool) (g : List ℕ) → Ready t (not mode.positive) c g → IsLast mode (seen ss rs e (p + frame_area mode) (parts_of mode frames)) t last
    → says (seen ss rs e (p + frame_area mode) (parts_of mode frames)) t ≡ pending e last (p + frame_area mode) c g ++ frames_listed mode ss rs e last (p + frame_area mode) frames)
    → IsLast mode (seen ss rs e (p + sync_area mode) (back_part mode f ++ (rows_part mode f ++ (front_part mode f ++ parts_of mode frames)))) s last
    → says (seen ss rs e (p + sync_area mode) (back_part mode f ++ (rows_part mode f ++ (front_part mode f ++ parts_of mode frames)))) s
    ≡ rows_listed mode true ss rs e (p + sync_area mode + back_area mode) 0 f.rows ++ (frame_reported mode e last (p + frame_area mode) ++ frames_listed mode ss rs e last (p + frame_area mode) frames)
after_sync_lines mode ok f good frames ss rs e p last ends_sent ends_received s c g no_frame was next final =
    let area : length f.rows * total mode.across ≡ active_area mode = ap (λ (n : ℕ). n * total mode.across) good.count in
    let count : 0 + length f.rows ≡ active mode.down = omega (arith, good.count) in
    back_lines mode ok (back mode.down) ok.back_lines (after_sync mode f) (rows_part mode f ++ (front_part mode f ++ parts_of mode frames)) _
    ss rs e (p + sync_area mode) (p + sync_area mode + back_area mode) last refl (silent_frame mode ok f frames ss rs e p last) s c g no_frame was
    (λ t now final2.
    rows_and_front mode ok f.rows good.rows (after_back mode f) (parts_of mode frames) (frame_reported mode e last (p + frame_area mode) ++ frames_listed mode ss rs e last (p + frame_area mode) frames)
    ss rs e (p + sync_area mode + back_area mode) (p + frame_area mode) last (omega (arith, area)) ends_sent ends_received t true 0 count now
    (λ u h grown ready final3. next u true h ready final3 ∙ ap (λ (xs : List Listed). xs ++ frames_listed mode ss rs e last (p + frame_area mode) frames) (pending_frame mode ok e (p + frame_area mode) last h grown)) final2) final

pub nothing_seen : (ss rs : List Column) (e p : ℕ) (parts : List Part) → e < p → seen ss rs e p parts ≡ []
unfolding seen
nothing_seen ss rs e p parts lt = let z : e - p ≡ 0 = omega (arith, lt) in ap (λ (k : ℕ). parts_cells k parts (drop p ss) (drop p rs)) z ∙ part.parts_none parts (drop p ss) (drop p rs)

pub nothing_said : (s : State) → says [] s ≡ []
unfolding says
nothing_said s = refl

-- fewer than eleven columns of sync lines were received
few_say : (mode : Mode) (parts : List Part) (ss rs : List Column) (e p : ℕ) (last : Bool) → Begins mode.positive parts → e < p + 11 → (s : State) (c : Bool) (g : List ℕ) → Ready s (not mode.positive) c g
    → IsLast mode (seen ss rs e p parts) s last → says (seen ss rs e p parts) s ≡ pending e last p c g
unfolding pending
few_say mode parts ss rs e p last begins lt s c g was final = grind (arith, cases_lt, Cell, says, nothing_seen, nothing_said, pending_none, seen_few, ends, turns_last)

final_say : (mode : Mode) (ss rs : List Column) (e p : ℕ) (last : Bool) (s : State) (c : Bool) (g : List ℕ) → Ready s (not mode.positive) c g → IsLast mode (seen ss rs e p (final_columns mode)) s last
    → says (seen ss rs e p (final_columns mode)) s ≡ pending e last p c g ++ []
final_say mode ss rs e p last s c g was final =
    elim (cases_lt e (p + 11)) [
      | inl lt ↦ few_say mode (final_columns mode) ss rs e p last (begins_final mode) lt s c g was final ∙ sym (append-nil (pending e last p c g))
      | inr le ↦
          let t = seen_turn mode.positive c g ss rs e p (final_columns mode) s (begins_final mode) (even_final mode) le was in
          t.frame ∙ sym (pending_is e p last c g le) ∙ sym (append-nil (pending e last p c g))
    ]

-- a frame whose sync lines begin, and eleven columns of them were received
frame_say : (mode : Mode) → IsMode mode → (f : Frame) → IsFrame mode f → (frames : List Frame) (ss rs : List Column) (e p : ℕ) (last : Bool) → e ≤ length ss → e ≤ length rs
    → (s : State) (c : Bool) (g : List ℕ) → Ready s (not mode.positive) c g → p + 11 ≤ e
    → ((t : State) (c2 : Bool) (g2 : List ℕ) → Ready t (not mode.positive) c2 g2 → IsLast mode (seen ss rs e (p + frame_area mode) (parts_of mode frames)) t last
    → says (seen ss rs e (p + frame_area mode) (parts_of mode frames)) t ≡ pending e last (p + frame_area mode) c2 g2 ++ frames_listed mode ss rs e last (p + frame_area mode) frames)
    → IsLast mode (seen ss rs e p (parts_of mode (f ∷ frames))) s last
    → says (seen ss rs e p (parts_of mode (f ∷ frames))) s ≡ pending e last p c g ++ frames_listed mode ss rs e last p (f ∷ frames)
frame_say mode ok f good frames ss rs e p last ends_sent ends_received s c g was le next final =
    let one = sync_part mode f in
    let more = back_part mode f ++ (rows_part mode f ++ (front_part mode f ++ parts_of mode frames)) in
    let m = size_blank mode true (sync mode.down) f.packets in
    let here : p + size one ≡ p + sync_area mode = omega (arith, m) in
    let first = seen ss rs e p one in
    let split = ap (λ (ps : List Part). seen ss rs e p ps) (parts_more mode f frames) ∙ seen_append ss rs e p one more in
    let at_last = last_rest mode first (seen ss rs e (p + size one) more) s last (last_by mode _ _ s last split final) in
    let t = seen_turn mode.positive c g ss rs e p one s (begins_blank mode ok true (sync mode.down) f.packets ok.sync_lines) (even_blank mode true (sync mode.down) f.packets) le was in
    ap (λ (ts : List Cell). says ts s) split ∙ says_append first (seen ss rs e (p + size one) more) s
    ∙ ap₂ (λ (xs ys : List Listed). xs ++ ys) (t.frame ∙ sym (pending_is e p last c g le))
    (ap (λ (k : ℕ). says (seen ss rs e k more) (after first s)) here
    ∙ after_sync_lines mode ok f good frames ss rs e p last ends_sent ends_received (after first s) true [] refl t.ready next (last_by mode _ _ (after first s) last (ap (λ (k : ℕ). seen ss rs e k more) here) at_last)
    ∙ sym (frames_more mode f frames ss rs e p last))

-- what is said of whole frames, from one's first column on
pub frames_say : (mode : Mode) → IsMode mode → (frames : List Frame) → AreFrames mode frames → (ss rs : List Column) (e : ℕ) (last : Bool) → e ≤ length ss → e ≤ length rs
    → (p : ℕ) (s : State) (c : Bool) (g : List ℕ) → Ready s (not mode.positive) c g → IsLast mode (seen ss rs e p (parts_of mode frames)) s last
    → says (seen ss rs e p (parts_of mode frames)) s ≡ pending e last p c g ++ frames_listed mode ss rs e last p frames
frames_say mode ok [] are ss rs e last ends_sent ends_received p s c g was final =
    ap (λ (ps : List Part). says (seen ss rs e p ps) s) (parts_none mode)
    ∙ final_say mode ss rs e p last s c g was (last_by mode _ _ s last (ap (λ (ps : List Part). seen ss rs e p ps) (parts_none mode)) final)
    ∙ ap (λ (xs : List Listed). pending e last p c g ++ xs) (sym (listed_nothing mode ss rs e p last))
frames_say mode ok (f ∷ frames) are ss rs e last ends_sent ends_received p s c g was final =
    elim (cases_lt e (p + 11)) [
      | inl lt ↦ few_say mode (parts_of mode (f ∷ frames)) ss rs e p last (begins_parts mode ok (f ∷ frames)) lt s c g was final
          ∙ sym (append-nil (pending e last p c g)) ∙ ap (λ (xs : List Listed). pending e last p c g ++ xs) (sym (frames_none mode ok ss rs e p last (f ∷ frames) lt))
      | inr le ↦ frame_say mode ok f are.0 frames ss rs e p last ends_sent ends_received s c g was le
          (λ t c2 g2 now final2. frames_say mode ok frames are.1 ss rs e last ends_sent ends_received (p + frame_area mode) t c2 g2 now final2) final
    ]
