-- The frames that are reported of a raster are those after its first frame, in order.
use Rattle.std.proofs.Common.{◌≡◌, ◌∙◌, ℕ, suc, ◌+◌, ◌-◌, ◌*◌, ◌≤◌, ◌<◌, Bool, true, false, cond, List, [], ◌∷◌, ◌++◌, length, take, drop, min, refl, ap, ap₂, sym, append_assoc, append-nil, arith}
use Rattle.std.specs.Prelude.{max, None}
use Rattle.std.proofs.Math.Nat.{suc-mul}
use Rattle.std.proofs.lemmas.Bool.{lt-ltb, cases_lt}
use Rattle.tmds_word.specs.Column.{Column}
use Rattle.period_grammar.specs.Heard.{heard}
use Rattle.link_laws.specs.Laws.{ReceivedOf, EndsControl}
use Rattle.source_end.specs.declared.mode.Mode.{Mode}
use Rattle.source_end.specs.Content.{Frame}
use Rattle.source_end.specs.Raster.{active, total, raster_of}
use Rattle.source_end.specs.RasterRefusals.{raster_fault}
use Rattle.source_end.proofs.Generated.{length_frames}
use Rattle.source_end.proofs.GeneratedRaster.{generated_has_raster}
use Rattle.source_end.proofs.RasterModes.{IsMode, AreFrames, good_mode, good_frames}
use Rattle.listing_writer.specs.Listed.{Listed, row, listed}
use Rattle.listing_laws.specs.FrameLaws.{back_at, active_at, front_at, next_at, row_at, row_end, reception, has_sync, counts, is_reported, row_bytes, rows_received, whole_frame, frames_received}
use Rattle.listing_laws.proofs.Law.{frames_heard}
use Rattle.sampling.specs.Counts.{reported_frames}
use Rattle.sampling.specs.CountLaws.{rows_as_received, frames_as_received, AreHeard, ReportedAfterFirst, GeneratedInOrder}
use Rattle.sampling.specs.Sampled.{sample_mode}

-- no sync columns are among no columns
none_received : (mode : Mode) (received : List Column) (a e i j : ℕ) → min j e ≤ max i a → has_sync mode (reception received a e i j) ≡ false
unfolding has_sync
none_received mode received a e i j le =
    let none : min j e - max i a ≡ 0 = omega (arith, le) in
    ap (λ (n : ℕ). has_sync mode (take n (drop (max i a) received))) none

-- the first frame does not count where its sync lines are past
first_past : (mode : Mode) (received : List Column) (a e : ℕ) → back_at mode 0 ≤ a → counts mode received a e 0 ≡ false
first_past mode received a e past = none_received mode received a e 0 (back_at mode 0) (omega (arith, past))

-- where a frame is reported, columns were received after its rows
rows_before : (mode : Mode) (received : List Column) (a e p : ℕ) → is_reported mode received a e p ≡ true → front_at mode p ≤ e
rows_before mode received a e p reported = grind (arith, cases_lt, none_received)

-- rows that were received, and the frame after them
rows_reported : (mode : Mode) → IsMode mode → (sent received : List Column) (e p y : ℕ) (rows before : List (List ℕ)) (later : List Listed) → p + length rows * total mode.across ≤ e
    → reported_frames before (rows_received mode sent received e p y rows ++ (whole_frame mode ∷ later)) ≡ (before ++ rows_as_received mode sent received p rows) ∷ reported_frames [] later
unfolding reported_frames rows_received rows_as_received
rows_reported mode ok sent received e p y [] before later le = ap (λ (rows : List (List ℕ)). rows ∷ reported_frames [] later) (sym (append-nil before))
rows_reported mode ok sent received e p y (bytes ∷ rows) before later le =
    let more = suc-mul (length rows) (total mode.across) in
    let room : p + total mode.across + length rows * total mode.across ≤ e = omega (arith, le, more) in
    let at : p + row_end mode < e = omega (arith, room, ok.front_columns) in
    let here = row_bytes sent received (p + row_at mode) bytes in
    ap (λ (t : Bool). reported_frames before ((cond t (row here (record { counts = true; ragged = false; row = y }) ∷ []) [] ++ rows_received mode sent received e (p + total mode.across) (suc y) rows) ++ (whole_frame mode ∷ later))) (lt-ltb (p + row_end mode) e at)
    ∙ rows_reported mode ok sent received e (p + total mode.across) (suc y) rows (before ++ here ∷ []) later room
    ∙ ap (λ (rs : List (List ℕ)). rs ∷ reported_frames [] later) (append_assoc before (here ∷ []) (rows_as_received mode sent received (p + total mode.across) rows))

frames_reported : (mode : Mode) → IsMode mode → (sent received : List Column) (a e p : ℕ) (frames : List Frame) → AreFrames mode frames → AreHeard mode received a e p frames
    → reported_frames [] (frames_received mode sent received a e p frames) ≡ frames_as_received mode sent received p frames
unfolding frames_received frames_as_received reported_frames
frames_reported mode ok sent received a e p [] are heard = refl
frames_reported mode ok sent received a e p (f ∷ frames) are heard =
    let rows = rows_received mode sent received e (active_at mode p) 0 f.rows in
    let rest = frames_received mode sent received a e (next_at mode p) frames in
    let within = rows_before mode received a e p heard.1 in
    let lines : length f.rows * total mode.across ≡ active mode.down * total mode.across = ap (λ (n : ℕ). n * total mode.across) are.0.count in
    let room : active_at mode p + length f.rows * total mode.across ≤ e = omega (arith, within, lines) in
    ap₂ (λ (t u : Bool). reported_frames [] (cond t (rows ++ cond u (whole_frame mode ∷ []) []) [] ++ rest)) heard.0 heard.1
    ∙ ap (reported_frames []) (append_assoc rows (whole_frame mode ∷ []) rest)
    ∙ rows_reported mode ok sent received e (active_at mode p) 0 f.rows [] rest room
    ∙ ap (λ (fs : List (List (List ℕ))). rows_as_received mode sent received (active_at mode p) f.rows ∷ fs) (frames_reported mode ok sent received a e (next_at mode p) frames are.1 heard.2)

pub reported_after_first : ReportedAfterFirst
unfolding frames_received
reported_after_first mode first frames fault sent received reception a m end le past heard =
    let later = frames_received mode sent received a (a + m) (next_at mode 0) frames in
    let rows = rows_received mode sent received (a + m) (active_at mode 0) 0 first.rows in
    ap (reported_frames []) (frames_heard mode (first ∷ frames) fault sent received reception a m end le)
    ∙ ap (λ (t : Bool). reported_frames [] (cond t (rows ++ cond (is_reported mode received a (a + m) 0) (whole_frame mode ∷ []) []) [] ++ later)) (first_past mode received a (a + m) past)
    ∙ frames_reported mode (good_mode mode (first ∷ frames) fault) sent received a (a + m) (next_at mode 0) frames (good_frames mode (first ∷ frames) fault).1 heard

-- the same of a content, by its frames after the first
content_reported : (mode : Mode) (content : List Frame) → 1 ≤ length content → raster_fault mode content ≡ None → (sent received : List Column) → ReceivedOf (raster_of mode content) sent received
    → (a m : ℕ) → EndsControl (raster_of mode content) (a + 11) → a + m ≤ length received → back_at mode 0 ≤ a → AreHeard mode received a (a + m) (next_at mode 0) (drop 1 content)
    → reported_frames [] (listed (heard (take m (drop a received)))) ≡ frames_as_received mode sent received (next_at mode 0) (drop 1 content)
content_reported mode [] some fault sent received reception a m end le past heard = absurd (omega (arith, some))
content_reported mode (first ∷ frames) some fault sent received reception a m end le past heard = reported_after_first mode first frames fault sent received reception a m end le past heard

pub generated_in_order : GeneratedInOrder
generated_in_order n content g some few sent received reception a m end le past heard =
    let many : 1 ≤ length content = omega (arith, some, length_frames g.avi g.audio n, ap (λ (frames : List Frame). length frames) g.content_is) in
    content_reported sample_mode content many (generated_has_raster n content few g sample_mode refl) sent received reception a m end le past heard
