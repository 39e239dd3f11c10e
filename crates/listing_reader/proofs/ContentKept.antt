-- The reader of a content listing keeps what is to be kept of what the lines said, line by line and over
-- the whole text.
use Rattle.std.proofs.Common.{◌≡◌, ℕ, suc, ◌+◌, ◌*◌, Bool, true, false, not, ◌==◌, ◌&&◌, ◌||◌, List, [], ◌∷◌, ◌++◌, length, Option, Some, None, refl, ap, ap₂, sym, subst, ◌∙◌, arith, length-append}
use Rattle.std.specs.Prelude.{nat_le, Result}
use Rattle.std.proofs.lemmas.Bool.{eqb-true}
use Rattle.audio_packets.specs.declared.sample.Sample.{Sample}
use Rattle.source_end.specs.Content.{Frame, empty_frame}
use Rattle.source_end.specs.FrameFaults.{next_fault}
use Rattle.source_end.specs.Raster.{active}
use Rattle.source_end.specs.RasterRefusals.{bad_mode, is_in_range, numbers_of}
use Rattle.source_end.specs.declared.mode.Mode.{Mode}
use Rattle.source_end.specs.declared.refusal.RasterFault.{RasterFault}
use Rattle.source_end.specs.declared.refusal.RasterFault.TheVariants.{BadMode}
use Rattle.source_end.proofs.FrameFaults.{are_more, raster_more, raster_none}
use Rattle.source_end.proofs.RasterModes.{AreRows, IsFrame, AreFrames, in_test}
use Rattle.listing_reader.specs.declared.fault.ListCause.{ListCause}
use Rattle.listing_reader.specs.declared.fault.ListCause.TheVariants.{Order}
use Rattle.listing_reader.specs.Causes.{unless}
use Rattle.listing_reader.specs.LineSteps.{LineStep, tells, closes, wrong, read_lines, ended_by, steps_on, within_text}
use Rattle.listing_reader.specs.ContentForms.{ContentLine, mode_line, row_line, frame_line, packet_line, sample_line, end_line, fault_line, no_line, content_form_of}
use Rattle.listing_reader.specs.ContentDrafts.{ContentDraft, are_numbers_in_range, content_cause, has_mode, no_content, is_raster_mode, settled, with_content, with_sample, with_samples}
use Rattle.listing_reader.specs.ContentKept.{ContentKept, fault_after, fault_in, is_reported, kept_cause, kept_frame, kept_of, kept_step, kept_step_by, rastered, read_by, unless_fault, with_kept}
use Rattle.listing_reader.specs.ContentReading.{closed_content, content_step, content_step_by}
use Rattle.listing_reader.specs.ContentReported.{pending}
use Rattle.listing_reader.proofs.ContentFrames.{with_samples_rows}
use Rattle.listing_reader.proofs.ContentSteps.{samples_count}
use Rattle.listing_reader.proofs.Feeds.{and-left, and-right}

-- ---- causes

-- ---- what the lines that were taken said

-- nothing is given of a frame before the mode, and in the mode of a raster each row and each whole frame is right
pub record IsSound (draft : ContentDraft) : Type 0 where
  pub unbegun : draft.mode ≡ None → (draft.frames ≡ []) × (draft.current ≡ empty_frame) × (draft.samples ≡ [])
  pub right : (mode : Mode) → draft.mode ≡ Some mode → bad_mode 0 (numbers_of mode) ≡ None → AreFrames mode draft.frames × AreRows (active mode.across) draft.current.rows

pub none_sound : IsSound no_content
none_sound = record { unbegun = λ e. (refl, refl, refl); right = λ mode is ok. (tt, refl) }

reported_false : (m : Option Mode) → not (is_reported m) ≡ true → m ≡ None
reported_false m h = grind arith

reported_true : (m : Option Mode) → is_reported m ≡ true → m ≡ None → ⊥
reported_true m h k = grind arith

unless_none : (b : Bool) (cause : ListCause) (rest : Option ListCause) → unless b cause rest ≡ None → (b ≡ true) × (rest ≡ None)
unless_none b cause rest h = grind arith

raster_numbers : (i : ℕ) (ns : List ℕ) → bad_mode i ns ≡ None → are_numbers_in_range i ns ≡ true
raster_numbers i [] h = refl
raster_numbers i (n ∷ ns) h =
    let t = in_test (is_in_range i n) (bad_mode (suc i) ns) (BadMode i) h in
    let next : suc i ≡ i + 1 = omega arith in
    ap₂ (λ (a b : Bool). a && b) t.0 (ap (λ (k : ℕ). are_numbers_in_range k ns) (sym next) ∙ raster_numbers (suc i) ns t.1)

raster_mode : (mode : Mode) → bad_mode 0 (numbers_of mode) ≡ None → is_raster_mode mode ≡ true
unfolding is_raster_mode
raster_mode mode h = raster_numbers 0 (numbers_of mode) h

where_raster : (r b : Bool) → r ≡ true → (not r || b) ≡ true → b ≡ true
where_raster r b h k = grind arith

wide_more : (width : ℕ) (rows : List (List ℕ)) (bytes : List ℕ) → AreRows width rows → (length bytes == 3 * width) ≡ true → AreRows width (rows ++ bytes ∷ [])
wide_more width [] bytes wide is = ap (λ (b : Bool). b && true) is
wide_more width (row ∷ rows) bytes wide is = ap₂ (λ (a b : Bool). a && b) (and-left _ _ wide) (wide_more width rows bytes (and-right _ _ wide) is)

-- the frame that ends
frame_is : (draft : ContentDraft) (width height : ℕ) → IsSound draft → content_cause draft (frame_line width height) ≡ None → (mode : Mode) → draft.mode ≡ Some mode → bad_mode 0 (numbers_of mode) ≡ None
    → AreFrames mode draft.frames × IsFrame mode (settled draft).current
unfolding content_cause
frame_is draft width height was none mode is ok = grind (arith, with_samples_rows, AreRows, unless_none, eqb-true, and-right, where_raster, raster_mode)

-- the rows stay as they are
sound_rows : (draft now : ContentDraft) → IsSound draft → has_mode draft ≡ true → now.mode ≡ draft.mode → now.frames ≡ draft.frames → now.current.rows ≡ draft.current.rows → IsSound now
sound_rows draft now was has m f r = grind (arith, reported_true, AreFrames, AreRows)

range_wrong : (draft : ContentDraft) → content_cause draft (mode_line None) ≡ None → ⊥
unfolding content_cause
range_wrong draft h = cc h

sound_after : (form : ContentLine) (draft : ContentDraft) → IsSound draft → content_cause draft form ≡ None → IsSound (with_content form draft)
unfolding content_cause
sound_after (mode_line None) draft was none = absurd (range_wrong draft none)
sound_after (mode_line (Some mode)) draft was none = grind (arith, reported_false, unless_none, AreFrames, AreRows)
sound_after (row_line bytes) draft was none = grind (arith, unless_none, with_samples_rows, reported_true, wide_more, AreRows, and-left, where_raster, raster_mode)
sound_after (frame_line width height) draft was none = grind (arith, and-left, unless_none, reported_true, frame_is, are_more)
sound_after (packet_line None) draft was none = was
sound_after (packet_line (Some packet)) draft was none =
    sound_rows draft (with_content (packet_line (Some packet)) draft) was (unless_none (has_mode draft) Order _ none).0 refl refl (with_samples_rows draft.samples draft.current)
sound_after (sample_line None) draft was none = was
sound_after (sample_line (Some s)) draft was none = grind (arith, unless_none, sound_rows, with_samples_rows)
sound_after end_line draft was none = was
sound_after fault_line draft was none = was
sound_after no_line draft was none = was

-- ---- what is kept after a line that is taken

dropped : {T : Type 0} (o : Option RasterFault) (x none : T) → x ≡ none → unless_fault o x none ≡ none
dropped o x none h = grind arith

kept_changes : (o : Option RasterFault) (change : Frame → Frame) (samples : List Sample) (f : Frame)
    → kept_frame o (change (with_samples samples f)) ≡ kept_frame o (change (kept_frame o (with_samples samples (kept_frame o f))))
kept_changes o change samples f = grind arith

kept_row : (bytes : List ℕ) (draft : ContentDraft) → kept_of (with_content (row_line bytes) draft) ≡ with_kept (row_line bytes) (kept_of draft)
kept_row bytes draft = grind (arith, length-append, with_samples_rows, samples_count, kept_changes)

kept_packet : (packet : _) (draft : ContentDraft) → kept_of (with_content (packet_line (Some packet)) draft) ≡ with_kept (packet_line (Some packet)) (kept_of draft)
kept_packet packet draft = grind (arith, with_samples_rows, length-append, samples_count, kept_changes)

kept_sample : (s : Sample) (draft : ContentDraft) → kept_of (with_sample s draft) ≡ with_kept (sample_line (Some s)) (kept_of draft)
kept_sample s draft = grind (arith, with_samples_rows, samples_count)

pub fault_first : (mode : Option Mode) (fault : Option RasterFault) (count packets : ℕ) → fault_after mode fault count packets ≡ None → fault ≡ None
unfolding next_fault
fault_first mode fault count packets h = grind arith

frames_kept : (old new : Option RasterFault) → (new ≡ None → old ≡ None) → (frames : List Frame) (samples : List Sample) (f : Frame)
    → unless_fault new (frames ++ with_samples samples f ∷ []) [] ≡ unless_fault new (unless_fault old frames [] ++ kept_frame old (with_samples samples (kept_frame old f)) ∷ []) []
frames_kept old new h k l m = grind arith

-- the first fault with the frame that ends
abbrev fault_ended : ContentDraft → Option Mode → Option RasterFault
fault_ended draft m = fault_after m (fault_in m draft.frames) (length draft.frames) (length draft.current.packets + pending draft.samples)

kept_end : (width height : ℕ) (draft : ContentDraft) → IsSound draft → content_cause draft (frame_line width height) ≡ None
    → kept_of (with_content (frame_line width height) draft) ≡ with_kept (frame_line width height) (kept_of draft)
kept_end width height draft was none =
    let x = (settled draft).current in
    let fault : fault_in draft.mode (draft.frames ++ x ∷ []) ≡ fault_ended draft draft.mode = by_mode draft.mode refl in
    grind (arith, length-append, frames_kept, fault_first, dropped)
  where
    by_mode : (m : Option Mode) → draft.mode ≡ m → fault_in m (draft.frames ++ (settled draft).current ∷ []) ≡ fault_ended draft m
    by_mode None is = refl
    by_mode (Some mode) is = grind (arith, raster_more, frame_is, samples_count)

kept_after : (form : ContentLine) (draft : ContentDraft) → IsSound draft → content_cause draft form ≡ None → kept_of (with_content form draft) ≡ with_kept form (kept_of draft)
unfolding content_cause
kept_after form draft h k = grind (arith, range_wrong, reported_false, unless_none, raster_none, dropped, kept_row, kept_end, kept_packet, kept_sample)

-- ---- what a line does

abbrev step_as : LineStep ContentDraft (Mode × List Frame) → LineStep ContentKept (Result (Mode × List Frame) RasterFault)
step_as (tells draft) = tells (kept_of draft)
step_as (closes reported) = closes (rastered reported)
step_as (wrong cause) = wrong cause

step_by_same : (form : ContentLine) (draft : ContentDraft) → IsSound draft → (c : Option ListCause) → content_cause draft form ≡ c → kept_step_by c form (kept_of draft) ≡ step_as (content_step_by c form draft)
step_by_same form draft was (Some cause) is = refl
step_by_same (mode_line mode) draft was None is = ap tells (sym (kept_after (mode_line mode) draft was is))
step_by_same (row_line bytes) draft was None is = ap tells (sym (kept_after (row_line bytes) draft was is))
step_by_same (frame_line width height) draft was None is = ap tells (sym (kept_after (frame_line width height) draft was is))
step_by_same (packet_line packet) draft was None is = ap tells (sym (kept_after (packet_line packet) draft was is))
step_by_same (sample_line sample) draft was None is = ap tells (sym (kept_after (sample_line sample) draft was is))
step_by_same end_line draft was None is = grind arith
step_by_same fault_line draft was None is = refl
step_by_same no_line draft was None is = refl

step_same : (draft : ContentDraft) (line : List ℕ) → IsSound draft → kept_step (kept_of draft) line ≡ step_as (content_step draft line)
unfolding kept_step content_step kept_cause content_cause
step_same draft line was = grind (arith, step_by_same, samples_count)

step_sound : (draft now : ContentDraft) (line : List ℕ) → IsSound draft → content_step draft line ≡ tells now → IsSound now
unfolding content_step
step_sound draft now line was is = by_cause (content_form_of line) (content_cause draft (content_form_of line)) refl is where
  closed_not : (m : Option Mode) → closed_content draft m ≡ tells now → ⊥
  closed_not None h = cc h
  closed_not (Some mode) h = cc h

  reported : (form : ContentLine) → content_cause draft form ≡ None → tells (with_content form draft) ≡ content_step_by None form draft → content_step_by None form draft ≡ tells now → IsSound now
  reported form none same h = let e : with_content form draft ≡ now = cc in subst IsSound e (sound_after form draft was none)

  by_cause : (form : ContentLine) (c : Option ListCause) → content_cause draft form ≡ c → content_step_by c form draft ≡ tells now → IsSound now
  by_cause form (Some cause) none h = absurd (cc h)
  by_cause (mode_line mode) None none h = reported (mode_line mode) none refl h
  by_cause (row_line bytes) None none h = reported (row_line bytes) none refl h
  by_cause (frame_line width height) None none h = reported (frame_line width height) none refl h
  by_cause (packet_line packet) None none h = reported (packet_line packet) none refl h
  by_cause (sample_line sample) None none h = reported (sample_line sample) none refl h
  by_cause end_line None none h = absurd (closed_not draft.mode h)
  by_cause fault_line None none h = reported fault_line none refl h
  by_cause no_line None none h = reported no_line none refl h

-- ---- the whole text

ended_same : (n : ℕ) (reported : Mode × List Frame) (after : List (List ℕ)) → ended_by n (rastered reported) after ≡ read_by rastered (ended_by n reported after)
ended_same n reported after = grind arith

pub kept_reads : (n at : ℕ) (draft : ContentDraft) → IsSound draft → (pieces : List (List ℕ)) → read_lines kept_step n at (kept_of draft) pieces ≡ read_by rastered (read_lines content_step n at draft pieces)
unfolding read_lines
kept_reads n at draft was [] = refl
kept_reads n at draft was (line ∷ []) = grind (arith, step_same)
kept_reads n at draft was (line ∷ (next ∷ more)) =
    ap (λ (s : LineStep ContentKept (Result (Mode × List Frame) RasterFault)). steps_on n (next ∷ more) (λ now. read_lines kept_step (n + 1) (at + length line + 1) now (next ∷ more)) (within_text (nat_le (at + length line + 1) 4294967295) s))
    (step_same draft line was)
    ∙ steps_same (nat_le (at + length line + 1) 4294967295) (content_step draft line) refl (λ now sound. kept_reads (n + 1) (at + length line + 1) now sound (next ∷ more))
  where
    steps_same : (b : Bool) (step : LineStep ContentDraft (Mode × List Frame)) → content_step draft line ≡ step
        → ((now : ContentDraft) → IsSound now → read_lines kept_step (n + 1) (at + length line + 1) (kept_of now) (next ∷ more) ≡ read_by rastered (read_lines content_step (n + 1) (at + length line + 1) now (next ∷ more)))
        → steps_on n (next ∷ more) (λ now. read_lines kept_step (n + 1) (at + length line + 1) now (next ∷ more)) (within_text b (step_as step))
        ≡ read_by rastered (steps_on n (next ∷ more) (λ now. read_lines content_step (n + 1) (at + length line + 1) now (next ∷ more)) (within_text b step))
    steps_same true (tells now) is later = later now (step_sound draft now line was is)
    steps_same true (closes reported) is later = ended_same (n + 1) reported (next ∷ more)
    steps_same true (wrong cause) is later = refl
    steps_same false (tells now) is later = refl
    steps_same false (closes reported) is later = refl
    steps_same false (wrong cause) is later = refl
