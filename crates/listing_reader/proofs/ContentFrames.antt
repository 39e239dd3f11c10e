-- Frames of a content, the last of which may still be open.
use Rattle.std.proofs.Common.{◌≡◌, ℕ, ◌≤◌, Bool, true, false, ◌&&◌, List, [], ◌∷◌, ◌++◌, length, refl, ap, ◌∙◌, arith}
use Rattle.std.specs.Prelude.{Option, None, is_some, nat_lt}
use Rattle.audio_packets.specs.declared.sample.Sample.{Sample}
use Rattle.source_end.specs.Content.{Frame, on_last}
use Rattle.source_end.specs.declared.refusal.RasterFault.{RasterFault}
use Rattle.listing_reader.specs.ContentForms.{end_line}
use Rattle.listing_reader.specs.ContentDrafts.{with_samples}
use Rattle.listing_reader.specs.ContentKept.{AreKept, ContentKept, is_kept_settled, is_reported, kept_cause}
use Rattle.listing_reader.specs.ContentReported.{first_frames, last_frame, whole_frames, open_frame, pending, IsOpened}
use Rattle.listing_reader.proofs.Feeds.{and-left}

pub first_on_last : (change : Frame → Frame) (frames : List Frame) → first_frames (on_last change frames) ≡ first_frames frames
unfolding first_frames
first_on_last change [] = refl
first_on_last change (f ∷ []) = refl
first_on_last change (f ∷ (g ∷ [])) = refl
first_on_last change (f ∷ (g ∷ (h ∷ frames))) = ap (λ (fs : List Frame). f ∷ fs) (first_on_last change (g ∷ (h ∷ frames)))

pub last_on_last : (change : Frame → Frame) (frames : List Frame) → 1 ≤ length frames → last_frame (on_last change frames) ≡ change (last_frame frames)
unfolding last_frame
last_on_last change [] some = absurd (omega arith)
last_on_last change (f ∷ []) some = refl
last_on_last change (f ∷ (g ∷ [])) some = refl
last_on_last change (f ∷ (g ∷ (h ∷ frames))) some = last_on_last change (g ∷ (h ∷ frames)) (omega arith)

pub first_append : (frames : List Frame) (f : Frame) → first_frames (frames ++ f ∷ []) ≡ frames
unfolding first_frames
first_append [] f = refl
first_append (g ∷ []) f = refl
first_append (g ∷ (h ∷ frames)) f = ap (λ (fs : List Frame). g ∷ fs) (first_append (h ∷ frames) f)

pub last_append : (frames : List Frame) (f : Frame) → last_frame (frames ++ f ∷ []) ≡ f
unfolding last_frame
last_append [] f = refl
last_append (g ∷ []) f = refl
last_append (g ∷ (h ∷ frames)) f = last_append (h ∷ frames) f

pub first_and_last : (frames : List Frame) → 1 ≤ length frames → frames ≡ first_frames frames ++ last_frame frames ∷ []
unfolding first_frames last_frame
first_and_last [] some = absurd (omega arith)
first_and_last (f ∷ []) some = refl
first_and_last (f ∷ (g ∷ frames)) some = ap (λ (fs : List Frame). f ∷ fs) (first_and_last (g ∷ frames) (omega arith))

pub length_on_last : (change : Frame → Frame) (frames : List Frame) → length (on_last change frames) ≡ length frames
length_on_last change [] = refl
length_on_last change (f ∷ []) = refl
length_on_last change (f ∷ (g ∷ frames)) = let h = length_on_last change (g ∷ frames) in omega (arith, h)

-- the open frame is changed
pub whole_kept : (change : Frame → Frame) (old new : List Frame) → new ≡ on_last change old → first_frames new ≡ first_frames old
whole_kept change old new is = ap first_frames is ∙ first_on_last change old

pub open_changed : (change : Frame → Frame) (old new : List Frame) → 1 ≤ length old → new ≡ on_last change old → last_frame new ≡ change (last_frame old)
open_changed change old new some is = ap last_frame is ∙ last_on_last change old some

pub some_changed : (change : Frame → Frame) (old new : List Frame) → 1 ≤ length old → new ≡ on_last change old → 1 ≤ length new
some_changed change old new some is = omega (arith, some, ap length is, length_on_last change old)

-- ---- a content whose last frame ends, or has ended

pub with_samples_rows : (samples : List Sample) (f : Frame) → (with_samples samples f).rows ≡ f.rows
with_samples_rows samples f = grind arith

-- a row was given, so the last frame is the open one
pub frame_ends : (is_open : Bool) (frames : List Frame) (rows packets : ℕ) → IsOpened is_open frames rows packets → 1 ≤ length (open_frame is_open frames).rows
    → frames ≡ whole_frames is_open frames ++ open_frame is_open frames ∷ []
frame_ends is_open frames rows packets h k = grind (arith, first_and_last)

pub no_fault : (fault : Option RasterFault) → is_some fault ≡ false → fault ≡ None
no_fault fault h = grind arith

-- a row was given of frames that are kept
pub frame_kept : (fault : Option RasterFault) (count rows packets : ℕ) (is_open : Bool) (frames : List Frame) → AreKept fault count rows is_open frames → IsOpened is_open frames rows packets → fault ≡ None → 1 ≤ rows
    → (count ≡ length (whole_frames is_open frames)) × (frames ≡ whole_frames is_open frames ++ open_frame is_open frames ∷ [])
frame_kept fault count rows packets is_open frames h k l m = grind (arith, frame_ends)

-- what holds where the line `end` has no cause
end_none : (k : ContentKept) → kept_cause k end_line ≡ None → (is_reported k.mode && (nat_lt 0 k.count && is_kept_settled k)) ≡ true
unfolding kept_cause
end_none k h = grind arith

pub end_reported : (k : ContentKept) → kept_cause k end_line ≡ None → is_reported k.mode ≡ true
end_reported k h = and-left _ _ (end_none k h)

pub pending_one : (samples : List Sample) (s : Sample) → pending (samples ++ s ∷ []) ≡ 1
pending_one [] s = refl
pending_one (r ∷ samples) s = refl
