-- The frames of samples are a stream, of no other samples, and have no fault.
use Rattle.std.proofs.Common.{◌≡◌, ◌∙◌, ℕ, ◌*◌, Bool, true, false, if◌then◌else◌, cond, suc, List, [], ◌∷◌, ◌++◌, length, map, take, drop, All, refl, ap, ap₂, sym, subst, append-nil, length-append, arith}
use Rattle.std.specs.Prelude.{flat_map}
use Rattle.std.proofs.Math.Seq.{drop-append_seam}
use Rattle.std.proofs.lemmas.List.{length-map}
use Rattle.std.proofs.lemmas.List.Elements.{All-map}
use Rattle.audio_packets.specs.Samples.{IsSample}
use Rattle.audio_packets.specs.declared.sample.Sample.{Sample}
use Rattle.audio_out.specs.Frames.{biphase, frame_bytes, from_start, left_side, right_side}
use Rattle.audio_out.specs.Subframes.{IsSubframe, subframe_bytes}
use Rattle.audio_out.specs.declared.subframe.Mark.TheVariants.{B, M}
use Rattle.audio_out.proofs.Spelled.{one_reading, spelled_is}
use Rattle.biphase_listing.specs.Groups.{IsCarried, IsSideAt, IsStream, is_block}
use Rattle.biphase_listing.specs.Refusals.{IsFault}
use Rattle.biphase_listing.specs.Laws.{OneStream, StreamIsFaultless, StreamIsRead, without_flat}
use Rattle.biphase_listing.specs.declared.fault.BiphaseFault.{BiphaseFault}
use Rattle.biphase_listing.specs.declared.fault.BiphaseFault.TheVariants.{Subframe as bad_subframe, Long, Short}
use Rattle.biphase_listing.proofs.Joining.{length-frame, length-frames}
use Rattle.biphase_listing.proofs.Sides.{first_group, front_sides, rest_carried, second_group}

-- ---- what is written is a stream

frames_flat : (samples : List Sample) → flat_map frame_bytes samples ≡ flat_map frame_bytes (map without_flat samples)
unfolding frame_bytes
frames_flat [] = refl
frames_flat (s ∷ later) = ap (λ (bytes : List ℕ). (subframe_bytes (left_side s) ++ subframe_bytes (right_side s)) ++ bytes) (frames_flat later)

rest_sound : (s : Sample) (later : List Sample) → All IsSample (s ∷ later) → All IsSample later
rest_sound s later all k d lt = all (suc k) d (omega (arith, lt))

started_sound : (samples : List Sample) → All IsSample samples → All IsSample (from_start samples)
unfolding from_start
started_sound [] all = all
started_sound (s ∷ later) all =
    elim s.start as (λ b. All IsSample (cond b (s ∷ later) (from_start later))) [ true ↦ all | false ↦ started_sound later (rest_sound s later all) ]

carried_flat : (s : Sample) → IsSample s → IsCarried (without_flat s)
carried_flat s is = record { sound = record { left = is.left; right = is.right; left_flags = is.left_flags; right_flags = is.right_flags }; flat = refl }

pub stream_is_read : StreamIsRead
unfolding biphase
stream_is_read = λ samples all few.
    let sound = started_sound samples all in
    let n = length-map (from_start samples) without_flat in
    record {
      frames = record {
        carried = All-map IsCarried without_flat (from_start samples) (λ k d lt. carried_flat _ (sound k d lt));
        bytes_are = frames_flat (from_start samples);
      };
      few = omega (arith, n, few);
    }

-- ---- of one list of samples

start_back : (b : Bool) → is_block (if b then B else M) ≡ b
start_back b = grind arith

left_sound : (s : Sample) → IsCarried s → IsSubframe (left_side s) (subframe_bytes (left_side s))
left_sound s is = spelled_is (left_side s) (record { value = is.sound.left; flags = is.sound.left_flags })

right_sound : (s : Sample) → IsCarried s → IsSubframe (right_side s) (subframe_bytes (right_side s))
right_sound s is = spelled_is (right_side s) (record { value = is.sound.right; flags = is.sound.right_flags })

one_sample : (s t : Sample) (xs ys : List ℕ) → IsCarried s → IsCarried t → frame_bytes s ++ xs ≡ frame_bytes t ++ ys → s ≡ t
one_sample s t xs ys p q same =
    let left = one_reading (left_side s) (left_side t) (subframe_bytes (left_side t))
    (subst (λ (bytes : List ℕ). IsSubframe (left_side s) bytes) (sym (first_group s xs) ∙ ap (take 8) same ∙ first_group t ys) (left_sound s p)) (left_sound t q) in
    let right = one_reading (right_side s) (right_side t) (subframe_bytes (right_side t))
    (subst (λ (bytes : List ℕ). IsSubframe (right_side s) bytes) (sym (second_group s xs) ∙ ap (λ (bytes : List ℕ). take 8 (drop 8 bytes)) same ∙ second_group t ys) (right_sound s p)) (right_sound t q) in
    grind (arith, start_back)

after_frame : (s : Sample) (xs : List ℕ) → drop 16 (frame_bytes s ++ xs) ≡ xs
after_frame s xs = ap (λ (n : ℕ). drop n (frame_bytes s ++ xs)) (sym (length-frame s)) ∙ drop-append_seam (frame_bytes s) xs

pub same_samples : (a b : List Sample) → All IsCarried a → All IsCarried b → flat_map frame_bytes a ≡ flat_map frame_bytes b → a ≡ b
same_samples [] [] p q same = refl
same_samples [] (t ∷ b) p q same =
    let n = ap length same ∙ length-append (frame_bytes t) (flat_map frame_bytes b) in absurd (omega (arith, n, length-frame t))
same_samples (s ∷ a) [] p q same =
    let n = sym (ap length same) ∙ length-append (frame_bytes s) (flat_map frame_bytes a) in absurd (omega (arith, n, length-frame s))
same_samples (s ∷ a) (t ∷ b) p q same =
    ap₂ (λ (x : Sample) (xs : List Sample). x ∷ xs) (one_sample s t _ _ (p 0 s (omega arith)) (q 0 t (omega arith)) same)
    (same_samples a b (rest_carried s a p) (rest_carried t b q) (sym (after_frame s (flat_map frame_bytes a)) ∙ ap (drop 16) same ∙ after_frame t (flat_map frame_bytes b)))

pub one_stream : OneStream
one_stream = λ a b bytes p q. same_samples a b p.frames.carried q.frames.carried (sym p.frames.bytes_are ∙ q.frames.bytes_are)

-- ---- without a fault

stream_length : (samples : List Sample) (bytes : List ℕ) → IsStream samples bytes → length bytes ≡ 16 * length samples
stream_length samples bytes is = ap length is.frames.bytes_are ∙ length-frames samples

no_fault : (samples : List Sample) (bytes : List ℕ) (fault : BiphaseFault) → IsStream samples bytes → IsFault bytes fault → ⊥
no_fault samples bytes (bad_subframe n) is bad =
    let l = stream_length samples bytes is in
    bad.bad (subst (λ (xs : List ℕ). IsSideAt xs n) (append-nil (flat_map frame_bytes samples) ∙ sym is.frames.bytes_are) (front_sides samples [] is.frames.carried n (omega (arith, l, bad.whole))))
no_fault samples bytes Long is long = let l = stream_length samples bytes is in omega (arith, l, is.few, long.more)
no_fault samples bytes (Short p) is short = let l = stream_length samples bytes is in short.ragged (omega (arith, l, short.length_is))

pub stream_is_faultless : StreamIsFaultless
stream_is_faultless = no_fault
