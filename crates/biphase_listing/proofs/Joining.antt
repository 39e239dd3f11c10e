-- Lists of frames joined: their bytes, their lines, and one frame more made of two subframes.
use Rattle.std.proofs.Common.{◌≡◌, ◌∙◌, ℕ, ◌+◌, ◌*◌, ◌<◌, true, false, List, [], ◌∷◌, ◌++◌, length, take, drop, All, refl, ap, ap₂, sym, if◌then◌else◌, append_assoc, append-nil, length-append, take-add, drop-drop, arith}
use Rattle.std.specs.Prelude.{Option, codes, flat_map, is_some}
use Rattle.std.proofs.lemmas.Grind.{flat_map-append}
use Rattle.audio_packets.specs.declared.sample.Sample.{Sample}
use Rattle.audio_out.specs.Blocks.{block_of}
use Rattle.audio_out.specs.declared.blocks.BlockStatus.{BlockStatus}
use Rattle.audio_out.specs.Subframes.{IsSubframe, subframe_bytes}
use Rattle.audio_out.specs.Frames.{frame_bytes, left_side, right_side}
use Rattle.audio_out.specs.declared.subframe.Mark.{Mark}
use Rattle.audio_out.specs.declared.subframe.Mark.TheVariants.{B, M, W}
use Rattle.audio_out.specs.declared.subframe.Subframe.{Subframe}
use Rattle.audio_out.proofs.Frames.{length-subframe}
use Rattle.audio_out.proofs.Spelled.{one_spelling}
use Rattle.listing_writer.specs.ContentText.{sample_words}
use Rattle.biphase_listing.specs.Groups.{IsCarried, is_right, is_block, sample_of}
use Rattle.biphase_listing.specs.FrameText.{frame_text, status_text, text_after}

pub text_append : (past h k : List Sample) → text_after past (h ++ k) ≡ text_after past h ++ text_after (past ++ h) k
unfolding text_after
text_append past [] k = ap (λ (p : List Sample). text_after p k) (sym (append-nil past))
text_append past (s ∷ h) k =
    ap (λ (text : List ℕ). frame_text past s ++ text) (text_append (past ++ s ∷ []) h k)
    ∙ ap (λ (p : List Sample). frame_text past s ++ (text_after (past ++ s ∷ []) h ++ text_after p k)) (append_assoc past (s ∷ []) h)
    ∙ sym (append_assoc (frame_text past s) (text_after (past ++ s ∷ []) h) (text_after (past ++ s ∷ h) k))

text_one : (past : List Sample) (s : Sample) → text_after past (s ∷ []) ≡ frame_text past s
unfolding text_after
text_one past s = append-nil (frame_text past s)

pub text_more : (past h : List Sample) (s : Sample) → text_after past (h ++ s ∷ []) ≡ text_after past h ++ frame_text (past ++ h) s
text_more past h s = text_append past h (s ∷ []) ∙ ap (λ (text : List ℕ). text_after past h ++ text) (text_one (past ++ h) s)

pub length-frame : (s : Sample) → length (frame_bytes s) ≡ 16
unfolding frame_bytes
length-frame s = length-append (subframe_bytes (left_side s)) (subframe_bytes (right_side s)) ∙ ap₂ (λ a b. a + b) (length-subframe (left_side s)) (length-subframe (right_side s))

pub length-frames : (samples : List Sample) → length (flat_map frame_bytes samples) ≡ 16 * length samples
length-frames [] = refl
length-frames (s ∷ later) = grind (arith, length-frame, length-append, length-frames later)

one_more : (samples : List Sample) (s : Sample) → flat_map frame_bytes (samples ++ s ∷ []) ≡ flat_map frame_bytes samples ++ frame_bytes s
one_more samples s = flat_map-append frame_bytes samples (s ∷ []) ∙ ap (λ (bytes : List ℕ). flat_map frame_bytes samples ++ bytes) (append-nil (frame_bytes s))

-- the sides of the sample of two sides
mark_back : (mark : Mark) → is_right mark ≡ false → (if is_block mark then B else M) ≡ mark
mark_back mark h = grind arith

w_back : (mark : Mark) → is_right mark ≡ true → W ≡ mark
w_back mark h = grind arith

left_back : (left right : Subframe) → is_right left.mark ≡ false → left_side (sample_of left right) ≡ left
left_back left right is = λ i. record { mark = mark_back left.mark is i; value = left.value; flags = left.flags }

right_back : (left right : Subframe) → is_right right.mark ≡ true → right_side (sample_of left right) ≡ right
right_back left right is = λ i. record { mark = w_back right.mark is i; value = right.value; flags = right.flags }

-- the frame of two subframes
pub frame_of : (left right : Subframe) (x y : List ℕ) → All (λ b. b < 256) x → All (λ b. b < 256) y → IsSubframe left x → IsSubframe right y
    → is_right left.mark ≡ false → is_right right.mark ≡ true → frame_bytes (sample_of left right) ≡ x ++ y
unfolding frame_bytes
frame_of left right x y xs ys p q lm rm =
    ap₂ (λ a b. subframe_bytes a ++ subframe_bytes b) (left_back left right lm) (right_back left right rm)
    ∙ ap₂ (λ a b. a ++ b) (sym ((one_spelling left x p.sound xs).0 p)) (sym ((one_spelling right y q.sound ys).0 q))

pub carried_of : (left right : Subframe) (x y : List ℕ) → IsSubframe left x → IsSubframe right y → IsCarried (sample_of left right)
carried_of left right x y p q = grind arith

pub more_bytes : (bytes : List ℕ) (place : ℕ) (samples : List Sample) (s : Sample) → take place bytes ≡ flat_map frame_bytes samples
    → frame_bytes s ≡ take 8 (drop place bytes) ++ take 8 (drop (place + 8) bytes) → take (place + 16) bytes ≡ flat_map frame_bytes (samples ++ s ∷ [])
more_bytes bytes place samples s are is =
    take-add place 16 bytes
    ∙ ap₂ (λ (a b : List ℕ). a ++ b) are (take-add 8 8 (drop place bytes) ∙ ap (λ (xs : List ℕ). take 8 (drop place bytes) ++ take 8 xs) (drop-drop 8 place bytes) ∙ sym is)
    ∙ sym (one_more samples s)

-- a frame's lines, after those before
pub frame_lines_more : (past : List Sample) (s t : Sample) (old put now : List ℕ)
    → s ≡ t → put ≡ old ++ (sample_words s ++ codes "\n") → now ≡ put ++ status_text (block_of (past ++ s ∷ [])) → now ≡ old ++ frame_text past t
unfolding frame_text
frame_lines_more past s t old put now same line is = grind (arith, append_assoc)

-- where no block ends there is no status
pub no_status : (status : Option BlockStatus) → is_some status ≡ false → status_text status ≡ []
unfolding status_text
no_status status h = grind arith
