-- The frames at the front of a piece, listed one after another.
use Rattle.std.proofs.Common.{◌≡◌, ℕ, ◌+◌, ◌*◌, ◌<◌, ◌≤◌, true, false, List, [], ◌∷◌, ◌++◌, length, take, drop, get_or, All, subst, append_assoc, append-nil, take-append-drop, length-append, arith}
use Rattle.std.specs.Prelude.{flat_map}
use Rattle.std.proofs.lemmas.List.{get_or_default}
use Rattle.std.proofs.lemmas.List.Elements.{All-append, All-take, All-drop}
use Rattle.audio_packets.specs.declared.sample.Sample.{Sample}
use Rattle.audio_out.specs.Blocks.{IsBlocksAfter}
use Rattle.audio_out.specs.Frames.{frame_bytes}
use Rattle.audio_out.specs.Subframes.{IsSubframe}
use Rattle.audio_out.specs.declared.subframe.Subframe.{Subframe}
use Rattle.biphase_listing.specs.Groups.{IsCarried, is_right, sample_of}
use Rattle.biphase_listing.specs.FrameText.{frame_text, text_after}
use Rattle.biphase_listing.specs.Reading.{Adds}
use Rattle.biphase_listing.specs.declared.frame_lines.FrameLines.{FrameLines}
use Rattle.biphase_listing.proofs.Joining.{carried_of, frame_of, more_bytes, text_more}

-- the frames before a place were listed
pub record ListedTo (piece : List ℕ) (place : ℕ) (old now : FrameLines) (samples : List Sample) : Type 0 where
  pub place_is : place ≡ 16 * length samples
  pub within : place ≤ length piece
  pub bytes_are : take place piece ≡ flat_map frame_bytes samples
  pub carried : All IsCarried samples
  pub count : now.count ≡ old.count + length samples
  pub room : length now.text ≤ 164 * length samples
  pub blocks : (past : List Sample) → IsBlocksAfter old.blocks past → IsBlocksAfter now.blocks (past ++ samples)
  pub text : (past : List Sample) → IsBlocksAfter old.blocks past → now.text ≡ text_after past samples

-- what one frame more adds
pub record AddsOne (now new : FrameLines) (s : Sample) : Type 0 where
  pub count : new.count ≡ now.count + 1
  pub room : length new.text ≤ length now.text + 164
  pub blocks : (past : List Sample) → IsBlocksAfter now.blocks past → IsBlocksAfter new.blocks (past ++ s ∷ [])
  pub text : (past : List Sample) → IsBlocksAfter now.blocks past → new.text ≡ now.text ++ frame_text past s

pub all_bytes : (bytes : List ℕ) → ((k : ℕ) → get_or bytes k 0 < 256) → All (λ b. b < 256) bytes
all_bytes bytes are k d lt = subst (λ (b : ℕ). b < 256) (get_or_default bytes k 0 d lt) (are k)

one_carried : (s : Sample) → IsCarried s → All IsCarried (s ∷ [])
one_carried s h k l m = grind arith

pub listed_none : (piece : List ℕ) (old now : FrameLines) → now.text ≡ [] → now.count ≡ old.count → now.blocks ≡ old.blocks → ListedTo piece 0 old now []
unfolding text_after
listed_none piece old now none count same = grind (arith, append-nil)

pub listed_more : (piece : List ℕ) (place : ℕ) (old now new : FrameLines) (samples : List Sample) (left right : Subframe)
    → ListedTo piece place old now samples → place + 16 ≤ length piece → All (λ b. b < 256) piece
    → IsSubframe left (take 8 (drop place piece)) → is_right left.mark ≡ false → IsSubframe right (take 8 (drop (place + 8) piece)) → is_right right.mark ≡ true
    → AddsOne now new (sample_of left right) → ListedTo piece (place + 16) old new (samples ++ sample_of left right ∷ [])
listed_more piece place old now new samples left right was inside bytes p lm q rm adds =
    let s = sample_of left right in
    let n : length (samples ++ s ∷ []) ≡ length samples + 1 = length-append samples (s ∷ []) in
    let x : All (λ b. b < 256) (take 8 (drop place piece)) = All-take (λ (b : ℕ). b < 256) 8 _ (All-drop (λ (b : ℕ). b < 256) place piece bytes) in
    let y : All (λ b. b < 256) (take 8 (drop (place + 8) piece)) = All-take (λ (b : ℕ). b < 256) 8 _ (All-drop (λ (b : ℕ). b < 256) (place + 8) piece bytes) in
    record {
      place_is = omega (arith, was.place_is, n);
      within = inside;
      bytes_are = more_bytes piece place samples s was.bytes_are (frame_of left right _ _ x y p q lm rm);
      carried = All-append IsCarried samples (s ∷ []) was.carried (one_carried s (carried_of left right _ _ p q));
      count = omega (arith, was.count, adds.count, n);
      room = omega (arith, was.room, adds.room, n);
      blocks = λ past stands. subst (λ (xs : List Sample). IsBlocksAfter new.blocks xs) (append_assoc past samples (s ∷ [])) (adds.blocks (past ++ samples) (was.blocks past stands));
      text = grind (arith, text_more);
    }

pub listed_all : (piece : List ℕ) (place : ℕ) (old begun now : FrameLines) (samples : List Sample) → begun.count ≡ old.count → begun.blocks ≡ old.blocks
    → ListedTo piece place begun now samples → Adds piece old now samples (drop place piece)
listed_all piece place old begun now samples counted same was = grind (arith, take-append-drop)
