-- A frame's two subframes joined, and the stream of one sample more.
use Rattle.std.proofs.Common.{arith, ◌≡◌, ℕ, Bool, ◌||◌, List, [], ◌∷◌, ◌++◌, length, refl, ap₂, ◌∙◌, sym, append-nil}
use Rattle.std.specs.Prelude.{Option, if◌then◌else◌}
use Rattle.std.specs.List.{list_any, flat_map}
use borrow.Rule.Slice.PartMut.{put_mid}
use Rattle.std.proofs.lemmas.Grind.{flat_map-append}
use Rattle.tmds_word.proofs.Bytes.{length-bytes_of}
use Rattle.audio_packets.specs.declared.sample.Sample.{Sample}
use Rattle.audio_out.specs.Subframes.{subframe_bytes}
use Rattle.audio_out.specs.Frames.{biphase, bytes_in, frame_bytes, from_start}
use Rattle.audio_out.specs.declared.subframe.Subframe.{Subframe}
use Rattle.audio_out.proofs.Joined.{eight}

pub length-subframe : (sub : Subframe) → length (subframe_bytes sub) ≡ 8
unfolding subframe_bytes
length-subframe sub = length-bytes_of 8 _

pub put_joined : (x y : List ℕ) → length x ≡ 8 → length y ≡ 8 → put_mid 8 8 (x ++ 0 ∷ 0 ∷ 0 ∷ 0 ∷ 0 ∷ 0 ∷ 0 ∷ 0 ∷ []) y ≡ x ++ y
put_joined x y p q =
    ap₂ (λ u v. put_mid 8 8 (u ++ 0 ∷ 0 ∷ 0 ∷ 0 ∷ 0 ∷ 0 ∷ 0 ∷ 0 ∷ []) v) (eight x p) (eight y q)
    ∙ sym (ap₂ (λ u v. u ++ v) (eight x p) (eight y q))

abbrev starts : Sample → Bool
starts s = s.start

-- the samples from the first start on, with one sample more
start_more : (past : List Sample) (s : Sample) → from_start (past ++ s ∷ []) ≡ from_start past ++ (if list_any starts past || s.start then s ∷ [] else [])
unfolding from_start
start_more [] s = refl
start_more (p ∷ past) s = grind (arith, start_more past s)

one_frame : (b : Bool) (s : Sample) → flat_map frame_bytes (if b then s ∷ [] else []) ≡ (if b then frame_bytes s else [])
one_frame b s = grind (arith, append-nil)

-- the stream of one sample more
pub stream_more : (past : List Sample) (s : Sample) (now : Bool) (result : Option (List ℕ))
    → now ≡ list_any starts past || s.start → bytes_in result ≡ (if now then frame_bytes s else [])
    → biphase (past ++ s ∷ []) ≡ biphase past ++ bytes_in result
unfolding biphase
stream_more past s now result e h = grind (arith, start_more, flat_map-append, one_frame)
