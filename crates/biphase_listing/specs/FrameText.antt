-- The lines of frames (docs/guide/FORMATS.md): of each the sample that it carries, and of the 192nd of a block the channel status.
use Rattle.std.specs.Prelude.{ℕ, ◌+◌, Bool, List, [], ◌∷◌, ◌++◌, Option, Some, None, codes}
use Rattle.hex.specs.Hex.{encode_lower}
use Rattle.audio_packets.specs.declared.sample.Sample.{Sample}
use Rattle.audio_out.specs.Blocks.{block_of}
use Rattle.audio_out.specs.declared.blocks.BlockStatus.{BlockStatus}
use Rattle.listing_writer.specs.ContentText.{digit_of, sample_words}

-- the last eight bytes of the line of a sample: the flags of its sides, whether a block starts, and that it is not flat
abbrev pub last_words : ℕ → ℕ → Bool → List ℕ
last_words left right start = (48 + left) ∷ 32 ∷ (48 + right) ∷ 32 ∷ (48 + digit_of start) ∷ codes " 0\n"

-- the 24 bytes of each side, where a block ends
unfoldable pub status_text : Option BlockStatus → List ℕ
status_text None = []
status_text (Some status) = codes "block " ++ encode_lower status.left ++ codes " " ++ encode_lower status.right ++ codes "\n"

-- the lines of the frame of a sample, after the frames of the samples before it
unfoldable pub frame_text : List Sample → Sample → List ℕ
frame_text past s = (sample_words s ++ codes "\n") ++ status_text (block_of (past ++ s ∷ []))

unfoldable pub text_after : List Sample → List Sample → List ℕ
text_after past [] = []
text_after past (s ∷ later) = frame_text past s ++ text_after (past ++ s ∷ []) later

-- the lines of frames
abbrev pub frames_text : List Sample → List ℕ
frames_text samples = text_after [] samples
