-- What stands once frames were listed while they were read. `from` and `left` are the bytes left to read before and
-- now, `held` and `holds` those that were written.
use Rattle.std.specs.Prelude.{◌≡◌, ◌⊎◌, ℕ, ◌+◌, ◌*◌, ◌<◌, ◌≤◌, Bool, false, true, MatchResult, List, [], ◌++◌, All, flat_map, length, take, drop, Option, Some, Result, Ok, Err, codes}
use Rattle.std.specs.Io.KnownBytes.{Appends, Consumes, IsAtEnd}
use Rattle.outside_io.specs.Causes.{Rose}
use Rattle.audio_packets.specs.declared.sample.Sample.{Sample}
use Rattle.audio_out.specs.Blocks.{IsBlocksAfter, OpenBlock}
use Rattle.audio_out.specs.Frames.{frame_bytes}
use Rattle.biphase_listing.specs.Groups.{IsCarried, IsSide, IsStream, most_frames}
use Rattle.biphase_listing.specs.FrameText.{frames_text, text_after}
use Rattle.biphase_listing.specs.Refusals.{IsRefused}
use Rattle.biphase_listing.specs.declared.fault.BiphaseError.{BiphaseError}
use Rattle.biphase_listing.specs.declared.fault.BiphaseError.TheVariants.{Bad, Read, Write}
use Rattle.biphase_listing.specs.declared.fault.BiphaseFault.{BiphaseFault}
use Rattle.biphase_listing.specs.declared.fault.BiphaseFault.TheVariants.{Subframe, Long, Short}
use Rattle.biphase_listing.specs.declared.frame_lines.FrameLines.{FrameLines}
use Rattle.biphase_listing.specs.declared.frame_lines.Stop.{Stop}
use Rattle.biphase_listing.specs.declared.frame_lines.Stop.TheVariants.{End, Left, Right}

-- bytes are frames, all listed
pub record IsListed (bytes : List ℕ) (held holds : Option (List ℕ)) : Type 0 where
  pub samples : List Sample
  pub stream : IsStream samples bytes
  pub written : Appends held holds (frames_text samples ++ codes "end\n")

-- bytes are none, and the whole frames before the fault were listed
pub record IsListedBefore (bytes : List ℕ) (fault : BiphaseFault) (held holds : Option (List ℕ)) : Type 0 where
  pub samples : List Sample
  pub refused : IsRefused bytes fault samples
  pub written : Appends held holds (frames_text samples)

-- bytes were read: frames, and then less than a frame
pub record AreRead (samples : List Sample) (rest : List ℕ) (from left : Option (List ℕ)) : Type 0 where
  pub carried : All IsCarried samples
  pub few : length samples ≤ most_frames
  pub consumed : Consumes from left (flat_map frame_bytes samples ++ rest)

-- a read failed: the whole frames that were read were listed, and each whole group is a subframe of its side
pub record IsUnread (from left held holds : Option (List ℕ)) : Type 0 where
  pub samples : List Sample
  pub rest : List ℕ
  pub read : AreRead samples rest from left
  pub less : length rest < 16
  pub side : 8 ≤ length rest → IsSide false (take 8 rest)
  pub written : Appends held holds (frames_text samples)

-- a write failed: of the lines of frames that were read not all were written, or all and not the last line, at the input's end
pub record IsUnwritten (from left held holds : Option (List ℕ)) : Type 0 where
  pub samples : List Sample
  pub rest : List ℕ
  pub read : AreRead samples rest from left
  pub part :
      ((n : ℕ) × (n < length (frames_text samples)) × Appends held holds (take n (frames_text samples)))
      ⊎ ((rest ≡ []) × IsAtEnd left × ((n : ℕ) × (n < 4) × Appends held holds (frames_text samples ++ take n (codes "end\n"))))

-- how many bytes were read where they are no list of frames: as far as the first byte of the frame too many, or all of them, or,
-- where a subframe is wrong, 4,096 at most from its first byte on
abbrev pub IsReadTo : BiphaseFault → ℕ → Option (List ℕ) → Type 0
IsReadTo (Subframe n) size left = size ≤ 8 * n + 4096
IsReadTo Long size left = size ≡ 16 * most_frames + 1
IsReadTo (Short p) size left = (size ≡ p) × IsAtEnd left

-- so many were taken, and no more
pub record TakesUpTo (fault : BiphaseFault) (from left : Option (List ℕ)) : Type 0 where
  pub taken : List ℕ
  pub consumed : Consumes from left taken
  pub size : IsReadTo fault (length taken) left

-- why frames were not listed to the end
abbrev pub Stops : Option (List ℕ) → Option (List ℕ) → Option (List ℕ) → Option (List ℕ) → BiphaseError → Type 0
Stops from left held holds (Bad fault) = TakesUpTo fault from left × ((bytes : List ℕ) → from ≡ Some bytes → IsListedBefore bytes fault held holds)
Stops from left held holds Read = IsUnread from left held holds
Stops from left held holds Write = IsUnwritten from left held holds

-- the count of faults of whoever failed has risen
abbrev pub IsCaused : ℕ → ℕ → ℕ → ℕ → BiphaseError → Type 0
IsCaused input_old input_new output_old output_new (Bad fault) = Unit {0}
IsCaused input_old input_new output_old output_new Read = Rose input_old input_new
IsCaused input_old input_new output_old output_new Write = Rose output_old output_new

-- how the frames of bytes stop: less than a frame is left, or a whole group is no subframe of its side
abbrev pub StopsAt : Stop → List ℕ → Type 0
StopsAt End rest = (length rest < 16) × (8 ≤ length rest → IsSide false (take 8 rest))
StopsAt Left rest = (8 ≤ length rest) × (IsSide false (take 8 rest) → ⊥)
StopsAt Right rest = (16 ≤ length rest) × IsSide false (take 8 rest) × (IsSide true (take 8 (drop 8 rest)) → ⊥)

-- the lines of frames at the front of bytes stand after those of the frames before, and of these bytes a rest is left
pub record Adds (bytes : List ℕ) (old new : FrameLines) (samples : List Sample) (rest : List ℕ) : Type 0 where
  pub bytes_are : bytes ≡ flat_map frame_bytes samples ++ rest
  pub carried : All IsCarried samples
  pub count : new.count ≡ old.count + length samples
  pub blocks : (past : List Sample) → IsBlocksAfter old.blocks past → IsBlocksAfter new.blocks (past ++ samples)
  pub text : (past : List Sample) → IsBlocksAfter old.blocks past → new.text ≡ text_after past samples

-- all frames so far were listed, and of these the block keeps
pub record HasListed (from left held holds : Option (List ℕ)) (blocks : OpenBlock) (count : ℕ) : Type 0 where
  pub samples : List Sample
  pub carried : All IsCarried samples
  pub counted : count ≡ length samples
  pub consumed : Consumes from left (flat_map frame_bytes samples)
  pub written : Appends held holds (frames_text samples)
  pub stands : IsBlocksAfter blocks samples

-- the answer where the frames of a piece stop so, after so many frames
abbrev pub stopped : Stop → ℕ → Result (Unit {0}) BiphaseError
stopped End count = Ok tt
stopped Left count = Err (Bad (Subframe (2 * count)))
stopped Right count = Err (Bad (Subframe (2 * count + 1)))

-- the lines were written, all or in part
abbrev pub Writes : List ℕ → Result (Unit {0}) BiphaseError → Option (List ℕ) → Option (List ℕ) → Result (Unit {0}) BiphaseError → Type 0
Writes text answer held holds result =
    ((result ≡ answer) × Appends held holds text)
    ⊎ ((result ≡ Err Write) × ((n : ℕ) × (n < length text) × Appends held holds (take n text)))

-- the lines of a piece's frames were written, all or in part
pub record ListsPiece (piece : List ℕ) (old new : FrameLines) (held holds : Option (List ℕ)) (result : Result (Unit {0}) BiphaseError) : Type 0 where
  pub samples : List Sample
  pub rest : List ℕ
  pub stop : Stop
  pub adds : Adds piece old new samples rest
  pub stops : StopsAt stop rest
  pub writes : Writes new.text (stopped stop new.count) held holds result

-- more may follow so many frames and bytes of the next, where a piece was filled; the input has ended where none was; or why
-- the bytes so far are no list of frames
abbrev pub Judges : ℕ → ℕ → Bool → Result Bool BiphaseError → Type 0
Judges count rest full result =
    MatchResult result (λ more. (16 * count + rest ≤ 16 * most_frames) × (more ≡ full) × (more ≡ false → rest ≡ 0))
    (λ error.
    ((error ≡ Bad Long) × (16 * most_frames < 16 * count + rest))
    ⊎ ((error ≡ Bad (Short (16 * count + rest))) × (full ≡ false) × (16 * count + rest ≤ 16 * most_frames) × (rest ≡ 0 → ⊥)))
