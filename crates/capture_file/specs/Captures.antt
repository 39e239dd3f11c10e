-- The layout of captures in both versions: the bits of three lanes as bytes. It is this project's own format.
-- The first version holds lanes of one length alone, and says that length once; the second says each lane's own.
use Rattle.std.specs.Prelude.{◌≡◌, ◌⊎◌, ℕ, ◌+◌, ◌*◌, ◌/◌, ◌-◌, ◌^◌, ◌<◌, ◌≤◌, Bool, List, [], ◌∷◌, ◌++◌, length, take, max, min, codes, slice_get, slice_index, get_or, Some, ◌==◌, if◌then◌else◌}
use Rattle.tmds_word.specs.Bits.{bytes_bits}
use Rattle.capture_file.specs.Layout.{packed, high_first, header, blocks_below, blocks_of}
use Rattle.capture_file.specs.declared.TheConstants.{BLOCK_BITS, BLOCK_BYTES}
use Rattle.capture_file.specs.declared.fault.CaptureFault.{CaptureFault}
use Rattle.capture_file.specs.declared.fault.CaptureFault.TheVariants.{Magic, Version, Short, Padding, Trailing}
use Rattle.capture_file.specs.declared.fault.CaptureError.{CaptureError}
use Rattle.capture_file.specs.declared.fault.CaptureError.TheVariants.{Bad, Read}

-- how many bits each of three lanes has
abbrev pub counts_of : List Bool → List Bool → List Bool → List ℕ
counts_of x y z = length x ∷ length y ∷ length z ∷ []

-- the mark, the version 2, and how many bits each lane has
unfoldable pub header_two : List ℕ → List ℕ
header_two counts = codes "TMC2" ++ high_first (slice_index counts 0) ++ high_first (slice_index counts 1) ++ high_first (slice_index counts 2)

-- the header of a version
unfoldable pub header_of : ℕ → List ℕ → List ℕ
header_of version counts = if version == 2 then header_two counts else header (slice_index counts 0)

-- the counts that a version can say, each below 2^32
pub record CanSay (version : ℕ) (counts : List ℕ) : Type 0 where
  pub small : (c : ℕ) → c < 3 → slice_index counts c < 2 ^ 32
  pub shared : ((version ≡ 1) × (slice_index counts 1 ≡ slice_index counts 0) × (slice_index counts 2 ≡ slice_index counts 0)) ⊎ (version ≡ 2)

-- bytes are a header that says so many bits of each lane
pub record IsHeader (head : List ℕ) (counts : List ℕ) : Type 0 where
  pub version : ℕ
  pub said : CanSay version counts
  pub head_is : head ≡ header_of version counts

-- every block of three lanes, as many as the longest needs: a lane that has ended adds nothing to one
unfoldable pub lane_blocks : List Bool → List Bool → List Bool → List ℕ
lane_blocks x y z = blocks_below (blocks_of (max (length (packed x)) (max (length (packed y)) (length (packed z))))) (packed x) (packed y) (packed z)

-- the capture of three lanes in a version: a header and every block, and nothing more
unfoldable pub layout : ℕ → List Bool → List Bool → List Bool → List ℕ
layout version x y z = header_of version (counts_of x y z) ++ lane_blocks x y z

-- bytes are the capture of three lanes, in a version that holds them: a header and every block, and nothing more
pub record IsCaptureOf (blue green red : List Bool) (bytes : List ℕ) : Type 0 where
  pub head : List ℕ
  pub headed : IsHeader head (counts_of blue green red)
  pub bytes_are : bytes ≡ head ++ lane_blocks blue green red

pub record IsCapture (bytes : List ℕ) : Type 0 where
  pub blue : List Bool
  pub green : List Bool
  pub red : List Bool
  pub holds : IsCaptureOf blue green red bytes

-- some capture begins with the bytes
pub record BeginsCapture (bytes : List ℕ) : Type 0 where
  pub rest : List ℕ
  pub whole : IsCapture (bytes ++ rest)

-- the place at which bytes stop being the beginning of a capture
pub record StopsAt (bytes : List ℕ) (p : ℕ) : Type 0 where
  pub inside : p < length bytes
  pub before : BeginsCapture (take p bytes)
  pub stops : BeginsCapture (take (p + 1) bytes) → ⊥

-- the mark is at places 0 to 2, the version at place 3; nothing follows a capture; all else that is wrong is a spare
-- bit of a lane's last byte. Bytes that only end too early are short.
abbrev pub IsFault : List ℕ → CaptureFault → Type 0
IsFault bytes (Magic p) = StopsAt bytes p × (p < 3)
IsFault bytes (Version v) = StopsAt bytes 3 × (slice_get bytes 3 ≡ Some v)
IsFault bytes (Padding p) = StopsAt bytes p × (4 ≤ p) × (IsCapture (take p bytes) → ⊥)
IsFault bytes (Trailing p) = StopsAt bytes p × IsCapture (take p bytes)
IsFault bytes (Short p) = BeginsCapture bytes × (IsCapture bytes → ⊥) × (p ≡ length bytes)

-- the place that a fault names
abbrev pub place_of : CaptureFault → ℕ
place_of (Magic p) = p
place_of (Version v) = 3
place_of (Short p) = p
place_of (Padding p) = p
place_of (Trailing p) = p

-- how many bits block j has of a lane of so many
abbrev pub bits_in : ℕ → ℕ → ℕ
bits_in j count = min (count - BLOCK_BITS * j) BLOCK_BITS

-- how many bytes block j has
abbrev pub block_size : ℕ → List ℕ → ℕ
block_size j counts = (bits_in j (slice_index counts 0) + 7) / 8 + (bits_in j (slice_index counts 1) + 7) / 8 + (bits_in j (slice_index counts 2) + 7) / 8

-- what was taken from the beginning of a capture as far as its block j: the header, and the blocks below j, which have the
-- first bits of each lane. The next place is the number of these bytes.
pub record HasRead (counts : List ℕ) (j place : ℕ) (taken : List ℕ) (blue green red : List Bool) : Type 0 where
  pub head : List ℕ
  pub headed : IsHeader head counts
  pub count_blue : length blue ≡ min (slice_index counts 0) (BLOCK_BITS * j)
  pub count_green : length green ≡ min (slice_index counts 1) (BLOCK_BITS * j)
  pub count_red : length red ≡ min (slice_index counts 2) (BLOCK_BITS * j)
  pub taken_is : taken ≡ head ++ blocks_below j (packed blue) (packed green) (packed red)
  pub place_is : place ≡ length taken

-- a place at which or after which these bytes end, but before the end of the next block, where there is one
pub record StopsIn (counts : List ℕ) (j : ℕ) (taken : List ℕ) (p : ℕ) : Type 0 where
  pub from : length taken ≤ p
  pub within : (p < length taken + block_size j counts) ⊎ ((block_size j counts ≡ 0) × (p ≡ length taken))

abbrev pub AreBytes : List ℕ → Type 0
AreBytes bytes = (i : ℕ) → get_or bytes i 0 < 256

-- after the bytes read so far a chunk of so many bits is awaited: each beginning of it is the beginning of a capture,
-- no capture ends in it, and in a capture its spare bits are 0
pub record Awaits (front : List ℕ) (count : ℕ) : Type 0 where
  pub headed : 4 ≤ length front
  pub begins : (piece : List ℕ) → AreBytes piece → length piece < (count + 7) / 8 → BeginsCapture (front ++ piece)
  pub unfinished : (piece : List ℕ) → length piece < (count + 7) / 8 → IsCapture (front ++ piece) → ⊥
  pub spared : (piece : List ℕ) → length piece ≡ (count + 7) / 8 → BeginsCapture (front ++ piece) → piece ≡ packed (take count (bytes_bits piece))

-- no header begins the bytes
abbrev pub IsHeadless : List ℕ → Type 0
IsHeadless bytes = (head counts tail : List ℕ) → IsHeader head counts → bytes ≡ head ++ tail → ⊥

-- less than a header was read, and some capture begins with it
abbrev pub IsHeaderPart : List ℕ → Type 0
IsHeaderPart bytes = IsHeadless bytes × BeginsCapture bytes

-- less than block j was read, or nothing: with the header and the blocks below j, whatever these are, it begins a capture
pub record IsBlockPart (counts : List ℕ) (j : ℕ) (part : List ℕ) : Type 0 where
  pub short : (length part < block_size j counts) ⊎ (part ≡ [])
  pub begins : (place : ℕ) (taken : List ℕ) (blue green red : List Bool) → HasRead counts j place taken blue green red → BeginsCapture (taken ++ part)

-- a fault of bytes that have no whole header
abbrev pub IsEarlyFault : List ℕ → CaptureFault → Type 0
IsEarlyFault bytes fault = IsFault bytes fault × IsHeadless bytes

-- what an error of a reader says of all the bytes
abbrev pub SaysOf : (CaptureFault → Type 0) → CaptureError → Type 0
SaysOf says (Bad fault) = says fault
SaysOf says Read = Unit {0}

-- what an error of a reader says of a failed read; memory is not wanted
abbrev pub SaysRead : Type 0 → CaptureError → Type 0
SaysRead says (Bad fault) = Unit {0}
SaysRead says Read = says

-- a place within so many bytes from another on
abbrev pub IsWithin : ℕ → ℕ → ℕ → Type 0
IsWithin from size p = (from ≤ p) × (p < from + size)

-- how many bytes the header of a version has
abbrev pub header_size : ℕ → ℕ
header_size version = if version == 2 then 16 else 8

-- where block j begins
abbrev pub place_at : ℕ → List ℕ → ℕ → ℕ
place_at version counts j =
    header_size version
    + min ((slice_index counts 0 + 7) / 8) (BLOCK_BYTES * j)
    + min ((slice_index counts 1 + 7) / 8) (BLOCK_BYTES * j)
    + min ((slice_index counts 2 + 7) / 8) (BLOCK_BYTES * j)

-- what a reader stands for that is at block j of a capture of a version: bytes that were taken so far, and the bits of the
-- blocks that it gave, for each lane
abbrev pub Stands : ℕ → List ℕ → ℕ → List ℕ → List Bool → List Bool → List Bool → Type 0
Stands version counts j taken x y z = HasRead counts j (place_at version counts j) taken x y z
