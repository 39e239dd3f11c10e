-- Captures of which one lane lacks some bits: those from a place on are left out, and what follows them moves up.
use Rattle.std.specs.Prelude.{◌≡◌, ◌⊎◌, ℕ, ◌+◌, ◌<◌, ◌≤◌, ◌==◌, Bool, List, [], ◌++◌, length, take, drop, slice_index, Option, if◌then◌else◌}
use Rattle.std.specs.Io.KnownBytes.{Appends, Consumes}
use Rattle.capture_file.specs.Captures.{counts_of, layout, IsHeader, IsCaptureOf, BeginsCapture, Stands, IsHeadless, block_size}
use Rattle.capture_file.specs.declared.slipping.SlipError.{SlipError}
use Rattle.capture_file.specs.declared.slipping.SlipError.TheVariants.{Bad, Place, Read, Write, NoMemory}
use Rattle.capture_file.specs.declared.fault.CaptureFault.{CaptureFault}
use Rattle.capture_file.specs.declared.fault.CaptureError.{CaptureError}
use Rattle.capture_file.specs.declared.fault.CaptureError.TheVariants as errors

-- a row without so many bits from a place on
abbrev pub without : ℕ → ℕ → List Bool → List Bool
without place count row = take place row ++ drop (place + count) row

-- a lane's row, where a lane is without them: the rows of the other lanes are as before
abbrev pub slipped : ℕ → ℕ → ℕ → ℕ → List Bool → List Bool
slipped lane place count own row = if own == lane then without place count row else row

-- the capture in version 2 of the lanes of a capture, of which one is without so many bits from a place on, which it has
pub record IsSlippedCapture (bytes : List ℕ) (lane place count : ℕ) (whole : List ℕ) : Type 0 where
  pub blue : List Bool
  pub green : List Bool
  pub red : List Bool
  pub holds : IsCaptureOf blue green red bytes
  pub fits : place + count ≤ slice_index (counts_of blue green red) lane
  pub whole_is : whole ≡ layout 2 (slipped lane place count 0 blue) (slipped lane place count 1 green) (slipped lane place count 2 red)

-- where the bytes have a whole header, the bits lie within their lane as that header says it
abbrev pub IsWithinLane : List ℕ → ℕ → ℕ → ℕ → Type 0
IsWithinLane bytes lane place count = (head counts tail : List ℕ) → IsHeader head counts → bytes ≡ head ++ tail → place + count ≤ slice_index counts lane

-- the header was taken and nothing after it, and the bits pass the end of their lane as that header says it
pub record IsPastLane (left rest : Option (List ℕ)) (lane place count : ℕ) : Type 0 where
  pub head : List ℕ
  pub counts : List ℕ
  pub headed : IsHeader head counts
  pub took : Consumes left rest head
  pub past : slice_index counts lane < place + count

-- the header and whole blocks of a capture were read, and perhaps a part of the next block; the bits lie within their lane
pub record IsReadPart (read : List ℕ) (lane place count : ℕ) : Type 0 where
  pub version : ℕ
  pub counts : List ℕ
  pub block : ℕ
  pub taken : List ℕ
  pub more : List ℕ
  pub blue : List Bool
  pub green : List Bool
  pub red : List Bool
  pub read_is : read ≡ taken ++ more
  pub stands : Stands version counts block taken blue green red
  pub short : (length more < block_size block counts) ⊎ (more ≡ [])
  pub fits : place + count ≤ slice_index counts lane

-- a failed read after bytes with which some capture begins: they have no whole header, or one in whose lane the bits lie
pub record StopsReading (left rest : Option (List ℕ)) (lane place count : ℕ) : Type 0 where
  pub read : List ℕ
  pub took : Consumes left rest read
  pub begins : BeginsCapture read
  pub part : IsHeadless read ⊎ IsReadPart read lane place count

-- want of memory: a header was read, in whose lane the bits lie, and perhaps more
pub record StopsKeeping (left rest : Option (List ℕ)) (lane place count : ℕ) : Type 0 where
  pub head : List ℕ
  pub counts : List ℕ
  pub more : List ℕ
  pub headed : IsHeader head counts
  pub took : Consumes left rest (head ++ more)
  pub fits : place + count ≤ slice_index counts lane

-- a failed write: all was read, and a part of the capture is not written
pub record StopsWriting (bytes : List ℕ) (lane place count : ℕ) (before now : Option (List ℕ)) : Type 0 where
  pub whole : List ℕ
  pub slips : IsSlippedCapture bytes lane place count whole
  pub gone : ℕ
  pub missing : gone < length whole
  pub wrote : Appends before now (take gone whole)

-- what a fault says, where an error is one
abbrev pub SaysFaulty : (CaptureFault → Type 0) → SlipError → Type 0
SaysFaulty says (Bad fault) = says fault
SaysFaulty says Place = Unit {0}
SaysFaulty says Read = Unit {0}
SaysFaulty says Write = Unit {0}
SaysFaulty says NoMemory = Unit {0}

-- the same refusal of a reader
abbrev pub unread : CaptureError → SlipError
unread (errors.Bad fault) = Bad fault
unread errors.Read = Read
