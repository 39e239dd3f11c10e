-- How far a capture was read into a sink, and how its reading ends. Of a sink's relations `heard` says which bits it was fed,
-- and that since a first state its ear took what it reports of them; `so_far` says that of the ear alone; `stops` and
-- `stops_last`, that the ear failed in what is reported of one block more, and of the end.
use Rattle.capture_file.specs.declared.TheConstants.{BLOCK_BITS}
use Rattle.std.specs.Prelude.{◌≡◌, ◌⊎◌, ◌*◌, ℕ, max, min, List, Option, Some, slice_index}
use Rattle.std.specs.Io.KnownBytes.{Consumes, IsAtEnd}
use Rattle.outside_io.specs.Causes.{Rose}
use Rattle.capture_file.specs.Captures.{Stands, IsCaptureOf, IsFault, place_of}
use Rattle.capture_file.specs.declared.fault.CaptureFault.{CaptureFault}
use Rattle.capture_file.specs.declared.fault.CaptureError.{CaptureError}
use Rattle.capture_file.specs.declared.fault.CaptureError.TheVariants.{Bad as Failed, Read as Unread}
use Rattle.link_sink.specs.Sinks.{Fed}
use Rattle.capture_reading.specs.Blocks.{AreBefore, AreRead, AreNext}
use Rattle.capture_reading.specs.declared.reading.ReadCaptureError.{ReadCaptureError}
use Rattle.capture_reading.specs.declared.reading.ReadCaptureError.TheVariants.{Bad, Read, Ear}

-- of three lanes, how many bits the longest has
abbrev pub most_of : (ℕ → ℕ) → ℕ
most_of bits = max (bits 0) (max (bits 1) (bits 2))

-- lanes have the bits of the blocks below j
pub record AreFed (bits : ℕ → ℕ) (counts : List ℕ) (j : ℕ) : Type 0 where
  pub blue : bits 0 ≡ min (slice_index counts 0) (BLOCK_BITS * j)
  pub green : bits 1 ≡ min (slice_index counts 1) (BLOCK_BITS * j)
  pub red : bits 2 ≡ min (slice_index counts 2) (BLOCK_BITS * j)

-- the blocks below j were read since the source had some bytes left, and the sink has heard them
pub record HasHeard {K A : Type 0} (heard : K → Fed → A → A → Type 0) (version : ℕ) (counts : List ℕ) (j : ℕ) (from left : Option (List ℕ)) (sink : K) (first now : A) : Type 0 where
  pub taken : List ℕ
  pub fed : Fed
  pub consumed : Consumes from left taken
  pub stands : Stands version counts j taken fed.blue fed.green fed.red
  pub heard_so : heard sink fed first now

-- the whole capture was
pub record HasHeardAll {K A : Type 0} (heard : K → Fed → A → A → Type 0) (from left : Option (List ℕ)) (sink : K) (first now : A) : Type 0 where
  pub taken : List ℕ
  pub fed : Fed
  pub consumed : Consumes from left taken
  pub captured : IsCaptureOf fed.blue fed.green fed.red taken
  pub heard_so : heard sink fed first now

-- the bytes are no capture, and the ear took what is reported of the whole blocks before the fault
pub record IsRefusedAt {A : Type 0} (so_far : Fed → A → A → Type 0) (bytes : List ℕ) (fault : CaptureFault) (first now : A) : Type 0 where
  pub faulty : IsFault bytes fault
  pub fed : Fed
  pub before : AreBefore bytes (place_of fault) fed
  pub heard : so_far fed first now

-- a read failed, and it took what is reported of the whole blocks that were read
pub record IsReadFailed {A : Type 0} (so_far : Fed → A → A → Type 0) (from left : Option (List ℕ)) (first now : A) : Type 0 where
  pub fed : Fed
  pub read : List ℕ
  pub consumed : Consumes from left read
  pub are_read : AreRead read fed
  pub heard : so_far fed first now

-- a call of it failed in what is reported of one block more, or of the end of the whole capture
pub record IsUntaken {A : Type 0} (stops : Fed → Fed → A → A → Type 0) (stops_last : Fed → A → A → Type 0) (from left : Option (List ℕ)) (first now : A) : Type 0 where
  pub fed : Fed
  pub read : List ℕ
  pub consumed : Consumes from left read
  pub some :
      ((after : Fed) × AreNext fed after read × stops fed after first now)
      ⊎ (IsAtEnd left × IsCaptureOf fed.blue fed.green fed.red read × stops_last fed first now)

-- why a capture was not read to its end
abbrev pub StopsShort : {A : Type 0} → (Fed → A → A → Type 0) → (Fed → Fed → A → A → Type 0) → (Fed → A → A → Type 0) → Option (List ℕ) → Option (List ℕ) → A → A → ReadCaptureError → Type 0
StopsShort so_far stops stops_last from left first now (Bad fault) = ((fed : Fed) × so_far fed first now) × ((bytes : List ℕ) → from ≡ Some bytes → IsRefusedAt so_far bytes fault first now)
StopsShort so_far stops stops_last from left first now Read = IsReadFailed so_far from left first now
StopsShort so_far stops stops_last from left first now Ear = IsUntaken stops stops_last from left first now

-- the whole capture was read, and the sink answered at its end: `whole` says what its ear took by then
pub record IsReadWhole {A O : Type 0} (whole : Fed → O → A → A → Type 0) (from : Option (List ℕ)) (outcome : O) (first now : A) : Type 0 where
  pub fed : Fed
  pub captured : (bytes : List ℕ) → from ≡ Some bytes → IsCaptureOf fed.blue fed.green fed.red bytes
  pub heard : whole fed outcome first now

-- the count of faults of whoever failed has risen
abbrev pub IsCausedBy : ℕ → ℕ → ℕ → ℕ → ReadCaptureError → Type 0
IsCausedBy input_old input_new ear_old ear_new (Bad fault) = Unit {0}
IsCausedBy input_old input_new ear_old ear_new Read = Rose input_old input_new
IsCausedBy input_old input_new ear_old ear_new Ear = Rose ear_old ear_new

-- what an error of a reader is here
abbrev pub refused_as : CaptureError → ReadCaptureError
refused_as (Failed fault) = Bad fault
refused_as Unread = Read
