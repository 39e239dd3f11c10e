-- Damaged captures of both versions: on a lane the ten bits from a place on are replaced by those of another character.
-- It is defined on each beginning of a capture that has the header.
use Rattle.std.specs.Prelude.{◌≡◌, ◌⊎◌, ℕ, ◌+◌, ◌<◌, ◌≤◌, Bool, List, [], ◌++◌, length, take, slice_get, slice_index, Some, Option, drop}
use Rattle.std.specs.Io.KnownBytes.{Appends, Keeps, Consumes}
use Rattle.capture_file.specs.Captures.{counts_of, header_of, CanSay, IsHeader, lane_blocks, IsCaptureOf, BeginsCapture, Stands, StopsIn, IsHeadless, IsFault, place_of, block_size}
use Rattle.capture_file.specs.Layout.{packed, blocks_below}
use Rattle.capture_file.specs.Damage.{damaged}
use Rattle.capture_file.specs.declared.damaging.Hit.{Hit}
use Rattle.capture_file.specs.declared.damaging.DamageError.{DamageError}
use Rattle.capture_file.specs.declared.damaging.DamageError.TheVariants.{Bad, Place, Read, Write}
use Rattle.capture_file.specs.declared.fault.CaptureFault.{CaptureFault}

-- the ten bits of each hit lie within its own lane
abbrev pub FitsLane : List ℕ → Hit → Type 0
FitsLane counts hit = hit.place + 10 ≤ slice_index counts hit.lane

abbrev pub AllFitLanes : List ℕ → List Hit → Type 0
AllFitLanes counts hits = (i : ℕ) (hit : Hit) → slice_get hits i ≡ Some hit → FitsLane counts hit

-- the hits of a lane lie within so many bits
abbrev pub LaneFits : ℕ → ℕ → List Hit → Type 0
LaneFits lane count hits = (i : ℕ) (hit : Hit) → slice_get hits i ≡ Some hit → hit.lane ≡ lane → hit.place + 10 ≤ count

-- hit i is the first whose ten bits pass the end of its own lane
pub record IsFirstPastLane (counts : List ℕ) (hits : List Hit) (i : ℕ) : Type 0 where
  pub hit : Hit
  pub here : slice_get hits i ≡ Some hit
  pub passes : FitsLane counts hit → ⊥
  pub before : (k : ℕ) (h : Hit) → k < i → slice_get hits k ≡ Some h → FitsLane counts h

-- a chunk that begins at a place of its lane, after hits: it is that part of the lane after the hits, whatever the lane is
pub record DamagedChunk (lane from : ℕ) (hits : List Hit) (old now : List Bool) : Type 0 where
  pub long : length now ≡ length old
  pub part : (row : List Bool) → LaneFits lane (length row) hits → old ≡ take (length old) (drop from row) → now ≡ take (length old) (drop from (damaged lane hits row))

-- the header and the blocks below j were taken, and this is what they are damaged, whatever the lanes go on with
pub record IsDamagedFront (version : ℕ) (counts : List ℕ) (hits : List Hit) (j : ℕ) (taken out : List ℕ) : Type 0 where
  pub blue : List Bool
  pub green : List Bool
  pub red : List Bool
  pub read : Stands version counts j taken blue green red
  pub said : CanSay version counts
  pub head_is : read.head ≡ header_of version counts
  pub out_is :
      (u v w : List Bool) → length (blue ++ u) ≡ slice_index counts 0 → length (green ++ v) ≡ slice_index counts 1 → length (red ++ w) ≡ slice_index counts 2
      → out ≡ header_of version counts ++ blocks_below j (packed (damaged 0 hits (blue ++ u))) (packed (damaged 1 hits (green ++ v))) (packed (damaged 2 hits (red ++ w)))

-- the header and the blocks below j were taken, and written damaged
pub record Halfway (version : ℕ) (counts : List ℕ) (hits : List Hit) (j : ℕ) (taken : List ℕ) (before now : Option (List ℕ)) : Type 0 where
  pub out : List ℕ
  pub front : IsDamagedFront version counts hits j taken out
  pub wrote : Appends before now out

-- what a fault says, where an error is one
abbrev pub SaysFault : (CaptureFault → Type 0) → DamageError → Type 0
SaysFault says (Bad fault) = says fault
SaysFault says (Place i) = ⊥
SaysFault says Read = Unit {0}
SaysFault says Write = Unit {0}

-- block j was taken too, and written damaged in a part alone
pub record CutIn (version : ℕ) (counts : List ℕ) (hits : List Hit) (j : ℕ) (taken : List ℕ) (before now : Option (List ℕ)) : Type 0 where
  pub blue : List Bool
  pub green : List Bool
  pub red : List Bool
  pub read : Stands version counts (j + 1) taken blue green red
  pub said : CanSay version counts
  pub head_is : read.head ≡ header_of version counts
  pub gone : ℕ
  pub missing : gone < length taken
  pub most : length taken ≤ gone + block_size j counts
  pub wrote :
      (u v w : List Bool) → length (blue ++ u) ≡ slice_index counts 0 → length (green ++ v) ≡ slice_index counts 1 → length (red ++ w) ≡ slice_index counts 2
      → Appends before now (take gone (header_of version counts ++ blocks_below (j + 1) (packed (damaged 0 hits (blue ++ u))) (packed (damaged 1 hits (green ++ v))) (packed (damaged 2 hits (red ++ w)))))

-- a fault after the header: as far as the last whole block before its place all was taken and written damaged
pub record IsLateFault (version : ℕ) (counts : List ℕ) (hits : List Hit) (bytes taken : List ℕ) (before now : Option (List ℕ)) (fault : CaptureFault) : Type 0 where
  pub block : ℕ
  pub part : List ℕ
  pub rest : List ℕ
  pub bytes_are : bytes ≡ part ++ rest
  pub half : Halfway version counts hits block (taken ++ part) before now
  pub is : IsFault (taken ++ bytes) fault
  pub stops : StopsIn counts block (taken ++ part) (place_of fault)

-- the capture after hits, each of which lies within its own lane: the same header, and every block of the lanes after the hits
pub record IsDamagedCapture (bytes : List ℕ) (hits : List Hit) (whole : List ℕ) : Type 0 where
  pub blue : List Bool
  pub green : List Bool
  pub red : List Bool
  pub holds : IsCaptureOf blue green red bytes
  pub fits : AllFitLanes (counts_of blue green red) hits
  pub whole_is : whole ≡ holds.head ++ lane_blocks (damaged 0 hits blue) (damaged 1 hits green) (damaged 2 hits red)

-- where the bytes have a whole header, each hit lies within its own lane as that header says it
abbrev pub AreWithinLanes : List ℕ → List Hit → Type 0
AreWithinLanes bytes hits = (head counts tail : List ℕ) → IsHeader head counts → bytes ≡ head ++ tail → AllFitLanes counts hits

-- the header was taken and nothing after it, and hit i is the first whose ten bits pass the end of its own lane as that
-- header says it
pub record IsMisplacedLane (left rest : Option (List ℕ)) (hits : List Hit) (i : ℕ) : Type 0 where
  pub head : List ℕ
  pub counts : List ℕ
  pub headed : IsHeader head counts
  pub took : Consumes left rest head
  pub first : IsFirstPastLane counts hits i

-- the bytes have a whole header, and hit i is the first whose ten bits pass the end of its own lane as that header says it
pub record IsMisplacedIn (bytes : List ℕ) (hits : List Hit) (i : ℕ) : Type 0 where
  pub head : List ℕ
  pub tail : List ℕ
  pub counts : List ℕ
  pub headed : IsHeader head counts
  pub bytes_are : bytes ≡ head ++ tail
  pub first : IsFirstPastLane counts hits i

-- the header and the whole blocks that end at or before a place, and these alone, damaged
pub record IsDamagedBefore (bytes : List ℕ) (place : ℕ) (hits : List Hit) (out : List ℕ) : Type 0 where
  pub version : ℕ
  pub counts : List ℕ
  pub block : ℕ
  pub taken : List ℕ
  pub rest : List ℕ
  pub bytes_are : bytes ≡ taken ++ rest
  pub front : IsDamagedFront version counts hits block taken out
  pub stops : StopsIn counts block taken place

-- what is written for a fault of bytes, no hit of which passes the end of its lane: nothing where they have no whole header,
-- else the header and the whole blocks before the fault's place
pub record IsFaultyDamage (bytes : List ℕ) (hits : List Hit) (fault : CaptureFault) (out : List ℕ) : Type 0 where
  pub is : IsFault bytes fault
  pub within : AreWithinLanes bytes hits
  pub out_is : (IsHeadless bytes × (out ≡ [])) ⊎ IsDamagedBefore bytes (place_of fault) hits out

-- and it was written
abbrev pub IsDamageFault : List ℕ → List Hit → Option (List ℕ) → Option (List ℕ) → CaptureFault → Type 0
IsDamageFault bytes hits before now fault = (out : List ℕ) × IsFaultyDamage bytes hits fault out × Appends before now out

-- what a fault says, where an error is one; memory is not wanted
abbrev pub SaysBad : (CaptureFault → Type 0) → DamageError → Type 0
SaysBad says (Bad fault) = says fault
SaysBad says (Place i) = Unit {0}
SaysBad says Read = Unit {0}
SaysBad says Write = Unit {0}

-- bytes that were read: the header and the whole blocks of them, and these alone, were written damaged
pub record IsDamagedRead (read : List ℕ) (hits : List Hit) (before now : Option (List ℕ)) : Type 0 where
  pub version : ℕ
  pub counts : List ℕ
  pub block : ℕ
  pub taken : List ℕ
  pub more : List ℕ
  pub read_is : read ≡ taken ++ more
  pub fits : AllFitLanes counts hits
  pub half : Halfway version counts hits block taken before now
  pub short : (length more < block_size block counts) ⊎ (more ≡ [])

-- a failed read after bytes with which some capture begins: nothing was written where no whole header was read, else the header
-- and the whole blocks that were read
pub record ReadFailed (left rest : Option (List ℕ)) (hits : List Hit) (before now : Option (List ℕ)) : Type 0 where
  pub read : List ℕ
  pub took : Consumes left rest read
  pub begins : BeginsCapture read
  pub wrote : (IsHeadless read × Keeps before now) ⊎ IsDamagedRead read hits before now

-- a header was read, and written in a part alone
pub record IsCutHeader (read : List ℕ) (hits : List Hit) (before now : Option (List ℕ)) : Type 0 where
  pub counts : List ℕ
  pub headed : IsHeader read counts
  pub fits : AllFitLanes counts hits
  pub gone : ℕ
  pub missing : gone < length read
  pub wrote : Appends before now (take gone read)

-- the header and blocks were read, and written damaged but for a part of the last block
pub record IsCutBlock (read : List ℕ) (hits : List Hit) (before now : Option (List ℕ)) : Type 0 where
  pub version : ℕ
  pub counts : List ℕ
  pub block : ℕ
  pub fits : AllFitLanes counts hits
  pub cut : CutIn version counts hits block read before now

-- a failed write: of the header and the whole blocks that were read at most the last, and a part of it at least, is not written
pub record WriteFailed (left rest : Option (List ℕ)) (hits : List Hit) (before now : Option (List ℕ)) : Type 0 where
  pub read : List ℕ
  pub took : Consumes left rest read
  pub wrote : IsCutHeader read hits before now ⊎ IsCutBlock read hits before now

-- what a place says, where an error is one
abbrev pub SaysPlace : (ℕ → Type 0) → DamageError → Type 0
SaysPlace says (Bad fault) = Unit {0}
SaysPlace says (Place i) = says i
SaysPlace says Read = Unit {0}
SaysPlace says Write = Unit {0}

-- what an error says of a failed read; memory is not wanted
abbrev pub SaysUnread : Type 0 → DamageError → Type 0
SaysUnread says (Bad fault) = Unit {0}
SaysUnread says (Place i) = Unit {0}
SaysUnread says Read = says
SaysUnread says Write = Unit {0}
