-- What C holds: a receiver, or none.
use Rattle.std.specs.Prelude.{◌≡◌, ℕ, true, List, Option, Some, None}
use Rattle.link_sink.specs.Sinks.{Fed}
use Rattle.c_room.specs.declared.handle.Handle.{Handle}
use Rattle.c_room.specs.declared.kept.Kept.{Kept}
use Rattle.c_room.specs.declared.kind.Kind.{Kind}
use Rattle.c_room.specs.declared.lanes.BitCounts.{BitCounts}
use Rattle.c_room.specs.Sinks.{kind_of, goes_on}
use Rattle.c_room.specs.Stands.{Stands}
use Rattle.c_room.specs.Takes.{MayTakeAll, AreFew}

-- there is a receiver of this kind
abbrev pub IsOfKind : Option Kept → Kind → Type 0
IsOfKind (Some kept) kind = kind_of kept.sink ≡ kind
IsOfKind None kind = ⊥

-- there is one of this kind, and it stands for these bits as long as it is not finished
abbrev pub Holds : Option Kept → Kind → Fed → Type 0
Holds (Some kept) kind fed = (kind_of kept.sink ≡ kind) × Stands kept fed
Holds None kind fed = ⊥

-- the number says whether there is a receiver, and one that there is stands for some bits
abbrev pub AreHeld : ℕ → Option Kept → Type 0
AreHeld held (Some kept) = (held ≡ 1) × ((fed : Fed) × Stands kept fed)
AreHeld held None = held ≡ 0

abbrev pub IsHandle : Handle → Type 0
IsHandle handle = AreHeld handle.held handle.slot.value

-- there is a receiver that is not finished
abbrev pub IsOpen : Option Kept → Type 0
IsOpen (Some kept) = goes_on kept.sink ≡ true
IsOpen None = ⊥

-- it may be fed these bits of these bytes
abbrev pub MayFeedAll : Option Kept → List ℕ → List ℕ → List ℕ → BitCounts → Type 0
MayFeedAll (Some kept) blue green red bits = (goes_on kept.sink ≡ true) × MayTakeAll kept.fed blue green red bits
MayFeedAll None blue green red bits = ⊥

-- with so many bits more no lane has too many
abbrev pub AreFewMore : Option Kept → BitCounts → Type 0
AreFewMore (Some kept) bits = AreFew kept.fed bits
AreFewMore None bits = Unit {0}
