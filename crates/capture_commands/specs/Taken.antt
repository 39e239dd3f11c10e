-- How far `read biphase` and `relay` read an input that they refuse, and when memory is wanting to `relay`. `from` and `left` are the
-- bytes left to read before and now, `held` and `holds` those that were written.
use Rattle.std.specs.Prelude.{◌≡◌, ◌⊎◌, ◌<◌, ◌≤◌, ℕ, List, [], ◌∷◌, ◌++◌, Option, Some}
use Rattle.std.specs.Io.KnownBytes.{Consumes, IsAtEnd, Keeps}
use Rattle.biphase_listing.specs.Reading.{Stops as ListsSome}
use Rattle.biphase_listing.specs.declared.fault.BiphaseError.TheVariants.{Bad}
use Rattle.biphase_listing.specs.declared.fault.BiphaseFault.{BiphaseFault}
use Rattle.capture_file.specs.Captures.{IsCaptureOf}
use Rattle.capture_file.specs.declared.fault.CaptureFault.{CaptureFault}
use Rattle.island_pack.specs.Periods.{columns_of}
use Rattle.island_pack.specs.declared.ranges.TheConstants.{COLUMN_LIMIT}
use Rattle.period_grammar.specs.Events.{Event}
use Rattle.link_sink.specs.Alignment.{IsAlignedReported}
use Rattle.link_sink.specs.Sinks.{Fed, IsReportedSoFar}
use Rattle.relay.specs.Relayed.{relayed}
use Rattle.command_line.specs.declared.command.Command.{Command}
use Rattle.command_line.specs.declared.command.Command.TheVariants.{ReadBiphase, Relay}
use Rattle.capture_reading.specs.Blocks.{AreNext}
use Rattle.capture_commands.specs.Relays.{RelaysBefore}
use Rattle.capture_commands.specs.declared.ending.Ending.{Ending}
use Rattle.capture_commands.specs.declared.ending.Ending.TheVariants.{Done, Faulty, Capture, Frames, TooLong, ReadFailed, WriteFailed, NoMemory, Unaligned}

-- whole blocks were read, or a capture to its end, and no byte more; of what is reported of them some events were taken, all that
-- is reported before the last block or the end among them, and then one more is reported
pub record AreTaken (from left : Option (List ℕ)) (events : List Event) (next : Event) : Type 0 where
  pub read : List ℕ
  pub consumed : Consumes from left read
  pub before : Fed
  pub first : List Event
  pub reported : IsReportedSoFar before first
  pub more : List Event
  pub events_are : events ≡ first ++ more
  pub rest : List Event
  pub some :
      ((now : Fed) × AreNext before now read × IsReportedSoFar now (events ++ next ∷ rest))
      ⊎ ((columns : ℕ) × IsAtEnd left × IsCaptureOf before.blue before.green before.red read
      × IsAlignedReported before.blue before.green before.red columns (events ++ next ∷ rest))

-- with that one too many columns are relayed, and without it not
pub record PassesAtLast (from left : Option (List ℕ)) : Type 0 where
  pub events : List Event
  pub next : Event
  pub taken : AreTaken from left events next
  pub few : columns_of (relayed events) ≤ COLUMN_LIMIT
  pub passes : COLUMN_LIMIT < columns_of (relayed (events ++ next ∷ []))

-- memory was wanting at that one, with which no more than 20,000,000 columns are relayed
pub record WantsAtLast (from left : Option (List ℕ)) : Type 0 where
  pub events : List Event
  pub next : Event
  pub taken : AreTaken from left events next
  pub few : columns_of (relayed (events ++ next ∷ [])) ≤ COLUMN_LIMIT

-- memory was wanting once a capture was read, of which no more than 20,000,000 columns are relayed
pub record WantsAtEnd (from left : Option (List ℕ)) : Type 0 where
  pub fed : Fed
  pub columns : ℕ
  pub events : List Event
  pub ended : IsAtEnd left
  pub captured : (bytes : List ℕ) → from ≡ Some bytes → IsCaptureOf fed.blue fed.green fed.red bytes
  pub reported : IsAlignedReported fed.blue fed.green fed.red columns events
  pub few : columns_of (relayed events) ≤ COLUMN_LIMIT

-- or before anything was read
abbrev pub WantsMemory : Option (List ℕ) → Option (List ℕ) → Type 0
WantsMemory from left = Keeps from left ⊎ WantsAtLast from left ⊎ WantsAtEnd from left

-- how `relay` ends
abbrev pub RelayStops : Ending → Option (List ℕ) → Option (List ℕ) → Type 0
RelayStops Done from left = Unit {0}
RelayStops Faulty from left = Unit {0}
RelayStops ReadFailed from left = Unit {0}
RelayStops WriteFailed from left = Unit {0}
RelayStops Unaligned from left = Unit {0}
RelayStops NoMemory from left = WantsMemory from left
RelayStops TooLong from left = PassesAtLast from left
RelayStops (Capture fault) from left = (bytes : List ℕ) → from ≡ Some bytes → RelaysBefore bytes fault
RelayStops _ from left = ⊥

-- and `read biphase`
abbrev pub FramesStop : Ending → Option (List ℕ) → Option (List ℕ) → Option (List ℕ) → Option (List ℕ) → Type 0
FramesStop Done from left held holds = Unit {0}
FramesStop ReadFailed from left held holds = Unit {0}
FramesStop WriteFailed from left held holds = Unit {0}
FramesStop (Frames fault) from left held holds = ListsSome from left held holds (Bad fault)
FramesStop _ from left held holds = ⊥

-- of the other commands no more is said here
abbrev pub StopsOf : Command → Ending → Option (List ℕ) → Option (List ℕ) → Option (List ℕ) → Option (List ℕ) → Type 0
StopsOf ReadBiphase ending from left held holds = FramesStop ending from left held holds
StopsOf Relay ending from left held holds = RelayStops ending from left
StopsOf _ ending from left held holds = Unit {0}

-- an input that is refused: `read biphase` reads no further than shows its fault, and `relay`, where too much is relayed, no block
-- more
abbrev pub EndsRefused : Command → Option (List ℕ) → Option (List ℕ) → Option (List ℕ) → Option (List ℕ) → Type 0
EndsRefused ReadBiphase from left held holds = (fault : BiphaseFault) × ListsSome from left held holds (Bad fault)
EndsRefused Relay from left held holds = PassesAtLast from left ⊎ ((fault : CaptureFault) × ((bytes : List ℕ) → from ≡ Some bytes → RelaysBefore bytes fault))
EndsRefused _ from left held holds = Unit {0}
