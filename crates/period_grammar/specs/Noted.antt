-- The events of notes.
use Rattle.std.specs.Prelude.{ℕ, List, map}
use Rattle.period_grammar.specs.Events.{Event, run, line, cut, open_island, packet, close_island}
use Rattle.period_grammar.specs.Faults.{fault_event}
use Rattle.period_grammar.specs.declared.event_queue.QueuedEvent.{QueuedEvent}
use Rattle.period_grammar.specs.declared.island.WholePacket.{WholePacket}
use Rattle.period_grammar.specs.declared.event_queue.QueuedEvent.TheVariants.{Run, Line, Open, Packet, Close, Fault, Cut}

-- what an event may lend: the bytes of a line, a packet with its verdicts
pub record Lent : Type 0 where
  pub bytes : List ℕ
  pub whole : WholePacket

abbrev pub lent : List ℕ → WholePacket → Lent
lent bytes whole = record { bytes = bytes; whole = whole }

-- an event that was noted
abbrev pub noted : Lent → QueuedEvent → Event
noted l (Run value count) = run value count
noted l Line = line l.bytes
noted l (Open first second) = open_island first second
noted l (Packet column) = packet l.whole.packet l.whole.verdicts column
noted l (Close first second) = close_island first second
noted l (Fault fault) = fault_event fault
noted l (Cut column) = cut column

abbrev pub events : Lent → List QueuedEvent → List Event
events l notes = map (noted l) notes
