-- An event that is reported, with its bytes in place of what it lends.
use Rattle.std.specs.Prelude.{List, slice_index}
use Rattle.period_grammar.specs.Noted.{events, lent}
use Rattle.period_grammar.specs.Seen.{Seen}
pub use Rattle.period_grammar.specs.Faults.{fault_event}
use Rattle.period_grammar.specs.Events.{Event, run, line, cut, open_island, packet as packet_event, close_island}
use Rattle.period_grammar.specs.declared.event.EventRef.{EventRef}
use Rattle.period_grammar.specs.declared.event.EventRef.TheVariants.{Run, Line, Open, Packet, Close, Fault as FaultReported, Cut}

abbrev pub lent_event : EventRef → Event
lent_event (Run value count) = run value count
lent_event (Line pixels) = line pixels.now
lent_event (Open sync) = open_island (slice_index sync 0) (slice_index sync 1)
lent_event (Packet packet column) = packet_event packet.packet.now packet.verdicts.now column
lent_event (Close sync) = close_island (slice_index sync 0) (slice_index sync 1)
lent_event (FaultReported fault) = fault_event fault
lent_event (Cut column) = cut column

-- what the last call reported
abbrev pub last_reported : Seen → List Event
last_reported hearing = events (lent hearing.line.bytes hearing.island.whole) hearing.notes
