-- What is wrong with columns, as an event that is reported.
use Rattle.period_grammar.specs.Events.{Event, word, short, preamble, noise, empty, code, long_line, symbols, mended, lost, long_island, broken, guard}
use Rattle.period_grammar.specs.declared.event.Fault.{Fault}
use Rattle.period_grammar.specs.declared.event.Fault.TheVariants.{Word, Short, Preamble, Noise, Empty, Code, LongLine, Symbols, Mended, Lost, LongIsland, Broken, Guard}

abbrev pub fault_event : Fault → Event
fault_event (Word lane column) = word lane column
fault_event (Short column) = short column
fault_event (Preamble column) = preamble column
fault_event (Noise column) = noise column
fault_event (Empty column) = empty column
fault_event (Code lane column) = code lane column
fault_event (LongLine column) = long_line column
fault_event (Symbols column count) = symbols column count
fault_event (Mended column block bit) = mended column block bit
fault_event (Lost column block) = lost column block
fault_event (LongIsland column) = long_island column
fault_event (Broken column) = broken column
fault_event (Guard column) = guard column
