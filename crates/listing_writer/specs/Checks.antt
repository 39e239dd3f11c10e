-- The text of a check: the lines of faults and of the cut, and whether there was a fault (docs/guide/FORMATS.md).
use Rattle.std.specs.Prelude.{ℕ, zero, suc, Bool, true, false, ◌||◌, List, ◌++◌, filter, codes}
use Rattle.period_grammar.specs.Exact.{is_fault_event}
use Rattle.period_grammar.specs.Events.{Event, cut}
use Rattle.listing_writer.specs.Texts.{lines_of, fault_lines}

-- whether an event says that the columns ended early
unfoldable pub is_cut : Event → Bool
is_cut (cut column) = true
is_cut _ = false

-- faults and `cut`
unfoldable pub is_checked : Event → Bool
is_checked t = is_fault_event t || is_cut t

-- the lines of the events that a check lists
unfoldable pub check_lines : List Event → List ℕ
check_lines events = lines_of (filter is_checked events)

-- the last line, after so many faults
abbrev pub verdict_line : ℕ → List ℕ
verdict_line zero = codes "clean\n"
verdict_line (suc n) = codes "faulty\n"

-- the whole check
unfoldable pub check_text : List Event → List ℕ
check_text events = check_lines events ++ verdict_line (fault_lines events)
