-- The text that describes periods as a link listing (docs/guide/FORMATS.md).
use Rattle.std.specs.Prelude.{ℕ, List, [], ◌∷◌, ◌++◌, codes}
use Rattle.island_pack.specs.Periods.{ControlRun, Period, control, video, island}
use Rattle.island_pack.specs.declared.packet.Packet.{Packet}
use Rattle.period_grammar.specs.Events.{Event, run, line, open_island, packet, close_island}
use Rattle.listing_writer.specs.Texts.{line_words}

-- the line of an event
abbrev pub line_of : Event → List ℕ
line_of t = line_words t ++ codes "\n"

-- a packet as an event: its line has neither its verdicts nor its column
abbrev pub reported_packet : Packet → Event
reported_packet p = packet p (record { blocks = []; symbols = 0 }) 0

unfoldable pub run_lines : List ControlRun → List ℕ
run_lines [] = []
run_lines (r ∷ rs) = line_of (run r.value r.count) ++ run_lines rs

unfoldable pub packet_lines : List Packet → List ℕ
packet_lines [] = []
packet_lines (p ∷ ps) = line_of (reported_packet p) ++ packet_lines ps

-- a control period is a line for each run, a video data period is one line `v X`, and a data island is a line `i AB`, a line
-- for each packet and a line `e AB`
unfoldable pub period_lines : Period → List ℕ
period_lines (control runs) = run_lines runs
period_lines (video bytes) = line_of (line bytes)
period_lines (island x) =
    line_of (open_island x.opening.first x.opening.second) ++ packet_lines x.packets ++ line_of (close_island x.closing.first x.closing.second)

-- the lines of the periods one after another, and then `end`
unfoldable pub text_of : List Period → List ℕ
text_of [] = codes "end\n"
text_of (p ∷ ps) = period_lines p ++ text_of ps
