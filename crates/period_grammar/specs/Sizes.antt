-- The sizes of what is reported.
use Rattle.std.specs.Prelude.{◌≡◌, ◌<◌, ◌≤◌, ◌%◌, List, length, All}
use Rattle.tmds_word.specs.Column.{Column}
use Rattle.island_pack.specs.Packets.{IsPacket}
use Rattle.period_grammar.specs.Events.{Event, run, line, open_island, packet, close_island}
use Rattle.period_grammar.specs.Heard.{heard}
use Rattle.period_grammar.specs.Column.{value_of}

-- a run has a value below 64 and at least one column; a line has the bytes of one to 4,096 whole pixels; sync digits are
-- below 4; a packet has its three header bytes, its twenty-eight body bytes and its thirty-two sync digits
abbrev pub IsSized : Event → Type 0
IsSized (run v n) = (v < 64) × (1 ≤ n)
IsSized (line bytes) = (length bytes % 3 ≡ 0) × (3 ≤ length bytes) × (length bytes ≤ 12288) × All (λ byte. byte < 256) bytes
IsSized (open_island a b) = (a < 4) × (b < 4)
IsSized (close_island a b) = (a < 4) × (b < 4)
IsSized (packet p v s) = IsPacket p × All (λ digit. digit < 4) p.sync
IsSized _ = Unit {0}

-- everything that is reported is of these sizes
abbrev pub Sizes : Type 0
Sizes = (cs : List Column) → All IsSized (heard cs)

-- the value of any column is one of the 64 that a control column can have
abbrev pub ValueBelow : Type 0
ValueBelow = (c : Column) → value_of c < 64
