-- Which columns are received as the laws of reporting ask, with bit 3 of lane 0 in packet columns free in what was sent.
use Rattle.std.specs.Prelude.{◌≡◌, ℕ, ◌<◌, true, List, length}
use Rattle.tmds_word.specs.Column.{Column}
use Rattle.island_pack.specs.Periods.{Period}
use Rattle.island_pack.specs.Sparse.{IsNarrow, column_at}
use Rattle.period_grammar.specs.Cut.{stretches}
use Rattle.period_grammar.specs.Exact.{IsClean}
use Rattle.link_laws.specs.Laws.{ReceivedOf, ReceivedFreely}
use Rattle.link_laws.specs.Whole.{ends_long}

-- columns of those that a source spells
abbrev pub FreeReceived : Type 0
FreeReceived = (ps : List Period) (sent received : List Column) → ReceivedOf ps sent received → ReceivedFreely ps sent received

-- columns of ten bits a lane of which no fault is reported, and that end in a control period of at least twelve: they
-- are received so, taken as what was sent
abbrev pub CleanReceived : Type 0
CleanReceived =
    (cs : List Column) → ((i : ℕ) → i < length cs → IsNarrow (column_at cs i)) → IsClean cs → ends_long (stretches cs) ≡ true
    → (ps : List Period) × ReceivedFreely ps cs cs
