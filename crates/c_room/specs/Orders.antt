-- Events are reported in the order of their columns.
use Rattle.std.specs.Prelude.{ℕ, List, ◌++◌, map}
use Rattle.std.specs.List.Sorted.{IsNonDecreasing}
use Rattle.period_grammar.specs.Events.{EventAt, column_reported}
use Rattle.link_sink.specs.Grammar.{Grammar, link_grammar}
use Rattle.link_sink.specs.Sinks.{Fed, IsReportedOf}
use Rattle.dvi_hearing.specs.DviGrammar.{dvi_grammar}
use Rattle.c_room.specs.declared.kind.Kind.{Kind}
use Rattle.c_room.specs.declared.kind.Kind.TheVariants.{Link, Dvi, Track, Relock}
use Rattle.c_room.specs.declared.record.Record.{Record}

abbrev pub column_of : Record → ℕ
column_of r = r.column

-- of all that was reported of these bits before, and of these records after it, no column is below one before it
abbrev pub FollowInOrder : Grammar → Fed → List Record → Type 0
FollowInOrder g fed records =
    (before : List EventAt) → IsReportedOf g.so_far_at fed before → IsNonDecreasing (map column_reported before ++ map column_of records)

-- the same by the grammar of a kind; of lanes that may lose bits the columns of each epoch are counted anew
abbrev pub FollowInOrderOf : Kind → Fed → List Record → Type 0
FollowInOrderOf Link fed records = FollowInOrder link_grammar fed records
FollowInOrderOf Dvi fed records = FollowInOrder dvi_grammar fed records
FollowInOrderOf Track fed records = Unit {0}
FollowInOrderOf Relock fed records = Unit {0}
