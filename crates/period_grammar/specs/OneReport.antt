-- What is reported of a column, and at the end, is one list of events.
use Rattle.std.specs.Prelude.{◌≡◌, List, [], ◌∷◌, ◌++◌, length, map}
use Rattle.tmds_word.specs.Column.{Column}
use Rattle.period_grammar.specs.Events.{Event, all_at, event_of}
use Rattle.period_grammar.specs.Heard.{heard_so_far, heard}

-- at one column more: two lists that a hearing may report of it are equal
abbrev pub OneReport : Type 0
OneReport =
    (cs : List Column) (c : Column) (xs ys : List Event)
    → heard_so_far (cs ++ c ∷ []) ≡ heard_so_far cs ++ all_at (length cs) xs
    → heard_so_far (cs ++ c ∷ []) ≡ heard_so_far cs ++ all_at (length cs) ys
    → xs ≡ ys

-- and at the end
abbrev pub OneEnd : Type 0
OneEnd =
    (cs : List Column) (xs ys : List Event)
    → heard cs ≡ map event_of (heard_so_far cs) ++ xs → heard cs ≡ map event_of (heard_so_far cs) ++ ys
    → xs ≡ ys
