-- What a hearing of columns without guard columns answers is decided by the columns that it heard: two answers that meet its contract
-- are equal.
use Rattle.std.specs.Prelude.{◌≡◌, List, [], ◌∷◌, ◌++◌, length, map}
use Rattle.tmds_word.specs.Column.{Column}
use Rattle.period_grammar.specs.Events.{Event, all_at, event_of}
use Rattle.dvi_hearing.specs.DviHeard.{dvi_so_far, dvi_heard}

-- what is reported at a column
abbrev pub OneReport : Type 0
OneReport =
    (cs : List Column) (c : Column) (us vs : List Event) → dvi_so_far (cs ++ c ∷ []) ≡ dvi_so_far cs ++ all_at (length cs) us
    → dvi_so_far (cs ++ c ∷ []) ≡ dvi_so_far cs ++ all_at (length cs) vs → us ≡ vs

-- what is reported at the end
abbrev pub OneEnd : Type 0
OneEnd =
    (cs : List Column) (us vs : List Event) → dvi_heard cs ≡ map event_of (dvi_so_far cs) ++ us → dvi_heard cs ≡ map event_of (dvi_so_far cs) ++ vs → us ≡ vs
