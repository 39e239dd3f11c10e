-- What a check that reports no fault says of columns.
use Rattle.std.specs.Prelude.{◌↔◌, List}
use Rattle.tmds_word.specs.Column.{Column}
use Rattle.period_grammar.specs.Exact.{IsClean, IsFront, whole_part}

-- where no fault is reported, some conforming sender could have sent the columns before the cut
abbrev pub CleanIsFront : Type 0
CleanIsFront = (cs : List Column) → IsClean cs → IsFront (whole_part cs)

-- of the columns of a conforming sender no fault is reported, wherever they end
abbrev pub FrontIsClean : Type 0
FrontIsClean = (cs : List Column) → IsFront cs → IsClean cs

-- no fault is reported exactly where some conforming sender could have sent the columns before the cut. Columns may be
-- none, or begin with few control columns or with none
abbrev pub CheckIsExact : Type 0
CheckIsExact = (cs : List Column) → IsClean cs ↔ IsFront (whole_part cs)
