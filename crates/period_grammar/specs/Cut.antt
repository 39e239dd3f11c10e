-- How columns are cut: into stretches, each a control period with the columns after it up to the next control column
-- (HDMI 1.4, section 5.1.2: control periods stand between video periods and data islands), and the columns of a control
-- period into longest runs of one value. Every control column belongs to a control period, so both parts are longest.
use Rattle.std.specs.Prelude.{ℕ, Bool, true, false, ◌==◌, List, [], ◌∷◌}
use Rattle.tmds_word.specs.Column.{Column}
use Rattle.terc4.specs.Columns.{is_control_column}
use Rattle.period_grammar.specs.Column.{value_of}

-- the columns of a control period, and the columns after it, none of which is a control column
pub data Stretch : Type 0 where
  stretch : List Column → List Column → Stretch

-- a column in front of stretches; the test says whether it is a control column
abbrev pub before : Bool → Column → List Stretch → List Stretch
before true c [] = stretch (c ∷ []) [] ∷ []
before true c (stretch control gap ∷ xs) = stretch (c ∷ control) gap ∷ xs
before false c [] = stretch [] (c ∷ []) ∷ []
before false c (stretch [] gap ∷ xs) = stretch [] (c ∷ gap) ∷ xs
before false c (stretch (k ∷ control) gap ∷ xs) = stretch [] (c ∷ []) ∷ (stretch (k ∷ control) gap ∷ xs)

-- the stretches of columns; only the first may have no control column, only the last nothing after it
unfoldable pub stretches : List Column → List Stretch
stretches [] = []
stretches (c ∷ cs) = before (is_control_column c) c (stretches cs)

-- columns of one value
pub data Run : Type 0 where
  columns : ℕ → List Column → Run

abbrev pub in_front : Bool → Column → Run → List Run → List Run
in_front true c (columns v cs) rs = columns v (c ∷ cs) ∷ rs
in_front false c r rs = columns (value_of c) (c ∷ []) ∷ (r ∷ rs)

abbrev pub value : Run → ℕ
value (columns v cs) = v

abbrev pub before_runs : Column → List Run → List Run
before_runs c [] = columns (value_of c) (c ∷ []) ∷ []
before_runs c (r ∷ rs) = in_front (value_of c == value r) c r rs

-- the longest runs of one value
unfoldable pub runs : List Column → List Run
runs [] = []
runs (c ∷ cs) = before_runs c (runs cs)
