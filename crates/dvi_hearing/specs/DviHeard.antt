-- What is reported of columns without guard columns (DVI 1.0): control periods as in a link's columns, and video
-- periods that begin with their first pixel.
use Rattle.std.specs.Prelude.{ℕ, List, [], ◌∷◌, ◌++◌, length, nat_le}
use Rattle.tmds_word.specs.Column.{Column}
use Rattle.period_grammar.specs.Events.{Event, EventAt, short, cut}
use Rattle.period_grammar.specs.Heard.{line_at, if_not}
use Rattle.period_grammar.specs.Gaps.{Gaps, so_far_by, heard_by}

-- the pixels of a video period from column b on, after so many control columns
unfoldable pub dvi_line : ℕ → ℕ → List Column → List Event
dvi_line b n pixels =
    if_not (nat_le 12 n) (short b) ++ line_at b b pixels

unfoldable pub dvi_closing : ℕ → List Column → List Column → List Event
dvi_closing b control [] = []
dvi_closing b control (c ∷ cs) = dvi_line b (length control) (c ∷ cs)

abbrev pub dvi_ending : ℕ → List Column → List Column → List Event
dvi_ending b control gap = cut b ∷ []

abbrev pub dvi_gaps : Gaps
dvi_gaps = record { going = λ b control gap. []; closing = dvi_closing; ending = dvi_ending }

-- what is reported of columns, and at which column each event
unfoldable pub dvi_so_far : List Column → List EventAt
dvi_so_far cs = so_far_by dvi_gaps cs

-- with what is reported at the end
unfoldable pub dvi_heard : List Column → List Event
dvi_heard cs = heard_by dvi_gaps cs
