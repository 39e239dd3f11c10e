-- What is reported of columns that are cut into stretches, for any rule on the columns that are no control columns.
-- Of the control periods the same is reported under each rule: their runs, and their words that are no control words.
use Rattle.std.specs.Prelude.{ℕ, ◌+◌, List, [], ◌∷◌, ◌++◌, map, length}
use Rattle.tmds_word.specs.Column.{Column}
use Rattle.period_grammar.specs.Events.{Event, EventAt, all_at, event_of}
use Rattle.period_grammar.specs.Cut.{Stretch, stretch, stretches, runs}
use Rattle.period_grammar.specs.Heard.{in_runs, last_run, reach, in_gap, at_close, at_end}

-- b is the first column that is no control column; the control columns before it are next, and then the others
pub record Gaps : Type 0 where
  -- reported while they go on, but for the last run before them
  pub going : ℕ → List Column → List Column → List EventAt
  -- reported at the first control column after them
  pub closing : ℕ → List Column → List Column → List Event
  -- reported at the end
  pub ending : ℕ → List Column → List Column → List Event

-- what is reported of a stretch from column j on while it goes on
abbrev pub going_by : Gaps → ℕ → Stretch → List EventAt
going_by g j (stretch control []) = in_runs j (runs control)
going_by g j (stretch control (x ∷ gap)) =
    let b = j + length control in
    in_runs j (runs control) ++ (all_at b (last_run (runs control)) ++ g.going b control (x ∷ gap))

-- what is reported of it at the first column after it
abbrev pub closing_by : Gaps → ℕ → Stretch → List EventAt
closing_by g j (stretch control gap) = all_at (j + reach (stretch control gap)) (g.closing (j + length control) control gap)

-- stretches from column j on, the last of which goes on
abbrev pub reported_by : Gaps → ℕ → List Stretch → List EventAt
reported_by g j [] = []
reported_by g j (x ∷ []) = going_by g j x
reported_by g j (x ∷ (y ∷ ys)) = going_by g j x ++ (closing_by g j x ++ reported_by g (j + reach x) (y ∷ ys))

-- what is reported at the end of the last one
abbrev pub ending_by : Gaps → ℕ → Stretch → List Event
ending_by g j (stretch control []) = last_run (runs control)
ending_by g j (stretch control (x ∷ gap)) = g.ending (j + length control) control (x ∷ gap)

abbrev pub end_by : Gaps → ℕ → List Stretch → List Event
end_by g j [] = []
end_by g j (x ∷ []) = ending_by g j x
end_by g j (x ∷ (y ∷ ys)) = end_by g (j + reach x) (y ∷ ys)

unfoldable pub so_far_by : Gaps → List Column → List EventAt
so_far_by g cs = reported_by g 0 (stretches cs)

unfoldable pub heard_by : Gaps → List Column → List Event
heard_by g cs = map event_of (so_far_by g cs) ++ end_by g 0 (stretches cs)

-- a link, with guard columns
abbrev pub link_gaps : Gaps
link_gaps = record { going = in_gap; closing = λ b control gap. at_close b gap; ending = λ b control gap. at_end b gap }
