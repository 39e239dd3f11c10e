-- What is reported at one column more, by the last stretch of those before it, under any rule on the columns that are
-- no control columns, and what is reported at the end.
use Rattle.std.specs.Prelude.{◌≡◌, ℕ, ◌+◌, Bool, true, false, List, [], ◌∷◌, ◌++◌, length, map}
use Rattle.tmds_word.specs.Column.{Column}
use Rattle.terc4.specs.Columns.{is_control_column}
use Rattle.period_grammar.specs.Column.{value_of}
use Rattle.period_grammar.specs.Events.{Event, all_at, event_of}
use Rattle.period_grammar.specs.Cut.{Stretch, stretch, stretches, runs}
use Rattle.period_grammar.specs.Heard.{other_words, last_run, heard_so_far, heard}
use Rattle.period_grammar.specs.After.{last, gap_of, change}
use Rattle.period_grammar.specs.Gaps.{Gaps, link_gaps, so_far_by, heard_by}

-- what is reported at a column after others that are no control columns, which begin at b: b, its place, it, control,
-- the others
abbrev pub Gain : Type 0
Gain = ℕ → ℕ → Column → List Column → List Column → List Event

-- the rule's own law of one column more: all that is asked of a rule
pub record GrowsBy (g : Gaps) (gain : Gain) : Type 0 where
  pub one : (b : ℕ) (control : List Column) (c : Column) → g.going b control (c ∷ []) ≡ []
  pub more : (b n : ℕ) (control : List Column) (x : Column) (gap : List Column) (c : Column) → n ≡ b + length (x ∷ gap)
      → g.going b control ((x ∷ gap) ++ c ∷ []) ≡ g.going b control (x ∷ gap) ++ all_at n (gain b n c control (x ∷ gap))

abbrev pub gains_by : Gaps → Gain → Bool → ℕ → ℕ → Column → Stretch → List Event
gains_by g gain true b n c (stretch control []) = change (value_of c) (runs control) ++ other_words n c
gains_by g gain true b n c (stretch control (x ∷ gap)) = g.closing b control (x ∷ gap) ++ other_words n c
gains_by g gain false b n c (stretch control []) = last_run (runs control)
gains_by g gain false b n c (stretch control (x ∷ gap)) = gain b n c control (x ∷ gap)

-- what is reported at the end of the last stretch
abbrev pub ends_by : Gaps → ℕ → Stretch → List Event
ends_by g b (stretch control []) = last_run (runs control)
ends_by g b (stretch control (x ∷ gap)) = g.ending b control (x ∷ gap)

-- the last stretch, where its other columns begin and how many columns were received determine each column's events: for
-- every rule
abbrev pub PushLaw : Type 0
PushLaw =
    (g : Gaps) (gain : Gain) → GrowsBy g gain
    → (cs : List Column) (c : Column) (b : ℕ) → b + length (gap_of (last (stretches cs))) ≡ length cs
    → so_far_by g (cs ++ c ∷ []) ≡ so_far_by g cs ++ all_at (length cs) (gains_by g gain (is_control_column c) b (length cs) c (last (stretches cs)))

abbrev pub EndLaw : Type 0
EndLaw =
    (g : Gaps) (cs : List Column) (b : ℕ) → b + length (gap_of (last (stretches cs))) ≡ length cs
    → heard_by g cs ≡ map event_of (so_far_by g cs) ++ ends_by g b (last (stretches cs))

-- what is heard of a link is reported by its rule
abbrev pub LinkIsOne : Type 0
LinkIsOne = (cs : List Column) → (so_far_by link_gaps cs ≡ heard_so_far cs) × (heard_by link_gaps cs ≡ heard cs)
