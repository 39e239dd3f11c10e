-- The columns that a hearing has heard, though it keeps a few numbers and the pixels of one line.
use Rattle.std.specs.Prelude.{◌≡◌, ℕ, ◌+◌, false, List, [], ◌∷◌, length}
use Rattle.tmds_word.specs.Column.{Column}
use Rattle.period_grammar.specs.Cut.{Stretch, stretch, stretches, runs}
use Rattle.period_grammar.specs.Events.{Event}
use Rattle.period_grammar.specs.After.{last, change}
use Rattle.period_grammar.specs.LineSeen.{LineSeen}
use Rattle.period_grammar.specs.Lines.{IsLineAfter}
use Rattle.period_grammar.specs.ControlAfter.{IsControlAfter}
use Rattle.period_grammar.specs.declared.control.ControlState.{ControlState}
use Rattle.dvi_hearing.specs.DviHeard.{dvi_closing}
use Rattle.dvi_hearing.specs.DviSeen.{DviSeen}
use Rattle.dvi_hearing.specs.declared.phase.DviPhase.{DviPhase}
use Rattle.dvi_hearing.specs.declared.phase.DviPhase.TheVariants.{Control, Pixels}

-- the columns after the last control columns
abbrev pub IsPhaseAfter : DviPhase → LineSeen → ℕ → List Column → Type 0
IsPhaseAfter Control line n [] = Unit {0}
IsPhaseAfter (Pixels start) line n (g ∷ gap) = (start + length (g ∷ gap) ≡ n) × IsLineAfter line (g ∷ gap)
IsPhaseAfter _ line n _ = ⊥

-- the last stretch
abbrev pub IsStretchAfter : DviPhase → ControlState → LineSeen → ℕ → Stretch → Type 0
IsStretchAfter phase kept line n (stretch control gap) = IsControlAfter kept control × IsPhaseAfter phase line n gap

-- a hearing stands for the columns that it has heard
pub record DviHearingRepresents (hearing : DviSeen) (cs : List Column) : Type 0 where
  pub columns : hearing.columns ≡ length cs
  pub stretch : IsStretchAfter hearing.phase hearing.control hearing.line hearing.columns (last (stretches cs))

-- it has heard these columns, and goes on
pub record GoesOn (hearing : DviSeen) (cs : List Column) : Type 0 where
  pub heard : DviHearingRepresents hearing cs
  pub open_still : hearing.finished ≡ false

-- what is reported at a control column before its own words
abbrev pub closed : ℕ → ℕ → Stretch → List Event
closed v b (stretch control []) = change v (runs control)
closed v b (stretch control (g ∷ gap)) = dvi_closing b control (g ∷ gap)

pub dvi_counts : (hearing : DviSeen) (cs : List Column) → GoesOn hearing cs → hearing.columns ≡ length cs
dvi_counts hearing cs h = h.heard.columns
