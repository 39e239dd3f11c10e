-- The columns that a hearing has heard, though it keeps a few numbers.
use Rattle.std.specs.Prelude.{◌≡◌, ℕ, ◌+◌, List, [], ◌∷◌, length}
use Rattle.tmds_word.specs.Column.{Column}
use Rattle.terc4.specs.Columns.{video_words, island_words}
use Rattle.period_grammar.specs.Column.{sync_digit}
use Rattle.period_grammar.specs.Cut.{Stretch, stretch, stretches, runs}
use Rattle.period_grammar.specs.Heard.{opened, video, island, neither, at_close}
use Rattle.period_grammar.specs.Events.{Event}
use Rattle.period_grammar.specs.After.{last, change}
use Rattle.period_grammar.specs.LineSeen.{LineSeen}
use Rattle.period_grammar.specs.Lines.{IsLineAfter}
use Rattle.period_grammar.specs.ControlAfter.{IsControlAfter}
use Rattle.period_grammar.specs.declared.control.ControlState.{ControlState}
use Rattle.period_grammar.specs.declared.phase.Phase.{Phase}
use Rattle.period_grammar.specs.declared.phase.Phase.TheVariants.{Control, First, Video, Island as InIsland, Noise}
use Rattle.period_grammar.specs.IslandAfter.{IsIslandAfter}
use Rattle.period_grammar.specs.declared.island.Island.{Island}
use Rattle.period_grammar.specs.Seen.{Seen}

-- the columns after the last control columns
abbrev pub IsPhaseAfter : Phase → LineSeen → Island → ℕ → List Column → Type 0
IsPhaseAfter Control line kept n [] = Unit {0}
IsPhaseAfter (First start v i digit) line kept n (g ∷ []) = (start + 1 ≡ n) × (v ≡ video_words g) × (i ≡ island_words g) × (digit ≡ sync_digit g.blue)
IsPhaseAfter (Video start) line kept n (g ∷ (h ∷ rest)) = (opened g h ≡ video) × ((start + 2) + length rest ≡ n) × IsLineAfter line rest
IsPhaseAfter (InIsland start) line kept n (g ∷ (h ∷ rest)) = (opened g h ≡ island) × ((start + 2) + length rest ≡ n) × IsIslandAfter kept rest
IsPhaseAfter Noise line kept n (g ∷ (h ∷ rest)) = opened g h ≡ neither
IsPhaseAfter _ line kept n _ = ⊥

-- the last stretch
abbrev pub IsStretchAfter : Phase → ControlState → LineSeen → Island → ℕ → Stretch → Type 0
IsStretchAfter phase kept line isle n (stretch control gap) = IsControlAfter kept control × IsPhaseAfter phase line isle n gap

-- a hearing stands for the columns that it has heard
pub record HearingRepresents (hearing : Seen) (cs : List Column) : Type 0 where
  pub columns : hearing.columns ≡ length cs
  pub stretch : IsStretchAfter hearing.phase hearing.control hearing.line hearing.island hearing.columns (last (stretches cs))

-- what is reported at a control column before its own words, and the control columns that go on
abbrev pub closed : ℕ → ℕ → Stretch → List Event
closed v b (stretch control []) = change v (runs control)
closed v b (stretch control (g ∷ gap)) = at_close b (g ∷ gap)

abbrev pub going_on : Stretch → List Column
going_on (stretch control []) = control
going_on (stretch control (g ∷ gap)) = []
