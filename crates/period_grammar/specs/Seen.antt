-- What contracts see of a hearing.
use Rattle.std.specs.Prelude.{◌≡◌, ◌≤◌, ◌+◌, ◌*◌, ℕ, Bool, List, length}
use Rattle.tmds_word.specs.declared.TheConstants.{MOST_COLUMNS}
use Rattle.period_grammar.specs.IslandAfter.{IsBlocked}
use Rattle.period_grammar.specs.declared.island.Island.{Island}
use Rattle.period_grammar.specs.LineSeen.{LineSeen}
use Rattle.period_grammar.specs.ControlAfter.{IsCounted}
use Rattle.period_grammar.specs.declared.control.ControlState.{ControlState}
use Rattle.period_grammar.specs.declared.phase.Phase.{Phase}
use Rattle.period_grammar.specs.declared.phase.Phase.TheVariants.{Control, First, Video, Island as InIsland, Noise}
use Rattle.period_grammar.specs.declared.event_queue.QueuedEvent.{QueuedEvent}

pub record Seen : Type 0 where
  pub columns : ℕ
  pub phase : Phase
  pub control : ControlState
  pub line : LineSeen
  pub island : Island
  pub notes : List QueuedEvent
  pub finished : Bool

-- where a piece began
abbrev pub IsPlaced : Phase → ℕ → Island → ℕ → Type 0
IsPlaced Control count kept n = Unit {0}
IsPlaced (First start video island digit) count kept n = start + 1 ≡ n
IsPlaced (Video start) count kept n = (start + 2) + count ≡ n
IsPlaced (InIsland start) count kept n = (start + 2) + (32 * kept.packets + kept.within) ≤ n
IsPlaced Noise count kept n = Unit {0}

pub record IsSound (columns : ℕ) (phase : Phase) (control : ControlState) (line : LineSeen) (island : Island) (notes : List QueuedEvent) : Type 0 where
  pub counted : IsCounted control
  pub few : control.columns ≤ columns
  pub blocked : IsBlocked island
  pub placed : IsPlaced phase line.count island columns
  pub reported : length notes ≤ 8
  pub short : columns ≤ MOST_COLUMNS
