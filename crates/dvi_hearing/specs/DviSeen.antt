-- What contracts see of a hearing of a stream without guard columns.
use Rattle.std.specs.Prelude.{◌≡◌, ◌≤◌, ◌+◌, ℕ, Bool, List, length}
use Rattle.tmds_word.specs.declared.TheConstants.{MOST_COLUMNS}
use Rattle.period_grammar.specs.LineSeen.{LineSeen}
use Rattle.period_grammar.specs.ControlAfter.{IsCounted}
use Rattle.period_grammar.specs.Noted.{events, lent}
use Rattle.period_grammar.specs.Events.{Event}
use Rattle.period_grammar.specs.declared.control.ControlState.{ControlState}
use Rattle.period_grammar.specs.declared.island.WholePacket.{WholePacket}
use Rattle.period_grammar.specs.declared.event_queue.QueuedEvent.{QueuedEvent}
use Rattle.dvi_hearing.specs.declared.phase.DviPhase.{DviPhase}
use Rattle.dvi_hearing.specs.declared.phase.DviPhase.TheVariants.{Control, Pixels}

pub record DviSeen : Type 0 where
  pub columns : ℕ
  pub phase : DviPhase
  pub control : ControlState
  pub line : LineSeen
  pub notes : List QueuedEvent
  pub unused : WholePacket
  pub finished : Bool

-- where a line began
abbrev pub IsPlaced : DviPhase → ℕ → ℕ → Type 0
IsPlaced Control count n = Unit {0}
IsPlaced (Pixels start) count n = start + count ≡ n

pub record IsSound (columns : ℕ) (phase : DviPhase) (control : ControlState) (line : LineSeen) (notes : List QueuedEvent) : Type 0 where
  pub counted : IsCounted control
  pub few : control.columns ≤ columns
  pub placed : IsPlaced phase line.count columns
  pub reported : length notes ≤ 8
  pub short : columns ≤ MOST_COLUMNS

-- what the last call reported
abbrev pub last_reported : DviSeen → List Event
last_reported hearing = events (lent hearing.line.bytes hearing.unused) hearing.notes
