-- That the premises of the clauses on what `relay` makes of a clean capture, and of what it wrote itself, can be met.
use Rattle.std.specs.Prelude.{◌≡◌, ℕ, Bool, List, [], ◌∷◌, length}
use Rattle.lane_deskew.specs.Aligned.{aligned_columns}
use Rattle.island_pack.specs.Periods.{ControlRun, DataIsland, control, video, island}
use Rattle.period_grammar.specs.Events.{Event}
use Rattle.relay.specs.Relayed.{relayed}
use Rattle.hdmi_cli.specs.Exact.{IsAlignedCapture}
use Rattle.capture_commands.specs.Outcome.{RunOutcome, Relays}
use Rattle.hdmi_cli.specs.RelayClauses.{IsCleanToEnd}
use Rattle.capture_commands.specs.Relays.{IsRelayed}

-- a capture of which `check` says `clean`, with 79 aligned columns that end in a control period
pub record IsCleanCase (blue green red : List Bool) (d e f : ℕ) (bytes : List ℕ) : Type 0 where
  pub captured : IsAlignedCapture blue green red d e f bytes
  pub clean : IsCleanToEnd (aligned_columns blue green red d e f)
  pub size : length (aligned_columns blue green red d e f) ≡ 79

abbrev pub HasCleanCapture : Type 0
HasCleanCapture = (blue green red : List Bool) × (d e f : ℕ) × (bytes : List ℕ) × IsCleanCase blue green red d e f bytes

-- periods are a data island and a line with the control periods about them
pub record AreIslandAndLine (events : List Event) : Type 0 where
  pub first : List ControlRun
  pub x : DataIsland
  pub second : List ControlRun
  pub bytes : List ℕ
  pub last : List ControlRun
  pub are : relayed events ≡ control first ∷ (island x ∷ (control second ∷ (video bytes ∷ (control last ∷ []))))

-- a capture of these was relayed, and what is relayed of it is a capture too
pub record IsRelayedTwice (events : List Event) (text : List ℕ) (second : RunOutcome) : Type 0 where
  pub sent : AreIslandAndLine events
  pub relayed_is : IsRelayed events text
  pub does : Relays text second
  pub done : second.status ≡ 0

abbrev pub HasRelayedTwice : Type 0
HasRelayedTwice = (events : List Event) × (text : List ℕ) × (second : RunOutcome) × IsRelayedTwice events text second
