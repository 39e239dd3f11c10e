-- How a relay goes on by one event.
use Rattle.std.specs.Prelude.{◌≡◌, ℕ, Bool, ◌++◌, List, [], map, Option, Result, OnOk, IfErr}
use Rattle.source_end.specs.Gathering.{Has}
use Rattle.source_end.specs.Raster.{column}
use Rattle.relay.specs.declared.relaying.Relay.{Relay}
use Rattle.relay.specs.declared.relaying.RelayFault.{RelayFault}
use Rattle.relay.specs.Relayed.{Begun, Alternation}
use Rattle.relay.specs.Sizes.{size}
use Rattle.relay.specs.Standing.{settled_parts, IsAt, IsCause}

-- it keeps this after the event, or it refused the event, for its length exactly where it is too long
abbrev pub Steps : {A : Type 0} → Relay → Result A RelayFault → Alternation → Option Begun → Bool → Type 0
Steps now result t b good = OnOk result (IsAt now t b good) × IfErr result (λ fault. IsCause fault (size t))

-- the control period that went on is handed on with these values, and none goes on
pub record IsSettled (old now : Relay) (t : Alternation) (values : List ℕ) : Type 0 where
  pub whole : Has now.whole (settled_parts t.turns ++ map column values)
  pub period : now.period ≡ []
  pub period_columns : now.period_columns ≡ 0
  pub columns : now.columns ≡ size t
  pub faulty : now.faulty ≡ old.faulty
  pub island : now.island ≡ old.island
