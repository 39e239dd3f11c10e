-- What `relay` writes of a tapped stream, of a clean capture, and of what it wrote itself, and where it passes the limit.
use Rattle.std.specs.Prelude.{◌≡◌, ◌⊎◌, ◌<◌, ◌≤◌, ℕ, ◌+◌, ◌-◌, true, List, [], ◌∷◌, length, Option}
use Rattle.std.specs.Io.KnownBytes.{Appends, Keeps}
use Rattle.tmds_word.specs.Column.{Column}
use Rattle.capture_file.specs.Taps.{tapped_capture}
use Rattle.island_pack.specs.Conforming.{IsConforming}
use Rattle.island_pack.specs.Periods.{ControlRun, Period, control, values_of, columns_of}
use Rattle.island_pack.specs.Spelling.{SpellsBy, Spells, freely}
use Rattle.island_pack.specs.declared.ranges.TheConstants.{COLUMN_LIMIT}
use Rattle.link_laws.specs.Laws.{IsAccounted, BeginColumn}
use Rattle.period_grammar.specs.Exact.{IsFront, whole_part}
use Rattle.period_grammar.specs.Cut.{stretches}
use Rattle.period_grammar.specs.Events.{Event}
use Rattle.link_laws.specs.Whole.{ends_long}
use Rattle.relay.specs.Received.{reception}
use Rattle.relay.specs.Own.{cut_first}
use Rattle.relay.specs.Relayed.{conformed, relayed}
use Rattle.hdmi_cli.specs.Headline.{TappedStream, IsSentOn, aligned_of}
use Rattle.capture_commands.specs.Relays.{IsRelayed, whole_tap}

-- A tapped stream.

-- what is sent on of a tapped stream, from column a of what was received on
abbrev pub sent_on : TappedStream → ℕ → ℕ → ℕ → ℕ → List Period
sent_on t d e f a = conformed (reception t.periods t.sent t.received a (length (aligned_of t d e f)))

-- it has more than 20,000,000 columns, and nothing is written
pub record IsTooLong (t : TappedStream) (d e f a status : ℕ) (old new : Option (List ℕ)) : Type 0 where
  pub accounted : IsAccounted t.periods t.sent t.received (aligned_of t d e f) a
  pub begins : BeginColumn t.offset t.skews (a + 12) d e f
  pub passes : COLUMN_LIMIT < columns_of (sent_on t d e f a)
  pub status_is : status ≡ 3
  pub unwritten : Keeps old new

-- it is sent on, where it has 20,000,000 columns or fewer
abbrev pub IsSentWithin : TappedStream → ℕ → ℕ → ℕ → ℕ → ℕ → Option (List ℕ) → Option (List ℕ) → Type 0
IsSentWithin t d e f a status old new =
    ((columns_of (sent_on t d e f a) ≤ COLUMN_LIMIT) × IsSentOn t d e f a status old new) ⊎ IsTooLong t d e f a status old new

-- A clean capture.

-- columns of which `check` says `clean`, and that end in a control period of at least twelve columns
pub record IsCleanToEnd (cs : List Column) : Type 0 where
  pub clean : IsFront (whole_part cs)
  pub ends : ends_long (stretches cs) ≡ true

-- conforming periods are spelled by columns as a source spells them, and by others with bit 3 of lane 0 in packet columns free
pub record AreAsSent (cs columns : List Column) : Type 0 where
  pub periods : List Period
  pub conforming : IsConforming periods
  pub reception : SpellsBy freely periods cs
  pub spelled : Spells periods columns

-- as many columns of the same periods are written, where they are 20,000,000 or fewer
abbrev pub IsPassedOn : List Column → ℕ → Option (List ℕ) → Option (List ℕ) → Type 0
IsPassedOn cs status old new =
    ((length cs ≤ COLUMN_LIMIT) × (status ≡ 0) × ((columns : List Column) × AreAsSent cs columns × Appends old new (tapped_capture columns whole_tap)))
    ⊎ ((COLUMN_LIMIT < length cs) × (status ≡ 3) × Keeps old new)

-- What was relayed.

-- how many columns the first control period has past twelve
abbrev pub past_twelve : List ControlRun → ℕ
past_twelve runs = length (values_of runs) - 12

-- what was relayed has an edge, and is preserved with its first control period cut to its last twelve columns: some
-- things are relayed as that, and the capture of it is written
pub record ComesBack (runs : List ControlRun) (ps : List Period) (status : ℕ) (old new : Option (List ℕ)) : Type 0 where
  pub status_is : status ≡ 0
  pub events : List Event
  pub same : relayed events ≡ cut_first (past_twelve runs) (control runs ∷ ps)
  pub output : List ℕ
  pub relayed_is : IsRelayed events output
  pub written : Appends old new output

-- one control period alone has no edge
abbrev pub IsRelayedAgain : List Period → ℕ → Option (List ℕ) → Option (List ℕ) → Type 0
IsRelayedAgain (control runs ∷ []) status old new = (status ≡ 7) × Keeps old new
IsRelayedAgain (control runs ∷ (p ∷ ps)) status old new = ComesBack runs (p ∷ ps) status old new
IsRelayedAgain _ status old new = ⊥
