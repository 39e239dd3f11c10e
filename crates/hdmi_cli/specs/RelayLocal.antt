-- What `relay` writes of a capture of which anything may have been received after the alignment: each line and each island that was
-- received with few words damaged, after twelve control columns and before one, is sent on.
use Rattle.std.specs.Prelude.{◌≡◌, ◌⊎◌, ◌+◌, ◌<◌, ◌≤◌, ℕ, true, List, ◌∷◌, ◌++◌, length, take, drop, Option}
use Rattle.std.specs.Io.KnownBytes.{Appends, Keeps}
use Rattle.tmds_word.specs.Column.{Column}
use Rattle.capture_file.specs.Taps.{tapped_capture}
use Rattle.island_pack.specs.Conforming.{is_video_period, is_data_island}
use Rattle.island_pack.specs.Periods.{DataIsland, Period, video, island, period_columns, columns_of}
use Rattle.island_pack.specs.Spelling.{Spells}
use Rattle.island_pack.specs.declared.ranges.TheConstants.{COLUMN_LIMIT}
use Rattle.period_grammar.specs.Events.{Event}
use Rattle.period_grammar.specs.Exact.{faultless}
use Rattle.period_grammar.specs.Heard.{heard}
use Rattle.link_laws.specs.Laws.{EndsControl, BeginColumn}
use Rattle.link_laws.specs.Local.{part_at, StandsAlone}
use Rattle.relay.specs.Relayed.{relayed}
use Rattle.relay.specs.Local.{IsRelayedAfter, line_sent, island_sent}
use Rattle.hdmi_cli.specs.Headline.{TappedStream, aligned_of, IsFirstOf}
use Rattle.hdmi_cli.specs.Local.{reported_to}
use Rattle.capture_commands.specs.Relays.{relay_status, whole_tap}

-- the output grew by the capture of what is relayed of events, which has 20,000,000 columns or fewer, and the status says whether a
-- fault was reported
pub record IsSentOnOf (events : List Event) (status : ℕ) (old new : Option (List ℕ)) : Type 0 where
  pub few : columns_of (relayed events) ≤ COLUMN_LIMIT
  pub columns : List Column
  pub spelled : Spells (relayed events) columns
  pub status_is : status ≡ relay_status (faultless events)
  pub written : Appends old new (tapped_capture columns whole_tap)

-- or it has more, and nothing is written
pub record IsTooLongOf (events : List Event) (status : ℕ) (old new : Option (List ℕ)) : Type 0 where
  pub passes : COLUMN_LIMIT < columns_of (relayed events)
  pub status_is : status ≡ 3
  pub unwritten : Keeps old new

-- of the columns that are aligned at three edges, which are received columns from column a on, what is heard is sent on; what is
-- relayed of it is, of each line and each island that stands alone, what is relayed of the columns before its second one, with its
-- preamble, then the line or the island, and more
pub record IsRelayedFrom (t : TappedStream) (d e f a status : ℕ) (old new : Option (List ℕ)) : Type 0 where
  pub ends : EndsControl t.periods (a + 11)
  pub begins : BeginColumn t.offset t.skews (a + 12) d e f
  pub columns : aligned_of t d e f ≡ take (length (aligned_of t d e f)) (drop a t.received)
  pub sent : IsSentOnOf (heard (aligned_of t d e f)) status old new ⊎ IsTooLongOf (heard (aligned_of t d e f)) status old new
  pub lines :
      (front : List Period) (bytes : List ℕ) (back : List Period) → t.periods ≡ front ++ (video bytes ∷ back) → is_video_period bytes ≡ true
      → let j = columns_of front in
      StandsAlone t.received (video bytes) t.sent j → a + 12 ≤ j → j + period_columns (video bytes) < a + length (aligned_of t d e f)
      → IsRelayedAfter (reported_to a j (aligned_of t d e f)) (heard (aligned_of t d e f)) (line_sent bytes (part_at j (video bytes) t.sent) (part_at j (video bytes) t.received))
  pub islands :
      (front : List Period) (x : DataIsland) (back : List Period) → t.periods ≡ front ++ (island x ∷ back) → is_data_island x ≡ true
      → let j = columns_of front in
      StandsAlone t.received (island x) t.sent j → a + 12 ≤ j → j + period_columns (island x) < a + length (aligned_of t d e f)
      → IsRelayedAfter (reported_to a j (aligned_of t d e f)) (heard (aligned_of t d e f)) (island_sent x (part_at j (island x) t.sent) (part_at j (island x) t.received))

-- from the first full alignment on, which is at or before a column
abbrev pub IsRelayedBy : TappedStream → ℕ → ℕ → Option (List ℕ) → Option (List ℕ) → Type 0
IsRelayedBy t until status old new = (d e f : ℕ) × IsFirstOf t d e f × ((a : ℕ) × (a + 12 ≤ until) × IsRelayedFrom t d e f a status old new)
