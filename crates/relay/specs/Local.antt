-- Locality of what is relayed: a line or an island that stands alone is sent on, whatever was reported before and after it.
use Rattle.std.specs.Prelude.{◌≡◌, ℕ, true, List, [], ◌∷◌, ◌++◌, map, length, drop}
use Rattle.tmds_word.specs.Column.{Column}
use Rattle.island_pack.specs.Conforming.{is_video_period, is_data_island}
use Rattle.island_pack.specs.Periods.{DataIsland, Period, control, video, island, pixels_of, period_columns}
use Rattle.island_pack.specs.Runs.{longest}
use Rattle.period_grammar.specs.Events.{Event, event_of}
use Rattle.link_laws.specs.Account.{pixel_bytes}
use Rattle.link_laws.specs.Literal.{period_placed}
use Rattle.relay.specs.Relayed.{WholeIsland, data_of, sure, Data, a_line, an_island, announcing, preamble_of, period_of, relayed}
use Rattle.relay.specs.Received.{island_received}

-- what is relayed of all that is reported is what is relayed of the first of it, with a preamble in its last control columns, and
-- then a line or an island, and more
pub record IsRelayedAfter (first all : List Event) (data_is : Data) : Type 0 where
  pub front : List Period
  pub values : List ℕ
  pub before : relayed first ≡ front ++ (control (longest values) ∷ [])
  pub more : List Period
  pub whole : relayed all ≡ front ++ (control (longest (announcing (preamble_of data_is) values)) ∷ (period_of data_is ∷ more))

-- the line that is sent on of a line's columns: each byte as sent where its word was received as sent, else the one that the
-- received word has
abbrev pub line_sent : List ℕ → List Column → List Column → Data
line_sent bytes sent received = a_line (pixel_bytes (pixels_of bytes) (drop 2 sent) (drop 2 received))

-- the island that is sent on of an island's columns: its packets as sent, or as they are taken where more words were received
-- unlike, with the Null packet for each that has a lost block
abbrev pub with_nulls_in : WholeIsland → WholeIsland
with_nulls_in x = record { opening = x.opening; packets = map sure x.packets; closing = x.closing }

abbrev pub island_sent : DataIsland → List Column → List Column → Data
island_sent x sent received = an_island (data_of (with_nulls_in (island_received x sent received)))

-- wherever the row of a line is reported, the line is sent on
abbrev pub LineRelayed : Type 0
LineRelayed =
    (bytes : List ℕ) (sent received : List Column) → is_video_period bytes ≡ true
    → length sent ≡ period_columns (video bytes) → length received ≡ period_columns (video bytes)
    → (b : ℕ) (before : List Column) (first later : List Event)
    → IsRelayedAfter first (first ++ (map event_of (period_placed b before (video bytes) sent received) ++ later)) (line_sent bytes sent received)

-- so is an island
abbrev pub IslandRelayed : Type 0
IslandRelayed =
    (x : DataIsland) (sent received : List Column) → is_data_island x ≡ true
    → length sent ≡ period_columns (island x) → length received ≡ period_columns (island x)
    → (b : ℕ) (before : List Column) (first later : List Event)
    → IsRelayedAfter first (first ++ (map event_of (period_placed b before (island x) sent received) ++ later)) (island_sent x sent received)
