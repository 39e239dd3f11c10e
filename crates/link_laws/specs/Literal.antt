-- The account said with no arithmetic on how many columns were received: each event that is reported of columns that
-- stand whole, with the column at which it is reported. Those reported at columns from m on are left out, and then
-- follows what is reported at the end.
use Rattle.std.specs.Prelude.{◌≡◌, ℕ, ◌+◌, ◌-◌, ◌≤◌, cond, List, [], ◌∷◌, ◌++◌, map, length, take, drop, nat_lt}
use Rattle.tmds_word.specs.Column.{Column}
use Rattle.island_pack.specs.Periods.{DataIsland, Period, control, video, island, Pixel, pixels_of, period_columns}
use Rattle.island_pack.specs.declared.packet.Packet.{Packet}
use Rattle.period_grammar.specs.Cut.{Run, columns, runs, stretches}
use Rattle.period_grammar.specs.Heard.{words, end_from}
use Rattle.period_grammar.specs.Events.{run, EventAt, at, all_at, event_of, reported_before}
use Rattle.link_laws.specs.Account.{open_video_row, video_row, open_island_row, packet_reported, close_island_row, account}
use Rattle.link_laws.specs.Laws.{ReceivedFreely, EndsControl}

-- for each run of one value from column j on, its words that are no control words, each at its column, and then the run,
-- at the first column that is not in it
unfoldable pub runs_placed : ℕ → List Run → List EventAt
runs_placed j [] = []
runs_placed j (columns v cs ∷ rs) = words j cs ++ (at (j + length cs) (run v (length cs)) ∷ runs_placed (j + length cs) rs)

-- what opens is reported at the second guard column, the line at the first column after the pixels
unfoldable pub video_placed : ℕ → List Column → List Pixel → List Column → List Column → List EventAt
video_placed b before pixels ss rs =
    all_at (b + 1) (open_video_row b before rs) ++ all_at (b + 2 + length pixels) (video_row b pixels (drop 2 ss) (drop 2 rs))

-- packets from column s on, each at its last column, and what closes, at the second guard column
unfoldable pub packets_placed : ℕ → List Packet → List Column → List Column → List EventAt
packets_placed s [] ss rs = all_at (s + 1) (close_island_row s rs)
packets_placed s (p ∷ ps) ss rs =
    all_at (s + 31) (packet_reported s p (take 32 ss) (take 32 rs)) ++ packets_placed (s + 32) ps (drop 32 ss) (drop 32 rs)

unfoldable pub island_placed : ℕ → List Column → DataIsland → List Column → List Column → List EventAt
island_placed b before x ss rs = all_at (b + 1) (open_island_row b before rs) ++ packets_placed (b + 2) x.packets (drop 2 ss) (drop 2 rs)

-- a period from column j on; `before` are the received columns of the period before
unfoldable pub period_placed : ℕ → List Column → Period → List Column → List Column → List EventAt
period_placed j before (control runs_sent) ss rs = runs_placed j (runs rs)
period_placed j before (video bytes) ss rs = video_placed j before (pixels_of bytes) ss rs
period_placed j before (island x) ss rs = island_placed j before x ss rs

unfoldable pub periods_placed : ℕ → List Column → List Period → List Column → List Column → List EventAt
periods_placed j before [] ss rs = []
periods_placed j before (p ∷ ps) ss rs =
    period_placed j before p (take (period_columns p) ss) (take (period_columns p) rs)
    ++ periods_placed (j + period_columns p) (take (period_columns p) rs) ps (drop (period_columns p) ss) (drop (period_columns p) rs)

-- the columns from column a of a control period on, counted from there
unfoldable pub placed_from : Period → ℕ → List Period → List Column → List Column → List EventAt
placed_from p a ps ss rs =
    let first = drop a (take (period_columns p) rs) in
    runs_placed 0 (runs first) ++ periods_placed (period_columns p - a) first ps (drop (period_columns p) ss) (drop (period_columns p) rs)

-- the columns from column a on, which lies in a control period
unfoldable pub account_placed : List Period → List Column → List Column → ℕ → List EventAt
account_placed [] ss rs a = []
account_placed (p ∷ ps) ss rs a =
    cond (nat_lt a (period_columns p))
    (placed_from p a ps ss rs)
    (account_placed ps (drop (period_columns p) ss) (drop (period_columns p) rs) (a - period_columns p))

-- events at columns from m on are left out, and at the end what the hearing says is reported
abbrev pub AccountLiteral : Type 0
AccountLiteral =
    (ps : List Period) (sent received : List Column) → ReceivedFreely ps sent received
    → (a m : ℕ) → EndsControl ps (a + 11) → a + m ≤ length received
    → account ps sent received a m
    ≡ map event_of (reported_before m (account_placed ps sent received a)) ++ end_from 0 (stretches (take m (drop a received)))
