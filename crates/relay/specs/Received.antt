-- What is kept of the account of periods that were sent, as their columns were received: period by period, each as it
-- was sent but for what was received unlike. What was not reported whole of the first m columns is left out. Rules 2 to
-- 6 make of it what is relayed.
use Rattle.std.specs.Prelude.{◌≡◌, ℕ, ◌-◌, ◌*◌, cond, List, [], ◌∷◌, ◌++◌, length, take, drop, nat_lt, nat_le}
use Rattle.tmds_word.specs.Column.{Column}
use Rattle.island_pack.specs.Periods.{SyncPair, DataIsland, Period, control, video, island, pixels_of, period_columns, columns_of}
use Rattle.island_pack.specs.Conforming.{IsConforming}
use Rattle.island_pack.specs.Repaired.{verdicts_of}
use Rattle.island_pack.specs.declared.packet.Packet.{Packet}
use Rattle.period_grammar.specs.Column.{sync_digit}
use Rattle.period_grammar.specs.Cut.{Run, columns, runs}
use Rattle.link_laws.specs.Account.{pixel_bytes, packet_row, account}
use Rattle.relay.specs.Relayed.{Judged, WholeIsland, RelayedPart, some_columns, some_line, some_island, conformed, relayed}

-- received control columns
unfoldable pub runs_kept : List Run → List RelayedPart
runs_kept [] = []
runs_kept (columns v cs ∷ rs) = some_columns (record { value = v; count = length cs }) ∷ runs_kept rs

-- packets as sent, or as they are taken where more than one word was received unlike, with the verdicts on
-- what was received
unfoldable pub packets_received : List Packet → List Column → List Column → List Judged
packets_received [] ss rs = []
packets_received (p ∷ ps) ss rs =
    record { packet = packet_row p (take 32 ss) (take 32 rs); verdicts = verdicts_of (take 32 rs) } ∷ packets_received ps (drop 32 ss) (drop 32 rs)

-- the sync digits of received guard columns
unfoldable pub digits_of : List Column → SyncPair
digits_of (c ∷ (d ∷ cs)) = record { first = sync_digit c.blue; second = sync_digit d.blue }
digits_of _ = record { first = 0; second = 0 }

unfoldable pub island_received : DataIsland → List Column → List Column → WholeIsland
island_received x ss rs = record {
  opening = digits_of rs;
  packets = packets_received x.packets (drop 2 ss) (drop 2 rs);
  closing = digits_of (drop (32 * length x.packets) (drop 2 rs));
}

-- a period of which m columns were received: a line is reported at the column after it, an island at its last column
unfoldable pub period_received : ℕ → Period → List Column → List Column → List RelayedPart
period_received m (control sent) ss rs = runs_kept (runs (take m rs))
period_received m (video bytes) ss rs = cond (nat_lt (period_columns (video bytes)) m) (some_line (pixel_bytes (pixels_of bytes) (drop 2 ss) (drop 2 rs)) ∷ []) []
period_received m (island x) ss rs = cond (nat_le (period_columns (island x)) m) (some_island (island_received x ss rs) ∷ []) []

unfoldable pub received_from : ℕ → List Period → List Column → List Column → List RelayedPart
received_from m [] ss rs = []
received_from m (p ∷ ps) ss rs =
    period_received m p (take (period_columns p) ss) (take (period_columns p) rs)
    ++ received_from (m - period_columns p) ps (drop (period_columns p) ss) (drop (period_columns p) rs)

-- m columns from column a of the first period on
unfoldable pub received_at : Period → ℕ → ℕ → List Period → List Column → List Column → List RelayedPart
received_at p a m ps ss rs =
    runs_kept (runs (take m (drop a (take (period_columns p) rs))))
    ++ received_from (m - (period_columns p - a)) ps (drop (period_columns p) ss) (drop (period_columns p) rs)

-- m columns from column a on
unfoldable pub reception : List Period → List Column → List Column → ℕ → ℕ → List RelayedPart
reception [] ss rs a m = []
reception (p ∷ ps) ss rs a m =
    cond (nat_lt a (period_columns p))
    (received_at p a m ps ss rs)
    (reception ps (drop (period_columns p) ss) (drop (period_columns p) rs) (a - period_columns p) m)

-- as many columns as the periods have, wherever damage lies, and however much
abbrev pub AreLong : List Period → List Column → Type 0
AreLong ps cs = length cs ≡ columns_of ps

abbrev pub RelayedAccount : Type 0
RelayedAccount =
    (ps : List Period) (sent received : List Column) → IsConforming ps → AreLong ps sent → AreLong ps received
    → (a m : ℕ) → relayed (account ps sent received a m) ≡ conformed (reception ps sent received a m)
