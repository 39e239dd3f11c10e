-- The account: what one who knows the periods that were sent, and the columns that spelled them, writes of the received
-- columns. It cuts nothing and searches nothing: it walks the periods, and sees how many columns of each were received.
-- A control period's row is said of its received columns alone, and a row after it sees them for the preamble.
use Rattle.std.specs.Prelude.{ℕ, zero, suc, ◌+◌, ◌-◌, Bool, ◌&&◌, ◌||◌, cond, ◌==◌, List, [], ◌∷◌, ◌++◌, map, length, take, drop, nat_lt, nat_le}
use Rattle.tmds_word.specs.Column.{Column, blues, greens, reds}
use Rattle.terc4.specs.Columns.{is_video_guard, is_island_guard}
use Rattle.tmds_code.specs.Coding.{decoded_byte}
use Rattle.island_pack.specs.Periods.{DataIsland, Period, control, video, island, Pixel, pixels_of, period_columns, VIDEO_PREAMBLE, ISLAND_PREAMBLE}
use Rattle.island_pack.specs.Spelling.{column_words}
use Rattle.island_pack.specs.Sparse.{unlike_words}
use Rattle.island_pack.specs.declared.packet.Packet.{Packet}
use Rattle.period_grammar.specs.Column.{sync_digit}
use Rattle.period_grammar.specs.Cut.{Run, columns, runs}
use Rattle.period_grammar.specs.Exact.{faultless}
use Rattle.island_pack.specs.Repaired.{packet_of, verdicts_of}
use Rattle.period_grammar.specs.Island.{packet_faults, wrong_guards}
use Rattle.period_grammar.specs.Heard.{words, has_preamble, codes_of, if_not}
use Rattle.period_grammar.specs.Events.{Event, run, line, preamble, cut, packet, open_island, close_island, event_of}

-- Control periods.

-- for each run of one value from column j on, its words that are no control words, and then the run
unfoldable pub runs_row : ℕ → List Run → List Event
runs_row j [] = []
runs_row j (columns v cs ∷ rs) = map event_of (words j cs) ++ (run v (length cs) ∷ runs_row (j + length cs) rs)

-- received control columns from column j on
abbrev pub control_row : ℕ → List Column → List Event
control_row j cs = runs_row j (runs cs)

-- What opens and closes: `before` are the received columns of the control period before, b is the first guard column.

abbrev pub wrong_preamble : ℕ → ℕ → List Column → List Event
wrong_preamble b bits before = if_not (has_preamble bits before) (preamble b)

unfoldable pub open_video_row : ℕ → List Column → List Column → List Event
open_video_row b before (g ∷ (h ∷ rs)) = wrong_preamble b VIDEO_PREAMBLE before ++ wrong_guards is_video_guard b g h
open_video_row b before _ = []

unfoldable pub open_island_row : ℕ → List Column → List Column → List Event
open_island_row b before (g ∷ (h ∷ rs)) =
    wrong_preamble b ISLAND_PREAMBLE before ++ open_island (sync_digit g.blue) (sync_digit h.blue) ∷ wrong_guards is_island_guard b g h
open_island_row b before _ = []

unfoldable pub close_island_row : ℕ → List Column → List Event
close_island_row s (c ∷ (d ∷ rs)) = close_island (sync_digit c.blue) (sync_digit d.blue) ∷ wrong_guards is_island_guard s c d
close_island_row s _ = []

-- Video data periods.

-- a byte as sent where its word was received as sent, else the one that the received word has
abbrev pub byte : ℕ → ℕ → ℕ → ℕ
byte b s r = cond (s == r) b (decoded_byte r)

unfoldable pub pixel_bytes : List Pixel → List Column → List Column → List ℕ
pixel_bytes (p ∷ ps) (s ∷ ss) (r ∷ rs) =
    byte p.red s.red r.red ∷ (byte p.green s.green r.green ∷ (byte p.blue s.blue r.blue ∷ pixel_bytes ps ss rs))
pixel_bytes _ _ _ = []

-- the line, and then on each lane the first word that is not coded as it should be, of pixels from column b + 2 on
unfoldable pub video_row : ℕ → List Pixel → List Column → List Column → List Event
video_row b pixels ss rs = line (pixel_bytes pixels ss rs) ∷ codes_of (b + 2) rs

-- a video data period from column b on, of which m columns were received
unfoldable pub video_reported : ℕ → ℕ → List Column → List Pixel → List Column → List Column → List Event
video_reported b zero before pixels ss rs = []
video_reported b (suc zero) before pixels ss rs = cut b ∷ []
video_reported b (suc (suc i)) before pixels ss rs =
    open_video_row b before rs ++ cond (nat_lt (length pixels) i) (video_row b pixels (drop 2 ss) (drop 2 rs)) (cut (b + 2) ∷ [])

-- Data islands.

-- how many words of columns were received unlike
unfoldable pub damage : List Column → List Column → ℕ
damage (s ∷ ss) (r ∷ rs) = unlike_words (column_words s) (column_words r) + damage ss rs
damage _ _ = 0

-- a sync value as sent where its word was received as sent, else the one that the received word has
unfoldable pub sync_row : List ℕ → List Column → List Column → List ℕ
sync_row (v ∷ vs) (s ∷ ss) (r ∷ rs) = cond (s.blue == r.blue) v (sync_digit r.blue) ∷ sync_row vs ss rs
sync_row _ _ _ = []

-- few enough words of a packet were received unlike for its codes to show it: at most three on lane 0, whose bits 2 are
-- one block, and at most three on lanes 1 and 2 together, whose bits of one place are one block. Two blocks differ in four bits
-- at least
unfoldable pub are_few : List Column → List Column → Bool
are_few ss rs = nat_le (unlike_words (blues ss) (blues rs)) 3 && nat_le (unlike_words (greens ss) (greens rs) + unlike_words (reds ss) (reds rs)) 3

-- at most one of the packet's words was received unlike, or few were and no fault is found
unfoldable pub is_as_sent : List Column → List Column → Bool
is_as_sent ss rs = nat_le (damage ss rs) 1 || (are_few ss rs && faultless (packet_faults 0 (verdicts_of rs)))

-- header and bodies are then as sent, else as they are taken
unfoldable pub packet_row : Packet → List Column → List Column → Packet
packet_row p ss rs =
    cond (is_as_sent ss rs)
    (record { header = p.header; bodies = p.bodies; sync = sync_row p.sync ss rs })
    (record { header = (packet_of rs).header; bodies = (packet_of rs).bodies; sync = sync_row p.sync ss rs })

-- a packet from column s on: it, its words that are no TERC4 words, and the verdicts on its blocks
unfoldable pub packet_reported : ℕ → Packet → List Column → List Column → List Event
packet_reported s p ss rs = packet (packet_row p ss rs) (verdicts_of rs) s ∷ packet_faults s (verdicts_of rs)

-- packets from column s on and the guard columns that close them, of which i columns were received; where a packet or
-- the guard is not whole, `broken` says so
unfoldable pub packets_reported : (ℕ → Event) → ℕ → List Packet → ℕ → List Column → List Column → List Event
packets_reported broken s [] i ss rs = cond (nat_le 2 i) (close_island_row s rs) (broken s ∷ [])
packets_reported broken s (p ∷ ps) i ss rs =
    cond (nat_lt i 32)
    (broken s ∷ [])
    (packet_reported s p (take 32 ss) (take 32 rs) ++ packets_reported broken (s + 32) ps (i - 32) (drop 32 ss) (drop 32 rs))

-- a data island from column b on, of which m columns were received
unfoldable pub island_reported : ℕ → ℕ → List Column → DataIsland → List Column → List Column → List Event
island_reported b zero before x ss rs = []
island_reported b (suc zero) before x ss rs = cut b ∷ []
island_reported b (suc (suc i)) before x ss rs = open_island_row b before rs ++ packets_reported cut (b + 2) x.packets i (drop 2 ss) (drop 2 rs)

-- All periods.

-- a period from column j on, of which m columns were received; `before` are the received columns of the period before
unfoldable pub period_row : ℕ → ℕ → List Column → Period → List Column → List Column → List Event
period_row j m before (control runs) ss rs = control_row j (take m rs)
period_row j m before (video bytes) ss rs = video_reported j m before (pixels_of bytes) ss rs
period_row j m before (island x) ss rs = island_reported j m before x ss rs

-- periods from column j on, of which m columns were received
unfoldable pub account_from : ℕ → ℕ → List Column → List Period → List Column → List Column → List Event
account_from j m before [] ss rs = []
account_from j m before (p ∷ ps) ss rs =
    period_row j m before p (take (period_columns p) ss) (take (period_columns p) rs)
    ++ account_from (j + period_columns p) (m - period_columns p) (take (period_columns p) rs) ps (drop (period_columns p) ss) (drop (period_columns p) rs)

-- m columns from column a of a control period on, counted from there
unfoldable pub account_at : Period → ℕ → ℕ → List Period → List Column → List Column → List Event
account_at p a m ps ss rs =
    let first = drop a (take (period_columns p) rs) in
    control_row 0 (take m first)
    ++ account_from (period_columns p - a) (m - (period_columns p - a)) first ps (drop (period_columns p) ss) (drop (period_columns p) rs)

-- m columns from column a on, which lies in a control period; ss were sent and rs received
unfoldable pub account : List Period → List Column → List Column → ℕ → ℕ → List Event
account [] ss rs a m = []
account (p ∷ ps) ss rs a m =
    cond (nat_lt a (period_columns p))
    (account_at p a m ps ss rs)
    (account ps (drop (period_columns p) ss) (drop (period_columns p) rs) (a - period_columns p) m)
