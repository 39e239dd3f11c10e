-- The packets of a data island that stands alone, or beside anything in one island, are reported, each that is as sent in the account with the lines of the packet
-- as it was sent.
use Rattle.std.proofs.Common.{◌≡◌, ℕ, suc, ◌+◌, ◌-◌, ◌*◌, ◌≤◌, Bool, true, List, [], ◌∷◌, ◌++◌, map, length, take, drop, ap, ap₂, ◌∙◌, arith}
use Rattle.std.proofs.lemmas.List.{map-append}
use Rattle.std.specs.Prelude.{◌==◌}
use Rattle.tmds_word.specs.Column.{Column}
use Rattle.island_pack.specs.Packets.{CarriesFreely}
use Rattle.island_pack.specs.Spelling.{column_words}
use Rattle.island_pack.specs.Periods.{DataIsland, island}
use Rattle.island_pack.specs.Repaired.{verdicts_of}
use Rattle.island_pack.specs.declared.packet.Packet.{Packet}
use Rattle.period_grammar.specs.Events.{Event, EventAt, packet, long_island, all_at, event_of}
use Rattle.period_grammar.specs.Island.{if_so, packet_faults, packet_events}
use Rattle.period_grammar.proofs.Hearings.{events_at}
use Rattle.link_laws.specs.Account.{packet_row, packet_reported, open_island_row, close_island_row}
use Rattle.link_laws.specs.Literal.{packets_placed, island_placed}
use Rattle.link_laws.proofs.Joining.{ArrivesPeriod}
use Rattle.link_laws.proofs.PacketRow.{packet_row_taken}
use Rattle.listing_laws.specs.ListingLaws.{Each}
use Rattle.listing_laws.specs.PacketLaws.{each_at, ReportedPacket, reported_packets, received_packet}
use Rattle.listing_laws.proofs.EachPlaced.{island_shown}
use Rattle.listing_laws.proofs.PacketLines.{IsListed, listed_here}
use Rattle.listing_laws.proofs.Reported.{reported_both, one_packet, window, first_window, rest_window, after_guard, no_close, no_open_island}

-- of events at one column and others
packets_both : (n : ℕ) (ts : List Event) (us : List EventAt) → reported_packets (map event_of (all_at n ts ++ us)) ≡ reported_packets ts ++ reported_packets (map event_of us)
packets_both n ts us =
    ap reported_packets (map-append event_of (all_at n ts) us ∙ ap (λ vs. vs ++ map event_of us) (events_at n ts)) ∙ reported_both ts (map event_of us)

packets_whole : (ps : List Packet) (ss rs : List Column) (a y : ℕ) → a ≤ y
    → reported_packets (map event_of (packets_placed (y - a) ps (window (length ps) y ss) (window (length ps) y rs))) ≡ map (received_packet ss rs a) (each_at y ps)
unfolding packets_placed each_at
packets_whole [] ss rs a y le =
    ap reported_packets (events_at (y - a + 1) (close_island_row (y - a) (window 0 y rs))) ∙ no_close (y - a) (window 0 y rs)
packets_whole (p ∷ ps) ss rs a y le =
    let n = length ps in
    let s = y - a in
    let e : s + 32 ≡ (y + 32) - a = omega arith in
    packets_both (s + 31) (packet_reported s p (take 32 (window (suc n) y ss)) (take 32 (window (suc n) y rs))) (packets_placed (s + 32) ps (drop 32 (window (suc n) y ss)) (drop 32 (window (suc n) y rs)))
    ∙ ap₂ (λ (ks ls : List ReportedPacket). ks ++ ls)
    (one_packet s p (take 32 (window (suc n) y ss)) (take 32 (window (suc n) y rs))
    ∙ ap₂ (λ (cs ds : List Column). record { packet = packet_row p cs ds; verdicts = verdicts_of ds; column = s } ∷ []) (first_window n y ss) (first_window n y rs))
    (ap₂ (λ (cs ds : List Column). reported_packets (map event_of (packets_placed (s + 32) ps cs ds))) (rest_window n y ss) (rest_window n y rs)
    ∙ ap (λ k. reported_packets (map event_of (packets_placed k ps (window n (y + 32) ss) (window n (y + 32) rs)))) e
    ∙ packets_whole ps ss rs a (y + 32) (omega arith))

-- the packets of an island at column x, all of whose columns were received, counted from column a on
pub island_packets : (i : DataIsland) (before ss rs : List Column) (a x : ℕ) → a ≤ x
    → reported_packets (map event_of (island_placed (x - a) before i (take (4 + 32 * length i.packets) (drop x ss)) (take (4 + 32 * length i.packets) (drop x rs))))
    ≡ map (received_packet ss rs a) (each_at (x + 2) i.packets)
unfolding island_placed
island_packets i before ss rs a x le =
    let n = length i.packets in
    let own = take (4 + 32 * n) (drop x ss) in
    let reception = take (4 + 32 * n) (drop x rs) in
    let e : x - a + 2 ≡ (x + 2) - a = omega arith in
    packets_both (x - a + 1) (open_island_row (x - a) before reception) (packets_placed (x - a + 2) i.packets (drop 2 own) (drop 2 reception))
    ∙ ap (λ ks. ks ++ reported_packets (map event_of (packets_placed (x - a + 2) i.packets (drop 2 own) (drop 2 reception)))) (no_open_island (x - a) before reception)
    ∙ ap₂ (λ (cs ds : List Column). reported_packets (map event_of (packets_placed (x - a + 2) i.packets cs ds))) (after_guard n x ss) (after_guard n x rs)
    ∙ ap (λ k. reported_packets (map event_of (packets_placed k i.packets (window n (x + 2) ss) (window n (x + 2) rs)))) e
    ∙ packets_whole i.packets ss rs a (x + 2) (omega arith)

-- and their lines
pub island_lines : (sent received : List Column) (a x : ℕ) (i : DataIsland) (own reception ss rs : List Column) → ArrivesPeriod (island i) own reception → drop x sent ≡ own ++ ss → drop x received ≡ reception ++ rs
    → Each (IsListed sent received a) (each_at (x + 2) i.packets)
island_lines sent received a x i own reception ss rs arrives e d =
    island_shown (IsListed sent received a) sent received (λ y p first cs. listed_here sent received a y p first cs) x i own reception ss rs arrives e d

-- A packet beside anything.

no_long : (c : Bool) (s : ℕ) → reported_packets (if_so c (long_island s)) ≡ []
unfolding reported_packets
no_long c s = grind arith

-- a packet of an island is reported as the account has it, whatever else was received of the island
pub packet_alone : (s k : ℕ) (p : Packet) (ss rs : List Column) → CarriesFreely p (map column_words ss) → length rs ≡ 32
    → reported_packets (packet_events s k rs) ≡ record { packet = packet_row p ss rs; verdicts = verdicts_of rs; column = s } ∷ []
unfolding packet_events packet_reported
packet_alone s k p ss rs carries long =
    ap (λ q. reported_packets (packet q (verdicts_of rs) s ∷ (packet_faults s (verdicts_of rs) ++ if_so (k == 18) (long_island s)))) (packet_row_taken p true ss rs carries long)
    ∙ reported_both (packet_reported s p ss rs) (if_so (k == 18) (long_island s))
    ∙ ap₂ (λ (ks ls : List ReportedPacket). ks ++ ls) (one_packet s p ss rs) (no_long (k == 18) s)
