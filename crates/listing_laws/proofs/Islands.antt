-- The text of a data island, read from a line on.
use Rattle.std.proofs.Common.{◌≡◌, ℕ, ◌+◌, ◌*◌, ◌<◌, ◌≤◌, true, not, ◌&&◌, List, [], ◌∷◌, ◌++◌, length, refl, ap, ◌∙◌, arith, append_assoc, append-nil, length-append}
use Rattle.std.specs.Prelude.{Some, None, nat_le, nat_lt}
use Rattle.std.specs.List.{list_all}
use Rattle.island_pack.specs.Periods.{SyncPair, DataIsland, Period, island, columns_of}
use Rattle.island_pack.specs.Conforming.{is_sync_pair, is_packet, is_data_island}
use Rattle.island_pack.specs.declared.packet.Packet.{Packet}
use Rattle.island_pack.specs.declared.ranges.TheConstants.{COLUMN_LIMIT}
use Rattle.source_end.specs.Refusals.{last_period, is_control_last, is_long_enough}
use Rattle.period_grammar.specs.Events.{open_island, close_island}
use Rattle.listing_reader.specs.Causes.{announces_island}
use Rattle.listing_reader.specs.Drafts.{Draft}
use Rattle.listing_reader.specs.Forms.{island_line, packet_line, close_line}
use Rattle.listing_reader.specs.Lines.{pieces_of}
use Rattle.listing_reader.specs.LineSteps.{Read, read_lines}
use Rattle.listing_reader.specs.Reading.{link_step}
use Rattle.listing_reader.proofs.Feeds.{and-left, and-right, both}
use Rattle.listing_laws.proofs.Text.{line_of, reported_packet, packet_lines, period_lines}
use Rattle.listing_laws.proofs.Digits.{below-from}
use Rattle.listing_laws.proofs.IslandForms.{guard_body, open_words, open_form, open_feedless, close_words, close_form, close_feedless, packet_body, packet_words, packet_length, packet_seen, packet_feedless, packet_values}
use Rattle.listing_laws.proofs.LineForms.{line_is}
use Rattle.listing_laws.proofs.LineSteps.{read_more}
use Rattle.listing_laws.proofs.NoCause.{island_cause_none, packet_cause_none, close_cause_none}

-- periods, and an island of which so many packets were given
abbrev pub reported : List Period → Draft
reported ps = record { periods = ps; opened = None }

abbrev within : List Period → SyncPair → List Packet → Draft
within ps opening packets = record { periods = ps; opened = Some (record { opening = opening; packets = packets }) }

-- what the test of a data island says
record IsIsland (x : DataIsland) : Type 0 where
  pub opening : is_sync_pair x.opening ≡ true
  pub closing : is_sync_pair x.closing ≡ true
  pub packets : list_all is_packet x.packets ≡ true
  pub count : (nat_le 1 (length x.packets) && nat_le (length x.packets) 18) ≡ true

island_is : (x : DataIsland) → is_data_island x ≡ true → IsIsland x
unfolding is_data_island
island_is x h = grind (arith, and-left, and-right)

first_below : (pair : SyncPair) → is_sync_pair pair ≡ true → pair.first < 4
first_below pair h = below-from pair.first 4 (and-left (nat_lt pair.first 4) (nat_lt pair.second 4) h)

second_below : (pair : SyncPair) → is_sync_pair pair ≡ true → pair.second < 4
second_below pair h = below-from pair.second 4 (and-right (nat_lt pair.first 4) (nat_lt pair.second 4) h)

-- ---- the guards

read_open : (n at : ℕ) (ps : List Period) (pair : SyncPair) (rest : List ℕ) → is_sync_pair pair ≡ true → is_control_last (last_period ps) ≡ true → is_long_enough (last_period ps) ≡ true → announces_island (last_period ps) ≡ true
    → columns_of ps + 2 ≤ COLUMN_LIMIT → at ≤ 14 * columns_of ps
    → read_lines link_step n at (reported ps) (pieces_of (line_of (open_island pair.first pair.second) ++ rest)) ≡ read_lines link_step (n + 1) (at + 4 + 1) (within ps pair []) (pieces_of rest)
read_open n at ps pair rest sync turn long announced few before =
    let first = first_below pair sync in
    let second = second_below pair sync in
    ap (λ (text : List ℕ). read_lines link_step n at (reported ps) (pieces_of text)) (line_is (open_island pair.first pair.second) (guard_body 105 pair.first pair.second) rest (open_words pair.first pair.second))
    ∙ read_more n at (reported ps) (within ps pair []) (guard_body 105 pair.first pair.second) rest (island_line pair.first pair.second) (open_feedless pair.first pair.second first second) (open_form pair.first pair.second first second)
    (island_cause_none (reported ps) pair.first pair.second sync turn long announced (omega arith))
    refl (omega arith)

read_close : (n at : ℕ) (ps : List Period) (x : DataIsland) (rest : List ℕ) → is_sync_pair x.closing ≡ true → (nat_le 1 (length x.packets) && nat_le (length x.packets) 18) ≡ true
    → columns_of ps + (4 + 32 * length x.packets) ≤ COLUMN_LIMIT → at ≤ 14 * (columns_of ps + (2 + 32 * length x.packets))
    → read_lines link_step n at (within ps x.opening x.packets) (pieces_of (line_of (close_island x.closing.first x.closing.second) ++ rest)) ≡ read_lines link_step (n + 1) (at + 4 + 1) (reported (ps ++ island x ∷ [])) (pieces_of rest)
read_close n at ps x rest sync some few before =
    let pair = x.closing in
    let first = first_below pair sync in
    let second = second_below pair sync in
    ap (λ (text : List ℕ). read_lines link_step n at (within ps x.opening x.packets) (pieces_of text)) (line_is (close_island pair.first pair.second) (guard_body 101 pair.first pair.second) rest (close_words pair.first pair.second))
    ∙ read_more n at (within ps x.opening x.packets) (reported (ps ++ island x ∷ [])) (guard_body 101 pair.first pair.second) rest (close_line pair.first pair.second) (close_feedless pair.first pair.second first second)
    (close_form pair.first pair.second first second)
    (close_cause_none (within ps x.opening x.packets) pair.first pair.second sync some (omega arith))
    refl (omega arith)

-- ---- the packets

not_last : (n : ℕ) → n + 1 ≤ 18 → not (nat_le 18 n && nat_le n 18) ≡ true
not_last n few = grind arith

few_packets : (n : ℕ) → n + 1 ≤ 18 → (nat_le 0 n && nat_le n 18) ≡ true
few_packets n few = grind arith

read_packet : (n at : ℕ) (ps : List Period) (opening : SyncPair) (done : List Packet) (p : Packet) (rest : List ℕ) → is_packet p ≡ true → length done + 1 ≤ 18
    → columns_of ps + (2 + 32 * length done) + 32 ≤ COLUMN_LIMIT → at ≤ 14 * (columns_of ps + (2 + 32 * length done))
    → read_lines link_step n at (within ps opening done) (pieces_of (line_of (reported_packet p) ++ rest)) ≡ read_lines link_step (n + 1) (at + length (packet_body p) + 1) (within ps opening (done ++ p ∷ [])) (pieces_of rest)
read_packet n at ps opening done p rest packet room few before =
    let size = packet_length p packet in
    ap (λ (text : List ℕ). read_lines link_step n at (within ps opening done) (pieces_of text)) (line_is (reported_packet p) (packet_body p) rest (packet_words p))
    ∙ read_more n at (within ps opening done) (within ps opening (done ++ p ∷ [])) (packet_body p) rest (packet_line p) (packet_feedless p packet) (packet_seen p packet)
    (packet_cause_none (within ps opening done) p (both _ _ (packet_values p packet) (not_last (length done) room)) (few_packets (length done) room) (omega arith))
    refl (omega arith)

-- all packets: `goal` is what the text after them reads as
read_packets : (ps : List Period) (opening : SyncPair) (done packets all : List Packet) (n at : ℕ) (rest : List ℕ) (goal : Read (List Period)) → list_all is_packet packets ≡ true → done ++ packets ≡ all
    → length done + length packets ≤ 18 → columns_of ps + (2 + 32 * (length done + length packets)) ≤ COLUMN_LIMIT → at ≤ 14 * (columns_of ps + (2 + 32 * length done))
    → ((m to : ℕ) → to ≤ 14 * (columns_of ps + (2 + 32 * length all)) → read_lines link_step m to (within ps opening all) (pieces_of rest) ≡ goal)
    → read_lines link_step n at (within ps opening done) (pieces_of (packet_lines packets ++ rest)) ≡ goal
unfolding packet_lines
read_packets ps opening done [] all n at rest goal every is room few before after = grind (arith, append-nil)
read_packets ps opening done (p ∷ packets) all n at rest goal every is room few before after =
    let packet : is_packet p ≡ true = and-left (is_packet p) (list_all is_packet packets) every in
    let later : list_all is_packet packets ≡ true = and-right (is_packet p) (list_all is_packet packets) every in
    let more : length (done ++ p ∷ []) ≡ length done + 1 = length-append done (p ∷ []) in
    let size = packet_length p packet in
    ap (λ (text : List ℕ). read_lines link_step n at (within ps opening done) (pieces_of text)) (append_assoc (line_of (reported_packet p)) (packet_lines packets) rest)
    ∙ read_packet n at ps opening done p (packet_lines packets ++ rest) packet (omega arith) (omega arith) before
    ∙ read_packets ps opening (done ++ p ∷ []) packets all (n + 1) (at + length (packet_body p) + 1) rest goal later (append_assoc done (p ∷ []) packets ∙ is) (omega arith) (omega arith) (omega arith) after

-- ---- a whole island

island_lines : (x : DataIsland) (rest : List ℕ)
    → period_lines (island x) ++ rest ≡ line_of (open_island x.opening.first x.opening.second) ++ (packet_lines x.packets ++ (line_of (close_island x.closing.first x.closing.second) ++ rest))
unfolding period_lines
island_lines x rest =
    append_assoc (line_of (open_island x.opening.first x.opening.second) ++ packet_lines x.packets) (line_of (close_island x.closing.first x.closing.second)) rest
    ∙ append_assoc (line_of (open_island x.opening.first x.opening.second)) (packet_lines x.packets) (line_of (close_island x.closing.first x.closing.second) ++ rest)

-- an island, from its first line on
pub read_island : (ps : List Period) (x : DataIsland) (n at : ℕ) (rest : List ℕ) (goal : Read (List Period)) → is_data_island x ≡ true
    → is_control_last (last_period ps) ≡ true → is_long_enough (last_period ps) ≡ true → announces_island (last_period ps) ≡ true
    → columns_of ps + (4 + 32 * length x.packets) ≤ COLUMN_LIMIT → at ≤ 14 * columns_of ps
    → ((m to : ℕ) → to ≤ 14 * (columns_of ps + (4 + 32 * length x.packets)) → read_lines link_step m to (reported (ps ++ island x ∷ [])) (pieces_of rest) ≡ goal)
    → read_lines link_step n at (reported ps) (pieces_of (period_lines (island x) ++ rest)) ≡ goal
read_island ps x n at rest goal good turn long announced few before after =
    let is = island_is x good in
    let few_of : length x.packets ≤ 18 = most (length x.packets) is.count in
    let close : List ℕ = line_of (close_island x.closing.first x.closing.second) ++ rest in
    ap (λ (text : List ℕ). read_lines link_step n at (reported ps) (pieces_of text)) (island_lines x rest)
    ∙ read_open n at ps x.opening (packet_lines x.packets ++ close) is.opening turn long announced (omega arith) before
    ∙ read_packets ps x.opening [] x.packets x.packets (n + 1) (at + 4 + 1) close goal is.packets refl (omega arith) (omega arith) (omega arith)
    (λ m to within_it. read_close m to ps x rest is.closing is.count few within_it ∙ after (m + 1) (to + 4 + 1) (omega arith))
  where
    most : (n : ℕ) → (nat_le 1 n && nat_le n 18) ≡ true → n ≤ 18
    most n h = grind arith
