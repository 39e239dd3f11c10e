-- The columns of a data island's packets, one packet after another.
use Rattle.std.proofs.Common.{◌≡◌, ℕ, suc, zero, ◌+◌, ◌-◌, ◌*◌, ◌<◌, ◌≤◌, Bool, true, false, ◌==◌, ◌&&◌, List, [], ◌∷◌, ◌++◌, length, take, drop, get_or, map, refl, ap, sym, subst, ◌∙◌, arith, append_assoc, append-nil, length-append, length-take-le, length-drop}
use Rattle.std.proofs.Math.Seq.{take-add}
use Rattle.std.proofs.lemmas.List.{length-map}
use Rattle.std.proofs.lemmas.Slice.{take-put_mid}
use borrow.Rule.Slice.PartMut.{put_mid}
use Rattle.tmds_word.specs.Bits.{bytes_bits}
use Rattle.tmds_word.specs.Words.{words_of, all_words, columns_of, packed_columns}
use Rattle.tmds_word.proofs.Characters.{words_of-bytes}
use Rattle.tmds_word.proofs.Eights.{count_in_bytes}
use Rattle.tmds_word.proofs.Lists.{length-bytes_bits, bytes_bits-append}
use Rattle.std.proofs.lemmas.Bool.{ne_eqb, ltb-true}
use Rattle.std.specs.Prelude.{nat_lt}
use Rattle.std.specs.List.{list_all}
use Rattle.island_pack.specs.Conforming.{are_bytes, is_packet, is_sync_pair, is_data_island}
use Rattle.source_end.proofs.Turns.{left, right}
use Rattle.tmds_word.specs.Column.{Column}
use Rattle.island_pack.specs.Packets.{Carries}
use Rattle.island_pack.specs.Periods.{DataIsland}
use Rattle.island_pack.specs.Spelling.{SpellsPackets, column_words}
use Rattle.island_pack.specs.declared.packet.Packet.{Packet}

pub packets_length : (first : Bool) (ps : List Packet) (columns : List Column) → SpellsPackets first ps columns → length columns ≡ 32 * length ps
packets_length first [] columns h = ap length h
packets_length first (p ∷ ps) columns h =
    let own : length h.0 ≡ 32 = sym (length-map h.0 column_words) ∙ h.3.free.count in
    let rest = packets_length false ps h.1 h.4 in
    ap length h.2 ∙ length-append h.0 h.1 ∙ omega (arith, own, rest)

later_one : (first now : Bool) (n : ℕ) → now ≡ (first && (suc n == 0)) → now ≡ (false && (n == 0))
later_one first now n h = grind (arith, ne_eqb)

pub SpellsPackets-append : (first now : Bool) (ps qs : List Packet) (columns more : List Column) → now ≡ (first && (length ps == 0)) → SpellsPackets first ps columns → SpellsPackets now qs more → SpellsPackets first (ps ++ qs) (columns ++ more)
SpellsPackets-append first now [] qs columns more e h k = grind arith
SpellsPackets-append first now (q ∷ ps) qs columns more e h k =
    (h.0, h.1 ++ more, ap (λ (cs : List Column). cs ++ more) h.2 ∙ append_assoc h.0 h.1 more, h.3, SpellsPackets-append false now ps qs h.1 more (later_one first now (length ps) e) h.4 k)

pub SpellsPackets-more : (first now : Bool) (ps : List Packet) (p : Packet) (columns own : List Column) → now ≡ (first && (length ps == 0)) → SpellsPackets first ps columns → Carries p now (map column_words own) → SpellsPackets first (ps ++ p ∷ []) (columns ++ own)
SpellsPackets-more first now ps p columns own e h k = SpellsPackets-append first now ps (p ∷ []) columns own e h (own, [], sym (append-nil own), k, refl)

-- some packets more, up to another place
pub packets_more : (packets : List Packet) (from upto m n : ℕ) (first : Bool) (columns own : List Column) → from ≤ upto → m ≡ from → upto ≡ n → first ≡ (true && (length (take from packets) == 0))
    → SpellsPackets true (take m packets) columns → SpellsPackets first (take (upto - from) (drop from packets)) own → SpellsPackets true (take n packets) (columns ++ own)
packets_more packets from upto m n first columns own le e d begins was next =
    let sum : from + (upto - from) ≡ upto = omega arith in
    let all : take from packets ++ take (upto - from) (drop from packets) ≡ take n packets = sym (take-add from (upto - from) packets) ∙ ap (λ k. take k packets) (sum ∙ d) in
    subst (λ (ps : List Packet). SpellsPackets true ps (columns ++ own)) all
    (SpellsPackets-append true first (take from packets) (take (upto - from) (drop from packets)) columns own begins (subst (λ k. SpellsPackets true (take k packets) columns) e was) next)

-- whether a packet is the first one
pub first_from : (packets : List Packet) (i : ℕ) → 8 * i ≤ length packets → (i == 0) ≡ (true && (length (take (8 * i) packets) == 0))
first_from packets zero le = refl
first_from packets (suc i) le = let size : length (take (8 * suc i) packets) ≡ 8 * suc i = length-take-le (8 * suc i) packets le in grind (arith, ne_eqb)

pub first_of_all : (first : Bool) → first ≡ (first && (0 == 0))
first_of_all true = refl
first_of_all false = refl

pub not_first : (first : Bool) (i : ℕ) → false ≡ (first && (i + 1 == 0))
not_first first i = grind (arith, ne_eqb)

-- The columns of packed lanes, one packet after another.

columns_of-append : (bs gs rs cs hs ss : List ℕ) → length gs ≡ length bs → length rs ≡ length bs
    → columns_of (bs ++ cs) (gs ++ hs) (rs ++ ss) ≡ columns_of bs gs rs ++ columns_of cs hs ss
unfolding columns_of
columns_of-append [] [] [] cs hs ss e f = refl
columns_of-append [] [] (z ∷ rs) cs hs ss e f = absurd (omega arith)
columns_of-append [] (y ∷ gs) rs cs hs ss e f = absurd (omega arith)
columns_of-append (x ∷ bs) [] rs cs hs ss e f = absurd (omega arith)
columns_of-append (x ∷ bs) (y ∷ gs) [] cs hs ss e f = absurd (omega arith)
columns_of-append (x ∷ bs) (y ∷ gs) (z ∷ rs) cs hs ss e f = ap (λ (ks : List Column). record { blue = x; green = y; red = z } ∷ ks) (columns_of-append bs gs rs cs hs ss (omega arith) (omega arith))

pub no_columns : packed_columns [] [] [] ≡ []
unfolding columns_of all_words words_of bytes_bits
no_columns = refl

-- a packet's forty bytes of a lane, after those of the packets before
lane_more : (into bytes : List ℕ) (i : ℕ) → 40 * i + 40 ≤ length into → length bytes ≡ 40
    → all_words (bytes_bits (take (40 * (i + 1)) (put_mid (40 * i) (40 * i + 40 - 40 * i) into bytes))) ≡ all_words (bytes_bits (take (40 * i) into)) ++ all_words (bytes_bits bytes)
lane_more into bytes i room size =
    let front = take (40 * i) into in
    let long : length front ≡ 40 * i = length-take-le (40 * i) into (omega arith) in
    ap (λ bs. all_words (bytes_bits bs)) (take-put_mid (40 * i) (40 * i + 40 - 40 * i) into bytes (40 * (i + 1)) (omega (arith, size)) (omega arith))
    ∙ ap all_words (bytes_bits-append front bytes)
    ∙ words_of-bytes (bytes_bits front) bytes (omega (arith, length-bytes_bits front, long)) (omega (arith, size))

pub lane_size : (into bytes : List ℕ) (i n : ℕ) → 40 * i + 40 ≤ length into → length bytes ≡ 40 → length into ≡ n → length (put_mid (40 * i) (40 * i + 40 - 40 * i) into bytes) ≡ n
lane_size into bytes i n room size e =
    let left = drop (40 * i) into in
    let rest = drop (40 * i + 40 - 40 * i) left in
    length-append (take (40 * i) into) (bytes ++ rest)
    ∙ omega (arith, length-append bytes rest, length-take-le (40 * i) into (omega arith), length-drop (40 * i + 40 - 40 * i) left, length-drop (40 * i) into, size, e)

lane_count : (into : List ℕ) (i : ℕ) → 40 * i + 40 ≤ length into → length (all_words (bytes_bits (take (40 * i) into))) ≡ 32 * i
lane_count into i room = omega (arith, count_in_bytes (take (40 * i) into), length-take-le (40 * i) into (omega arith))

pub packed_more : (bs gs rs b g r : List ℕ) (i : ℕ) → 40 * i + 40 ≤ length bs → 40 * i + 40 ≤ length gs → 40 * i + 40 ≤ length rs → length b ≡ 40 → length g ≡ 40 → length r ≡ 40
    → packed_columns (take (40 * (i + 1)) (put_mid (40 * i) (40 * i + 40 - 40 * i) bs b)) (take (40 * (i + 1)) (put_mid (40 * i) (40 * i + 40 - 40 * i) gs g)) (take (40 * (i + 1)) (put_mid (40 * i) (40 * i + 40 - 40 * i) rs r))
    ≡ packed_columns (take (40 * i) bs) (take (40 * i) gs) (take (40 * i) rs) ++ packed_columns b g r
packed_more bs gs rs b g r i lb lg lr kb kg kr =
    (λ j. columns_of (lane_more bs b i lb kb j) (lane_more gs g i lg kg j) (lane_more rs r i lr kr j))
    ∙ columns_of-append (all_words (bytes_bits (take (40 * i) bs))) (all_words (bytes_bits (take (40 * i) gs))) (all_words (bytes_bits (take (40 * i) rs))) (all_words (bytes_bits b)) (all_words (bytes_bits g)) (all_words (bytes_bits r))
    (lane_count gs i lg ∙ sym (lane_count bs i lb)) (lane_count rs i lr ∙ sym (lane_count bs i lb))

-- What a packet in its ranges has.
pub packet_at : (packets : List Packet) (i : ℕ) (d : Packet) → list_all is_packet packets ≡ true → i < length packets → is_packet (get_or packets i d) ≡ true
packet_at [] i d h lt = absurd (omega arith)
packet_at (p ∷ packets) zero d h lt = left (is_packet p) (list_all is_packet packets) h
packet_at (p ∷ packets) (suc i) d h lt = let lt' : i < length packets = omega arith in packet_at packets i d (right (is_packet p) (list_all is_packet packets) h) lt'

all_small : (values : List ℕ) (k d : ℕ) → list_all (λ value. nat_lt value 4) values ≡ true → k < length values → get_or values k d < 4
all_small [] k d h lt = absurd (omega arith)
all_small (v ∷ values) zero d h lt = ltb-true v 4 (left (nat_lt v 4) (list_all (λ value. nat_lt value 4) values) h)
all_small (v ∷ values) (suc k) d h lt = let lt' : k < length values = omega arith in all_small values k d (right (nat_lt v 4) (list_all (λ value. nat_lt value 4) values) h) lt'

pub sync_below : (p : Packet) → is_packet p ≡ true → (k d : ℕ) → k < length p.sync → get_or p.sync k d < 4
unfolding is_packet
sync_below p h k d lt =
    let sync = list_all (λ value. nat_lt value 4) p.sync in
    all_small p.sync k d (right (length p.sync == 32) sync (right ((length p.bodies == 28) && are_bytes p.bodies) _ (right ((length p.header == 3) && are_bytes p.header) _ h))) lt

-- What an island in its ranges has.
pub opening_in_range : (x : DataIsland) → is_data_island x ≡ true → is_sync_pair x.opening ≡ true
unfolding is_data_island
opening_in_range x h = left (is_sync_pair x.opening) (is_sync_pair x.closing) (left (is_sync_pair x.opening && is_sync_pair x.closing) _ h)

pub closing_in_range : (x : DataIsland) → is_data_island x ≡ true → is_sync_pair x.closing ≡ true
unfolding is_data_island
closing_in_range x h = right (is_sync_pair x.opening) (is_sync_pair x.closing) (left (is_sync_pair x.opening && is_sync_pair x.closing) _ h)

pub packets_in_range : (x : DataIsland) → is_data_island x ≡ true → list_all is_packet x.packets ≡ true
unfolding is_data_island
packets_in_range x h = left (list_all is_packet x.packets) _ (right (is_sync_pair x.opening && is_sync_pair x.closing) _ h)
