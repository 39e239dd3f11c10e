-- Every conforming list of periods can be spelled.
use Rattle.std.proofs.Common.{◌≡◌, ℕ, suc, zero, ◌*◌, ◌<◌, Bool, true, false, ◌&&◌, List, [], ◌∷◌, ◌++◌, length, map, drop, get_or, refl, ap, arith, slice_index, All}
use Rattle.std.specs.List.{list_all}
use Rattle.std.proofs.lemmas.Bool.{eqb-true, ltb-true, and_parts, and_from}
use Rattle.std.proofs.lemmas.List.Elements.{All-take, All-drop}
use Rattle.std.proofs.lemmas.List.Sums.{AllPass-from_list_all}
use Rattle.tmds_word.specs.Column.{Column, column_of}
use Rattle.tmds_word.specs.Bits.{bits_of as number_bits}
use Rattle.terc4.specs.Tables.{video_guard}
use Rattle.island_pack.specs.Periods.{DataIsland, Period, control, video, island, values_of, pixels_of}
use Rattle.island_pack.specs.Conforming.{is_sync_pair, is_packet, is_data_island, conforms}
use Rattle.island_pack.specs.Packets.{IsPacket, BeginsWith, body_of, Carries}
use Rattle.island_pack.specs.Registers.{laid_nibbles, register_words as words_of_nibbles}
use Rattle.island_pack.specs.Spelling.{control_column, guard_columns, column_words, SpellsVideo, SpellsPackets, SpellsIsland, SpellsPeriod, Spells}
use Rattle.island_pack.specs.Laws.{ConformingIsSpelled}
use Rattle.island_pack.specs.declared.packet.Packet.{Packet}
use Rattle.island_pack.proofs.Parts.{each_body}
use Rattle.island_pack.proofs.Parities.{block_of}
use Rattle.island_pack.proofs.Laid.{carried}
use Rattle.island_pack.proofs.Law.{length-body_of}
use Rattle.island_pack.proofs.WordColumns.{carries_columns}
use Rattle.island_pack.proofs.PixelColumns.{no_pixels, pixels_go_on}

pub whole_packet : (p : Packet) → is_packet p ≡ true → IsPacket p
unfolding is_packet
whole_packet p h = grind (arith, and_parts, eqb-true, ltb-true, AllPass-from_list_all)

pub sync_small : (p : Packet) → is_packet p ≡ true → All (λ v. v < 4) p.sync
unfolding is_packet
sync_small p h = grind (arith, and_parts, ltb-true, AllPass-from_list_all)

-- A function's first values.
table : (ℕ → List ℕ) → ℕ → List (List ℕ)
table f zero = []
table f (suc n) = f 0 ∷ table (λ k. f (suc k)) n

length-table : (f : ℕ → List ℕ) (n : ℕ) → length (table f n) ≡ n
unfolding table
length-table f zero = refl
length-table f (suc n) = ap (λ k. suc k) (length-table (λ k. f (suc k)) n)

get_or-table : (f : ℕ → List ℕ) (n k : ℕ) → k < n → get_or (table f n) k [] ≡ f k
unfolding table
get_or-table f zero k lt = absurd (omega arith)
get_or-table f (suc n) zero lt = refl
get_or-table f (suc n) (suc k) lt = get_or-table (λ j. f (suc j)) n k (omega arith)

-- There are columns that carry a packet.
pub packet_spelled : (p : Packet) (first : Bool) → is_packet p ≡ true → (columns : List Column) × Carries p first (map column_words columns)
packet_spelled p first h =
    let whole = whole_packet p h in
    let small = sync_small p h in
    let header = block_of p.header 32 (omega (arith, whole.header)) whole.header_bytes in
    let body = λ (b : ℕ) (lt : b < 4).
    block_of (body_of p b) 64 (omega (arith, length-body_of p whole.bodies b lt)) (All-take (λ byte. byte < 256) 7 (drop (7 * b) p.bodies) (All-drop (λ byte. byte < 256) (7 * b) p.bodies whole.body_bytes)) in
    let body0 = body 0 (omega arith) in
    let body1 = body 1 (omega arith) in
    let body2 = body 2 (omega arith) in
    let body3 = body 3 (omega arith) in
    let bodies = body0.0 ∷ body1.0 ∷ body2.0 ∷ body3.0 ∷ [] in
    let column : ℕ → List ℕ = λ k. words_of_nibbles (laid_nibbles header.0 bodies (slice_index p.sync k) first k) in
    let block = table column 32 in
    let begins : (b : ℕ) → b < 4 → BeginsWith (number_bits 64 (slice_index bodies b)) (body_of p b) =
    each_body (λ b. BeginsWith (number_bits 64 (slice_index bodies b)) (body_of p b)) body0.1 body1.1 body2.1 body3.1 in
    let laid = carried p first block header.0 bodies whole small (length-table column 32) header.1 begins (λ k lt. get_or-table column 32 k lt) in
    (map column_of block, carries_columns p first block laid)

pub packets_spelled : (first : Bool) (ps : List Packet) → list_all is_packet ps ≡ true → (columns : List Column) × SpellsPackets first ps columns
packets_spelled first [] h = ([], refl)
packets_spelled first (p ∷ ps) h =
    let parts = and_parts (is_packet p) (list_all is_packet ps) h in
    let own = packet_spelled p first parts.0 in
    let rest = packets_spelled false ps parts.1 in
    (own.0 ++ rest.0, (own.0, rest.0, refl, own.1, rest.1))

-- There are columns that spell a period whose data island is in its ranges.
pub video_spelled : (bytes : List ℕ) → (columns : List Column) × SpellsVideo bytes columns
video_spelled bytes =
    let pixels = pixels_go_on [] [] (pixels_of bytes) no_pixels in
    (column_of video_guard ∷ column_of video_guard ∷ pixels.0, (pixels.0, refl, pixels.1))

pub island_spelled : (x : DataIsland) → is_data_island x ≡ true → (columns : List Column) × SpellsIsland x columns
unfolding is_data_island
island_spelled x h =
    let others = and_parts (is_sync_pair x.opening && is_sync_pair x.closing) _ h in
    let packets = packets_spelled true x.packets (and_parts (list_all is_packet x.packets) _ others.1).0 in
    (guard_columns x.opening ++ packets.0 ++ guard_columns x.closing, (packets.0, refl, packets.1))

pub has_range : Period → Bool
has_range (control runs) = true
has_range (video bytes) = true
has_range (island x) = is_data_island x

period_spelled : (p : Period) → has_range p ≡ true → (columns : List Column) × SpellsPeriod p columns
unfolding has_range
period_spelled (control runs) h = (map control_column (values_of runs), refl)
period_spelled (video bytes) h = video_spelled bytes
period_spelled (island x) h = island_spelled x h

pub periods_spelled : (ps : List Period) → list_all has_range ps ≡ true → (columns : List Column) × Spells ps columns
periods_spelled [] h = ([], refl)
periods_spelled (p ∷ ps) h =
    let parts = and_parts (has_range p) (list_all has_range ps) h in
    let own = period_spelled p parts.0 in
    let rest = periods_spelled ps parts.1 in
    (own.0 ++ rest.0, (own.0, rest.0, refl, own.1, rest.1))

pub conforming_ranges : (ps : List Period) → conforms ps ≡ true → list_all has_range ps ≡ true
unfolding conforms has_range
conforming_ranges [] h = refl
conforming_ranges (video bytes ∷ ps) h = absurd cc
conforming_ranges (island x ∷ ps) h = absurd cc
conforming_ranges (control runs ∷ []) h = refl
conforming_ranges (control runs ∷ (control more ∷ ps)) h = absurd cc
conforming_ranges (control runs ∷ (video bytes ∷ ps)) h = grind (arith, and_parts, conforming_ranges ps)
conforming_ranges (control runs ∷ (island x ∷ ps)) h = grind (arith, and_parts, and_from, conforming_ranges ps)

pub conforming_is_spelled : ConformingIsSpelled
conforming_is_spelled periods h = periods_spelled periods (conforming_ranges periods h)
