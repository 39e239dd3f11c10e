-- A packet that stands in an island of two packets: no word of the first one was received as it was sent, and a control column comes after the
-- second.
use Rattle.std.proofs.Common.{◌≡◌, ℕ, ◌+◌, ◌-◌, ◌*◌, ◌<◌, ◌≤◌, Bool, true, false, not, ◌==◌, List, [], ◌∷◌, ◌++◌, length, map, take, drop, replicate, refl, zero, suc, ap, sym, ◌∙◌, subst, arith, eqb-true, slice_get}
use Rattle.std.specs.Prelude.{slice_index}
use Rattle.std.proofs.lemmas.List.{length-map, take-append-drop, get_or-take}
use Rattle.tmds_word.specs.Column.{Column, blues, greens, reds}
use Rattle.tmds_word.specs.Taps.{part_of, IsPart, IsTap}
use Rattle.tmds_word.proofs.Below.{passes_below, passes_at}
use Rattle.terc4.specs.Columns.{one_if, is_control_column, is_twelve_or_more, video_words, closing_words, island_words, closes}
use Rattle.terc4.specs.Tables.{control_words, terc_words, video_guard, island_guard, value_in, is_control, is_in}
use Rattle.lane_align.specs.Words.{words_from}
use Rattle.lane_align.proofs.Words.{length-words_from}
use Rattle.lane_deskew.specs.Aligned.{aligned_columns}
use Rattle.island_pack.specs.Conforming.{IsConforming, conforms, is_control_period, is_video_period, is_packet, is_data_island}
use Rattle.island_pack.specs.Kinds.{kinds_in, kinds_of, IsAfterControl}
use Rattle.island_pack.specs.Periods.{DataIsland, Period, control, video, island, values_of, has_preamble, columns_of}
use Rattle.island_pack.specs.Sparse.{unlike_words, unlike_at, column_at, IsNarrow, IsSparse, SparesUntil}
use Rattle.island_pack.specs.Spelling.{control_column, guard_column, guard_columns, column_words, SpellsPeriodBy, SpellsBy, freely}
use Rattle.period_grammar.specs.Heard.{opened, island as opens_island}
use Rattle.period_grammar.specs.Island.{begins_close}
use Rattle.link_laws.specs.Laws.{BeginColumn, HoldsEnd, AlignsUntil}
use Rattle.link_laws.specs.Local.{ReceivedUntil, PacketStands, HasPacketExample}
use Rattle.link_laws.proofs.Computed.{not_true}
use Rattle.link_laws.proofs.Example.{skews}
use Rattle.link_laws.proofs.Freely.{spared}
use Rattle.link_laws.proofs.LocalExample.{front, before_it, many_columns, length-part}
use Rattle.link_laws.proofs.Stream.{triple, first, second, third, black, empty, last_period, last_columns, pixel_sent, packet_sent, control_columns, video_columns, words, carries, spells_pixels, is_narrow, narrow_column}

-- What is sent.

abbrev two : DataIsland
two = record { opening = record { first = 0; second = 1 }; packets = empty ∷ (empty ∷ []); closing = record { first = 2; second = 3 } }

abbrev from_island : List Period
from_island = island two ∷ last_period

abbrev periods : List Period
periods = front ++ from_island

conforming : IsConforming periods
unfolding conforms is_control_period values_of has_preamble is_video_period is_packet is_data_island
conforming = refl

-- an island of these packets and guards after them, with what comes before it and after it
abbrev island_columns : List Column → List Column → List Column
island_columns packets closing = guard_columns two.opening ++ (packets ++ closing)

abbrev second_on : List Column → List Column
second_on own = control_columns second ++ (own ++ last_columns)

abbrev video_on : List Column → List Column
video_on own = video_columns pixel_sent ++ second_on own

abbrev columns : List Column → List Column
columns own = control_columns first ++ video_on own

abbrev packets_sent : List Column
packets_sent = packet_sent ++ (packet_sent ++ [])

abbrev own_sent : List Column
own_sent = island_columns packets_sent (guard_columns two.closing)

unfoldable sent : List Column
sent = columns own_sent

spells_more : (p : Period) (ps : List Period) (own rest : List Column) → SpellsPeriodBy freely p own → SpellsBy freely ps rest → SpellsBy freely (p ∷ ps) (own ++ rest)
spells_more p ps own rest h g = (own, rest, refl, h, g)

spells_island : SpellsPeriodBy freely (island two) own_sent
unfolding words
spells_island = (packets_sent, refl, (packet_sent, packet_sent ++ [], refl, carries.free, (packet_sent, [], refl, carries.free, refl)))

spelled : SpellsBy freely periods sent
unfolding sent
spelled =
    spells_more (control first) (video black ∷ (control second ∷ from_island)) (control_columns first) (video_on own_sent) refl
    (spells_more (video black) (control second ∷ from_island) (video_columns pixel_sent) (second_on own_sent) (pixel_sent, refl, spells_pixels)
    (spells_more (control second) from_island (control_columns second) (own_sent ++ last_columns) refl
    (spells_more (island two) last_period own_sent last_columns spells_island
    (spells_more (control third) [] (control_columns third) [] refl refl))))

-- What is received: no word of a lost column is as it was sent; one of them is a control word.

unfoldable received : List Column
received = columns (island_columns (replicate 32 (triple 0x354 0x3ff 0x133) ++ packet_sent) (map control_column (replicate 2 0)))

long_sent : length sent ≡ 119
unfolding sent values_of video_guard
long_sent = refl

long : length received ≡ 119
unfolding received values_of video_guard
long = refl

narrow_sent : passes_below 119 (λ i. is_narrow (column_at sent i)) ≡ true
unfolding passes_below sent values_of control_words terc_words video_guard island_guard
narrow_sent = refl

narrow_received : passes_below 119 (λ i. is_narrow (column_at received i)) ≡ true
unfolding passes_below received values_of control_words terc_words video_guard island_guard
narrow_received = refl

are_characters : (cs : List Column) → passes_below 119 (λ i. is_narrow (column_at cs i)) ≡ true → (i : ℕ) → i < 119 → IsNarrow (column_at cs i)
are_characters cs narrow i lt = narrow_column _ (passes_at 119 (λ i. is_narrow (column_at cs i)) i narrow lt)

same_front : take 25 received ≡ take 25 sent
unfolding sent received values_of control_words video_guard
same_front = refl

spliced : take 25 received ++ drop 25 sent ≡ sent
spliced = ap (λ cs. cs ++ drop 25 sent) same_front ∙ take-append-drop 25 sent

spares : SparesUntil periods sent received 24
spares i le h = sym (get_or-take 25 received i _ (omega arith)) ∙ ap (λ cs. column_at cs i) same_front ∙ get_or-take 25 sent i _ (omega arith)

reception : ReceivedUntil periods sent received 24
reception =
    let l = long in
    let s = long_sent in
    record {
      conforming = conforming;
      spelled = spelled;
      same_length = long ∙ sym long_sent;
      sparse = subst (IsSparse periods sent) (sym spliced) (spared periods sent (λ i lt. are_characters sent narrow_sent i (omega arith)));
      characters = λ i lt. are_characters received narrow_received i (omega arith);
    }

-- The tap.

abbrev counts : List ℕ
counts = 1183 ∷ (1113 ∷ (1148 ∷ []))

part : (lane : List ℕ) (from many : ℕ) → length lane ≡ 119 → from + many ≤ 1190 → IsPart lane from many (part_of lane from many)
part lane from many long le = record { within = omega arith; bits_are = refl }

long_lane : (g : Column → ℕ) → length (map g received) ≡ 119
long_lane g = length-map received g ∙ long

tapped : IsTap received 7 skews counts (part_of (blues received) 7 1183) (part_of (greens received) 77 1113) (part_of (reds received) 42 1148)
tapped = record {
  blue_part = part (blues received) 7 1183 (long_lane (λ c. c.blue)) (omega arith);
  green_part = part (greens received) 77 1113 (long_lane (λ c. c.green)) (omega arith);
  red_part = part (reds received) 42 1148 (long_lane (λ c. c.red)) (omega arith);
}

each_lane : (P : ℕ → Type 0) → P 0 → P 1 → P 2 → (lane : ℕ) → lane < 3 → P lane
each_lane P p q r zero lt = p
each_lane P p q r (suc zero) lt = q
each_lane P p q r (suc (suc zero)) lt = r
each_lane P p q r (suc (suc (suc lane))) lt = absurd (omega arith)

holds : HoldsEnd 7 skews counts 24
holds = record {
  begins = each_lane (λ lane. 7 + slice_index skews lane + 120 ≤ 10 * 24) (omega arith) (omega arith) (omega arith);
  reaches = each_lane (λ lane. 10 * 24 + 10 ≤ 7 + slice_index skews lane + slice_index counts lane) (omega arith) (omega arith) (omega arith);
}

after_first : IsAfterControl (kinds_of periods) 24
unfolding kinds_of kinds_in values_of
after_first = record { before = (23, refl, refl); opens = refl }

aligns : AlignsUntil periods sent received 7 skews counts 24
aligns = record { after = after_first; spares = spares; holds = holds }

within : (a d e f : ℕ) → BeginColumn 7 skews (a + 12) d e f → 105 ≤ a + length (aligned_columns (part_of (blues received) 7 1183) (part_of (greens received) 77 1113) (part_of (reds received) 42 1148) d e f)
unfolding aligned_columns
within a d e f at =
    let x = part_of (blues received) 7 1183 in
    let y = part_of (greens received) 77 1113 in
    let z = part_of (reds received) 42 1148 in
    let l1 = long_lane (λ c. c.blue) in
    let l2 = long_lane (λ c. c.green) in
    let l3 = long_lane (λ c. c.red) in
    let lx = length-part (blues received) 7 1183 (omega arith) in
    let ly = length-part (greens received) 77 1113 (omega arith) in
    let lz = length-part (reds received) 42 1148 (omega arith) in
    let wx = length-words_from x (d - 120) in
    let wy = length-words_from y (e - 120) in
    let wz = length-words_from z (f - 120) in
    let p = at.blue in
    let q = at.green in
    let r = at.red in
    let n = many_columns (105 - a) (words_from x (d - 120)) (words_from y (e - 120)) (words_from z (f - 120)) (omega arith) (omega arith) (omega arith) in
    omega arith

-- The packet.

before : is_control_column (column_at received 38) ≡ true
unfolding received values_of control_words video_guard is_control_column is_control is_in one_if
before = refl

opens : opened (column_at received 39) (column_at received 40) ≡ opens_island
unfolding received values_of terc_words video_guard island_guard value_in is_twelve_or_more one_if video_words closing_words island_words
opens = refl

-- no control column from the guard on to the packet's end
none : passes_below 66 (λ i. not (is_control_column (column_at received (39 + i)))) ≡ true
unfolding passes_below received values_of control_words terc_words video_guard island_guard is_control_column is_control is_in one_if
none = refl

open_first : begins_close (drop 41 received) ≡ false
unfolding received values_of terc_words video_guard island_guard one_if closing_words closes
open_first = refl

open_second : begins_close (drop 73 received) ≡ false
unfolding received values_of terc_words video_guard island_guard one_if closing_words closes
open_second = refl

broken : is_control_column (column_at received 105) ≡ true
unfolding received values_of control_words terc_words video_guard is_control_column is_control is_in one_if
broken = refl

going : (i : ℕ) → 39 ≤ i → i < 39 + 34 + 32 * 1 → is_control_column (column_at received i) ≡ false
going i low high =
    let k = i - 39 in
    let e : 39 + k ≡ i = omega arith in
    ap (λ n. is_control_column (column_at received n)) (sym e) ∙ not_true (is_control_column (column_at received (39 + k))) (passes_at 66 (λ n. not (is_control_column (column_at received (39 + n)))) k none (omega arith))

unshut : (i : ℕ) → i ≤ 1 → begins_close (drop (39 + 2 + 32 * i) received) ≡ false
unshut zero le = open_first
unshut (suc zero) le = open_second
unshut (suc (suc i)) le = absurd (omega arith)

stands : PacketStands received 39 1
stands = record { after = omega arith; control = before; opens = opens; going = going; unshut = unshut }

-- so many columns from one on have so many damaged words each
abbrev unlike_from : ℕ → ℕ → Bool
unlike_from from many = passes_below 32 (λ n. unlike_at sent received (from + n) == many)

all_unlike : unlike_from 41 3 ≡ true
unfolding passes_below unlike_words one_if sent received values_of control_words terc_words video_guard island_guard
all_unlike = refl

none_unlike : unlike_from 73 0 ≡ true
unfolding passes_below unlike_words one_if sent received values_of control_words terc_words video_guard island_guard
none_unlike = refl

unlike_is : (from many : ℕ) → unlike_from from many ≡ true → (i : ℕ) → from ≤ i → i < from + 32 → unlike_at sent received i ≡ many
unlike_is from many test i low high =
    let at : from + (i - from) ≡ i = omega arith in
    subst (λ n. unlike_at sent received n ≡ many) at (eqb-true (unlike_at sent received (from + (i - from))) many (passes_at 32 (λ n. unlike_at sent received (from + n) == many) (i - from) test (omega arith)))

pub packet_example : HasPacketExample
packet_example =
    let b = before_it in (
      front,
      two,
      last_period,
      1,
      empty,
      sent,
      received,
      counts,
      24,
      part_of (blues received) 7 1183,
      part_of (greens received) 77 1113,
      part_of (reds received) 42 1148,
      record {
        reception = reception;
        tapped = tapped;
        aligns = aligns;
        packet = refl;
        stands = subst (λ j. PacketStands received j 1) (sym before_it) stands;
        second = omega arith;
        lost = λ i low high. unlike_is 41 3 all_unlike i (omega arith) (omega arith);
        as_sent = λ i low high. unlike_is 73 0 none_unlike i (omega arith) (omega arith);
        broken = subst (λ j. is_control_column (column_at received (j + 34 + 32 * 1)) ≡ true) (sym before_it) broken;
        later = omega arith;
        within = λ a d e f at. let w = within a d e f at in omega arith;
      },
    )
