-- The short stream with a pixel of which no word was received as it was sent: the data island after it stands alone.
use Rattle.std.proofs.Common.{◌≡◌, ℕ, suc, zero, ◌+◌, ◌-◌, ◌*◌, ◌<◌, ◌≤◌, true, List, [], ◌∷◌, ◌++◌, length, map, take, drop, refl, ap, sym, ◌∙◌, subst, arith, length-drop, length-take-le}
use Rattle.std.specs.List.{list_all}
use Rattle.std.proofs.lemmas.List.{length-map, take-append-drop, get_or-take, get_or-drop}
use Rattle.tmds_word.specs.Bits.{row_bits}
use Rattle.tmds_word.specs.Column.{Column, blues, greens, reds}
use Rattle.tmds_word.specs.Taps.{part_of}
use Rattle.tmds_word.specs.Words.{columns_of as lane_columns}
use Rattle.tmds_word.proofs.Below.{passes_below, passes_at}
use Rattle.tmds_word.proofs.Lists.{length-row_bits}
use Rattle.terc4.specs.Tables.{control_words, video_guard, island_guard, terc_words, is_control, is_in}
use Rattle.terc4.specs.Columns.{one_if, is_control_column}
use Rattle.lane_align.specs.Words.{words_from}
use Rattle.lane_align.proofs.Words.{length-words_from}
use Rattle.lane_deskew.specs.Aligned.{aligned_columns}
use Rattle.island_pack.specs.Conforming.{is_packet, is_data_island}
use Rattle.island_pack.specs.Periods.{Period, control, video, island, values_of, period_columns, columns_of}
use Rattle.island_pack.specs.Sparse.{unlike_words, unlike_at, column_at, IsNarrow, IsSparse, SparesUntil}
use Rattle.link_laws.specs.Laws.{BeginColumn, AlignsUntil}
use Rattle.link_laws.specs.Local.{ReceivedUntil, StandsAlone, is_between, part_at, twelve_before, IsLocalExample, HasLocalExample}
use Rattle.link_laws.proofs.Example.{skews, counts, tapped, aligns}
use Rattle.link_laws.proofs.Freely.{free_spelled, spared}
use Rattle.link_laws.proofs.Stream.{triple, columns, packet_sent, first, second, black, one_packet, last_period, stream, sent, conforming, spelled, long_sent, is_narrow, narrow_column, are_narrow}

-- no word of the pixel was received as it was sent
abbrev pixel_lost : List Column
pixel_lost = triple 0x354 0x3ff 0x2cc ∷ []

unfoldable pub received : List Column
received = columns pixel_lost packet_sent

abbrev pub front : List Period
front = control first ∷ (video black ∷ (control second ∷ []))

-- the island
abbrev pub alone : Period
alone = island one_packet

whole : stream ≡ front ++ (alone ∷ last_period)
unfolding stream
whole = refl

pub long : length received ≡ 87
unfolding received values_of video_guard
long = refl

pub before_it : columns_of front ≡ 39
unfolding columns_of period_columns values_of
before_it = refl

size : period_columns alone ≡ 36
unfolding period_columns
size = refl

lost : unlike_at sent received 26 ≡ 3
unfolding unlike_words one_if sent received values_of control_words terc_words video_guard island_guard
lost = refl

narrow_received : are_narrow received ≡ true
unfolding passes_below received values_of control_words terc_words video_guard island_guard
narrow_received = refl

narrow_sent : are_narrow sent ≡ true
unfolding passes_below sent values_of control_words terc_words video_guard island_guard
narrow_sent = refl

are_characters : (cs : List Column) → are_narrow cs ≡ true → (i : ℕ) → i < 87 → IsNarrow (column_at cs i)
are_characters cs narrow i lt = narrow_column _ (passes_at 87 (λ i. is_narrow (column_at cs i)) i narrow lt)

-- To the column until which the tap is aligned the columns were received as they were sent.

same_front : take 25 received ≡ take 25 sent
unfolding sent received values_of control_words video_guard
same_front = refl

spliced : take 25 received ++ drop 25 sent ≡ sent
spliced = ap (λ cs. cs ++ drop 25 sent) same_front ∙ take-append-drop 25 sent

sparse : IsSparse stream sent (take 25 received ++ drop 25 sent)
sparse =
    let l = long_sent in
    subst (IsSparse stream sent) (sym spliced) (spared stream sent (λ i lt. are_characters sent narrow_sent i (omega arith)))

spares : SparesUntil stream sent received 24
spares i le h =
    sym (get_or-take 25 received i _ (omega arith)) ∙ ap (λ cs. column_at cs i) same_front ∙ get_or-take 25 sent i _ (omega arith)

reception : ReceivedUntil stream sent received 24
reception =
    let l = long in
    record {
      conforming = conforming;
      spelled = free_spelled stream sent spelled;
      same_length = long ∙ sym long_sent;
      sparse = sparse;
      characters = λ i lt. are_characters received narrow_received i (omega arith);
    }

-- The island.

same_island : part_at 39 alone received ≡ part_at 39 alone sent
unfolding sent received period_columns values_of control_words video_guard
same_island = refl

twelve : list_all is_control_column (twelve_before 39 received) ≡ true
unfolding received values_of control_words terc_words video_guard is_control_column is_control is_in one_if
twelve = refl

many : length (twelve_before 39 received) ≡ 12
unfolding received values_of video_guard
many = refl

next : is_control_column (column_at received 75) ≡ true
unfolding received values_of control_words terc_words video_guard island_guard is_control_column is_control is_in one_if
next = refl

own_narrow : (i : ℕ) → i < length (part_at 39 alone sent) → IsNarrow (column_at (part_at 39 alone sent) i)
own_narrow i lt =
    let l = long_sent in
    let n = size in
    let d = length-drop 39 sent in
    let t = length-take-le (period_columns alone) (drop 39 sent) (omega arith) in
    subst IsNarrow (sym (get_or-take (period_columns alone) (drop 39 sent) i _ (omega arith) ∙ get_or-drop 39 sent i _)) (are_characters sent narrow_sent (39 + i) (omega arith))

stands : StandsAlone received alone sent 39
stands =
    let m = many in
    let n = size in
    record {
      sparse = subst (IsSparse (alone ∷ []) (part_at 39 alone sent)) (sym same_island) (spared (alone ∷ []) (part_at 39 alone sent) own_narrow);
      before = record { long = omega arith; all = twelve };
      next = ap (λ k. is_control_column (column_at received (39 + k))) size ∙ next;
    }

between : is_between alone ≡ true
unfolding is_data_island is_packet
between = refl

-- The columns of the tap go on past it.

pub many_columns : (n : ℕ) (xs ys zs : List ℕ) → n ≤ length xs → n ≤ length ys → n ≤ length zs → n ≤ length (lane_columns xs ys zs)
unfolding lane_columns
many_columns zero xs ys zs a b c = omega arith
many_columns (suc n) [] ys zs a b c = absurd (omega arith)
many_columns (suc n) (x ∷ xs) [] zs a b c = absurd (omega arith)
many_columns (suc n) (x ∷ xs) (y ∷ ys) [] a b c = absurd (omega arith)
many_columns (suc n) (x ∷ xs) (y ∷ ys) (z ∷ zs) a b c = let ih = many_columns n xs ys zs (omega arith) (omega arith) (omega arith) in omega arith

pub length-part : (words : List ℕ) (from count : ℕ) → from + count ≤ 10 * length words → length (part_of words from count) ≡ count
length-part words from count le =
    let r = length-row_bits words in
    let d = length-drop from (row_bits words) in
    length-take-le count (drop from (row_bits words)) (omega arith)

long_lane : (g : Column → ℕ) → length (map g received) ≡ 87
long_lane g = length-map received g ∙ long

within : (a d e f : ℕ) → BeginColumn 7 skews (a + 12) d e f → 75 < a + length (aligned_columns (part_of (blues received) 7 863) (part_of (greens received) 77 793) (part_of (reds received) 42 828) d e f)
unfolding aligned_columns
within a d e f at =
    let x = part_of (blues received) 7 863 in
    let y = part_of (greens received) 77 793 in
    let z = part_of (reds received) 42 828 in
    let l1 = long_lane (λ c. c.blue) in
    let l2 = long_lane (λ c. c.green) in
    let l3 = long_lane (λ c. c.red) in
    let lx = length-part (blues received) 7 863 (omega arith) in
    let ly = length-part (greens received) 77 793 (omega arith) in
    let lz = length-part (reds received) 42 828 (omega arith) in
    let wx = length-words_from x (d - 120) in
    let wy = length-words_from y (e - 120) in
    let wz = length-words_from z (f - 120) in
    let p = at.blue in
    let q = at.green in
    let r = at.red in
    let n = many_columns (76 - a) (words_from x (d - 120)) (words_from y (e - 120)) (words_from z (f - 120)) (omega arith) (omega arith) (omega arith) in
    omega arith

pub is_local_example : IsLocalExample front alone last_period sent received counts 24 (part_of (blues received) 7 863) (part_of (greens received) 77 793) (part_of (reds received) 42 828)
is_local_example =
    let b = before_it in
    let s = size in
    record {
      reception = subst (λ ps. ReceivedUntil ps sent received 24) whole reception;
      tapped = tapped received long;
      aligns = subst (λ ps. AlignsUntil ps sent received 7 skews counts 24) whole (aligns received spares);
      damaged = (26, omega arith, omega arith, lost);
      between = between;
      alone = subst (StandsAlone received alone sent) (sym before_it) stands;
      later = omega arith;
      within = λ a d e f at. let w = within a d e f at in omega arith;
    }

pub local_example : HasLocalExample
local_example = (front, alone, last_period, sent, received, counts, 24, _, _, _, is_local_example)
