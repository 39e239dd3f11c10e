-- A short stream with a video data period and a data island, as it was sent, as it was received with one damaged word
-- in each, and as it was received with damaged words in a control period and in guard columns too.
use Rattle.std.proofs.Common.{◌≡◌, ℕ, suc, zero, ◌+◌, ◌*◌, ◌<◌, ◌≤◌, Bool, true, false, not, ◌&&◌, ◌||◌, ◌==◌, List, [], ◌∷◌, ◌++◌, map, length, take, drop, get_or, replicate, refl, ap, sym, subst, ◌∙◌, ◌-◌, arith, inl, inr, nat_le, nat_lt}
use Rattle.std.specs.List.{All}
use Rattle.std.proofs.lemmas.Bool.{cases_lt, eqb-true, eq-eqb, leb-true, ltb-true}
use Rattle.std.proofs.lemmas.List.{length-map, length-replicate, get_or_past}
use Rattle.std.proofs.lemmas.List.Elements.{All-replicate, All-from_get_or}
use Rattle.tmds_word.specs.Bits.{bits_of, number, ones, zeros, balance}
use Rattle.tmds_word.specs.Column.{Column, column_of, blues, greens, reds}
use Rattle.tmds_word.proofs.Below.{and-left, and-right, passes_below, passes_at}
use Rattle.tmds_code.specs.Coding.{Coded, null, takes_xnor, minimised, balanced, coded_bits, coded_at}
use Rattle.tmds_code.specs.Lanes.{IsLane, disparity_of}
use Rattle.terc4.specs.Tables.{control_words, terc_words, video_guard, island_guard, value_in, is_in, is_terc}
use Rattle.terc4.specs.Columns.{one_if}
use Rattle.bch_block.specs.Bits.{bit, xor, bits_of_bytes as block_bits}
use Rattle.bch_block.specs.Block.{at, back, IsBlock}
use Rattle.bch_block.proofs.Sums.{equal_bits}
use Rattle.link_laws.proofs.Computed.{or_second, not_true, clash}
use Rattle.island_pack.specs.Nibbles.{nibble_of, nibbles_of, sync_values, header_bits, by_turns, body_bits}
use Rattle.island_pack.specs.Packets.{IsPacket, body_of, BeginsWith, AreTerc, Carries}
use Rattle.island_pack.specs.Periods.{ControlRun, DataIsland, Period, control, video, island, values_of, has_preamble, pixels_of}
use Rattle.island_pack.specs.Conforming.{IsConforming, conforms, is_control_period, is_video_period, is_packet, is_data_island}
use Rattle.island_pack.specs.Spelling.{control_column, SpellsPixels, guard_column, guard_columns, column_words, SpellsIsland, SpellsPeriod, Spells}
use Rattle.island_pack.specs.Kinds.{Kind, control_column as control_kind, first_guard, second_guard, pixel_column, packet_column, kinds_in, kinds_of, kind_at, IsPayload, IsAfterControl}
use Rattle.island_pack.specs.Sparse.{unlike_words, AreFew, no_column, column_at, IsNarrow, unlike_at, IsSparse, SparesUntil, IsSparseInPayload}
use Rattle.island_pack.specs.declared.packet.Packet.{Packet}
use Rattle.link_laws.specs.Laws.{ReceivedOf, AlignsUntil, IsPayloadExample, IsExample}

-- The periods.

abbrev pub times : ℕ → ℕ → ControlRun
times value count = record { value = value; count = count }

-- 16 columns, and the preamble of a video data period
abbrev pub first : List ControlRun
first = times 0 16 ∷ (times 4 8 ∷ [])

-- 4 columns, and the preamble of a data island
abbrev pub second : List ControlRun
second = times 0 4 ∷ (times 20 8 ∷ [])

abbrev pub third : List ControlRun
third = times 0 12 ∷ []

abbrev pub black : List ℕ
black = replicate 3 0

abbrev pub empty : Packet
empty = record { header = replicate 3 0; bodies = replicate 28 0; sync = replicate 32 0 }

abbrev pub one_packet : DataIsland
one_packet = record { opening = record { first = 0; second = 1 }; packets = empty ∷ []; closing = record { first = 2; second = 3 } }

abbrev pub last_period : List Period
last_period = control third ∷ []

abbrev pub from_island : List Period
from_island = island one_packet ∷ last_period

abbrev pub from_second : List Period
from_second = control second ∷ from_island

abbrev pub from_video : List Period
from_video = video black ∷ from_second

unfoldable pub stream : List Period
stream = control first ∷ from_video

pub conforming : IsConforming stream
unfolding stream conforms is_control_period values_of has_preamble is_video_period is_packet is_data_island
conforming = refl

-- The columns.

abbrev pub triple : ℕ → ℕ → ℕ → Column
triple b g r = record { blue = b; green = g; red = r }

abbrev pub pixel_sent : List Column
pixel_sent = triple 0x100 0x100 0x100 ∷ []

-- a control word was received in place of a pixel's word
abbrev pixel_received : List Column
pixel_received = triple 0x354 0x100 0x100 ∷ []

abbrev pub packet_sent : List Column
packet_sent = triple 0x29c 0x29c 0x29c ∷ replicate 31 (triple 0x2cc 0x29c 0x29c)

-- a word of ones was received in place of a packet's word
abbrev packet_received : List Column
packet_received = triple 0x29c 0x29c 0x29c ∷ (replicate 4 (triple 0x2cc 0x29c 0x29c) ++ (triple 0x2cc 0x3ff 0x29c ∷ replicate 26 (triple 0x2cc 0x29c 0x29c)))

abbrev pub control_columns : List ControlRun → List Column
control_columns runs = map control_column (values_of runs)

abbrev pub video_columns : List Column → List Column
video_columns pixels = column_of video_guard ∷ (column_of video_guard ∷ pixels)

abbrev pub island_columns : List Column → List Column
island_columns packet = guard_columns one_packet.opening ++ (packet ++ guard_columns one_packet.closing)

abbrev pub last_columns : List Column
last_columns = control_columns third ++ []

abbrev pub island_on : List Column → List Column
island_on packet = island_columns packet ++ last_columns

abbrev pub second_on : List Column → List Column
second_on packet = control_columns second ++ island_on packet

abbrev pub video_on : List Column → List Column → List Column
video_on pixels packet = video_columns pixels ++ second_on packet

abbrev pub columns : List Column → List Column → List Column
columns pixels packet = control_columns first ++ video_on pixels packet

unfoldable pub sent : List Column
sent = columns pixel_sent packet_sent

unfoldable pub received : List Column
received = columns pixel_received packet_received

-- a guard word was received in place of a control word
abbrev second_damaged : List Column
second_damaged = map control_column (replicate 3 0) ++ (triple 0x354 0x354 0x2cc ∷ map control_column (replicate 8 20))

-- words of pixels were received in place of a word of the first and of the last guard column
abbrev island_damaged : List Column
island_damaged =
    (triple 0x28e 0x100 0x133 ∷ (guard_column 1 ∷ []))
    ++ (packet_received ++ (guard_column 2 ∷ (triple 0x2c3 0x133 0x3ff ∷ [])))

unfoldable pub damaged : List Column
damaged = control_columns first ++ (video_columns pixel_received ++ (second_damaged ++ (island_damaged ++ last_columns)))

-- How a pixel is spelled.

coded_test : coded_at null 0 ≡ 0x100
unfolding coded_at coded_bits takes_xnor minimised balanced bits_of number ones zeros balance
coded_test = refl

lane : IsLane (0 ∷ []) (0x100 ∷ [])
unfolding disparity_of
lane = record { same_length = refl; coded = λ j lt. let e : 0 ≡ j = omega arith in subst (λ j. Coded (disparity_of (take j (0x100 ∷ []))) (get_or (0 ∷ []) j 0) (get_or (0x100 ∷ []) j 0)) e (sym coded_test) }

pub spells_pixels : SpellsPixels (pixels_of black) pixel_sent
unfolding pixels_of
spells_pixels = record { blue = lane; green = lane; red = lane }

-- How a packet of zeros is carried.

unfoldable pub words : List (List ℕ)
words = map column_words packet_sent

no_bytes : (n : ℕ) → All (λ b. b < 256) (replicate n 0)
no_bytes n = All-replicate (λ b. b < 256) n 0 (omega arith)

whole : IsPacket empty
whole = record { header = refl; header_bytes = no_bytes 3; bodies = refl; body_bytes = no_bytes 28; sync = refl }

terc_test : passes_below 3 (λ lane. passes_below 32 (λ k. is_terc (get_or (get_or words k []) lane 0))) ≡ true
unfolding passes_below words is_terc is_in terc_words
terc_test = refl

long_words : length words ≡ 32
unfolding words
long_words = refl

are_terc : (lane : ℕ) → lane < 3 → AreTerc words lane
are_terc lane lt =
    let long = long_words in
    All-from_get_or (λ ws. is_terc (get_or ws lane 0) ≡ true) words []
    (λ k within. passes_at 32 (λ k. is_terc (get_or (get_or words k []) lane 0)) k (passes_at 3 (λ lane. passes_below 32 (λ k. is_terc (get_or (get_or words k []) lane 0))) lane terc_test lt) (omega arith))

sync_test : sync_values words ≡ replicate 32 0
unfolding words sync_values nibbles_of nibble_of value_in terc_words
sync_test = refl

header_test : header_bits words ≡ replicate 32 false
unfolding words header_bits nibbles_of nibble_of value_in terc_words
header_test = refl

body_test_0 : body_bits words 0 ≡ replicate 64 false
unfolding words body_bits by_turns nibbles_of nibble_of value_in terc_words
body_test_0 = refl

body_test_1 : body_bits words 1 ≡ replicate 64 false
unfolding words body_bits by_turns nibbles_of nibble_of value_in terc_words
body_test_1 = refl

body_test_2 : body_bits words 2 ≡ replicate 64 false
unfolding words body_bits by_turns nibbles_of nibble_of value_in terc_words
body_test_2 = refl

body_test_3 : body_bits words 3 ≡ replicate 64 false
unfolding words body_bits by_turns nibbles_of nibble_of value_in terc_words
body_test_3 = refl

mark_test : passes_below 32 (λ i. not (xor (bit (get_or (nibbles_of words 0) i 0) 3) (not (true && (i == 0))))) ≡ true
unfolding passes_below words nibbles_of nibble_of value_in terc_words
mark_test = refl

none_at : (n i : ℕ) → at (replicate n false) i ≡ false
none_at zero i = refl
none_at (suc n) zero = refl
none_at (suc n) (suc i) = none_at n i

none_back : (n k i : ℕ) → back (replicate n false) k i ≡ false
none_back n zero i = none_at n i
none_back n (suc k) zero = refl
none_back n (suc k) (suc i) = none_back n k i

-- zeros are a multiple of the polynomial
zeros_block : (n : ℕ) → 8 ≤ n → IsBlock (replicate n false)
zeros_block n enough =
    let m = n - 8 in
    let a = length-replicate n false in
    let b = length-replicate m false in (
      replicate m false,
      record {
        shorter = omega arith;
        bits = λ i lt. none_at n i ∙ sym (λ j. xor (none_at m i j) (xor (none_back m 1 i j) (xor (none_back m 2 i j) (none_back m 8 i j))));
      },
    )

-- bits of which all are zero carry bytes that are zero
begins : (x : List Bool) (n : ℕ) → x ≡ replicate (8 * n + 8) false → take (8 * n) (replicate (8 * n + 8) false) ≡ block_bits (replicate n 0) → BeginsWith x (replicate n 0)
begins x n is start =
    let long = length-replicate (8 * n + 8) false in
    let bytes : length (replicate {A = ℕ} n 0) ≡ n = length-replicate n 0 in
    let same : 8 * length (replicate {A = ℕ} n 0) ≡ 8 * n = omega arith in
    let all = ap length is in
    record {
      bits = omega arith;
      begins = ap (λ k. take k x) same ∙ ap (take (8 * n)) is ∙ start;
      block = subst IsBlock (sym is) (zeros_block (8 * n + 8) (omega arith));
    }

each_body : (P : ℕ → Type 0) → P 0 → P 1 → P 2 → P 3 → (b : ℕ) → b < 4 → P b
each_body P p q r s zero lt = p
each_body P p q r s (suc zero) lt = q
each_body P p q r s (suc (suc zero)) lt = r
each_body P p q r s (suc (suc (suc zero))) lt = s
each_body P p q r s (suc (suc (suc (suc b)))) lt = absurd (omega arith)

pub carries : Carries empty true words
carries = record {
  free = record {
    whole = whole;
    count = long_words;
    terc = are_terc;
    sync = sync_test;
    header = begins (header_bits words) 3 header_test refl;
    bodies = each_body (λ b. BeginsWith (body_bits words b) (body_of empty b))
        (begins (body_bits words 0) 7 body_test_0 refl)
        (begins (body_bits words 1) 7 body_test_1 refl)
        (begins (body_bits words 2) 7 body_test_2 refl)
        (begins (body_bits words 3) 7 body_test_3 refl);
  };
  mark = λ i lt. equal_bits _ _ (not_true _ (passes_at 32 (λ i. not (xor (bit (get_or (nibbles_of words 0) i 0) 3) (not (true && (i == 0))))) i mark_test lt));
}

-- How the stream is spelled.

spells_more : (p : Period) (ps : List Period) (own rest : List Column) → SpellsPeriod p own → Spells ps rest → Spells (p ∷ ps) (own ++ rest)
spells_more p ps own rest h g = (own, rest, refl, h, g)

spells_packet : SpellsIsland one_packet (island_columns packet_sent)
unfolding words
spells_packet = (packet_sent, refl, (packet_sent, [], refl, carries, refl))

pub spelled : Spells stream sent
unfolding stream sent
spelled =
    spells_more (control first) from_video (control_columns first) (video_on pixel_sent packet_sent) refl
    (spells_more (video black) from_second (video_columns pixel_sent) (second_on packet_sent) (pixel_sent, refl, spells_pixels)
    (spells_more (control second) from_island (control_columns second) (island_on packet_sent) refl
    (spells_more (island one_packet) last_period (island_columns packet_sent) last_columns spells_packet
    (spells_more (control third) [] (control_columns third) [] refl refl))))

-- How the columns were received.

pub long_sent : length sent ≡ 87
unfolding sent values_of video_guard
long_sent = refl

pub long_received : length received ≡ 87
unfolding received values_of video_guard
long_received = refl

pub long_damaged : length damaged ≡ 87
unfolding damaged values_of video_guard
long_damaged = refl

-- of 87 columns, one at each place
each : (P : ℕ → Type 0) → ((i : ℕ) → i < 87 → P i) → ((i : ℕ) → 87 ≤ i → P i) → (i : ℕ) → P i
each P within past i = elim (cases_lt i 87) [
  | inl lt ↦ within i lt
  | inr le ↦ past i le
]

no_more : (cs : List Column) → length cs ≡ 87 → (i : ℕ) → 87 ≤ i → column_at cs i ≡ no_column
no_more cs long i le = get_or_past cs i no_column (omega arith)

unlike_past : (cs : List Column) → length cs ≡ 87 → (i : ℕ) → 87 ≤ i → unlike_at sent cs i ≡ 0
unfolding unlike_words one_if
unlike_past cs long i le = grind (arith, long_sent, no_more)

abbrev pub is_narrow : Column → Bool
is_narrow c = nat_lt c.blue 1024 && (nat_lt c.green 1024 && nat_lt c.red 1024)

pub narrow_column : (c : Column) → is_narrow c ≡ true → IsNarrow c
narrow_column c h =
    let r = and-right (nat_lt c.blue 1024) _ h in
    record { blue = ltb-true _ _ (and-left _ _ h); green = ltb-true _ _ (and-left _ _ r); red = ltb-true _ _ (and-right (nat_lt c.green 1024) _ r) }

abbrev pub are_narrow : List Column → Bool
are_narrow cs = passes_below 87 (λ i. is_narrow (column_at cs i))

-- of two columns in a row at most one word is unlike
abbrev one_of_two : List Column → Bool
one_of_two cs = passes_below 87 (λ i. nat_le (unlike_at sent cs i + unlike_at sent cs (i + 1)) 1)

abbrev two_in_eleven : List ℕ → List ℕ → Bool
two_in_eleven xs ys = passes_below 77 (λ i. nat_le (unlike_words (take 11 (drop i xs)) (take 11 (drop i ys))) 2)

few : (xs ys : List ℕ) → length xs ≡ 87 → two_in_eleven xs ys ≡ true → AreFew xs ys
few xs ys long test i within = leb-true _ _ (passes_at 77 (λ i. nat_le (unlike_words (take 11 (drop i xs)) (take 11 (drop i ys))) 2) i test (omega arith))

sparse : (cs : List Column) → length cs ≡ 87 → are_narrow cs ≡ true → one_of_two cs ≡ true
    → two_in_eleven (blues sent) (blues cs) ≡ true → two_in_eleven (greens sent) (greens cs) ≡ true → two_in_eleven (reds sent) (reds cs) ≡ true → IsSparse stream sent cs
sparse cs long narrow two blue green red =
    let s = long_sent in
    let pair : (i : ℕ) → unlike_at sent cs i + unlike_at sent cs (i + 1) ≤ 1 = each (λ i. unlike_at sent cs i + unlike_at sent cs (i + 1) ≤ 1)
    (λ i lt. leb-true _ _ (passes_at 87 (λ i. nat_le (unlike_at sent cs i + unlike_at sent cs (i + 1)) 1) i two lt))
    (λ i le. let a = unlike_past cs long i le in let b = unlike_past cs long (i + 1) (omega arith) in omega arith) in
    record {
      same_length = omega arith;
      characters = λ i lt. narrow_column _ (passes_at 87 (λ i. is_narrow (column_at cs i)) i narrow (omega arith));
      one_a_column = λ i. let both = pair i in omega arith;
      one_a_pair = λ i e. pair i;
      few_blue = few (blues sent) (blues cs) (length-map sent (λ c. c.blue) ∙ s) blue;
      few_green = few (greens sent) (greens cs) (length-map sent (λ c. c.green) ∙ s) green;
      few_red = few (reds sent) (reds cs) (length-map sent (λ c. c.red) ∙ s) red;
    }

-- where damage is spared

abbrev pub pays : Kind → Bool
pays control_kind = false
pays first_guard = false
pays second_guard = false
pays pixel_column = true
pays packet_column = true

pub pays_not : (k : Kind) → (IsPayload k → ⊥) → pays k ≡ false
pays_not k h = grind arith

abbrev pub is_same : Column → Column → Bool
is_same c d = (c.blue == d.blue) && ((c.green == d.green) && (c.red == d.red))

pub same_columns : (c d : Column) → is_same c d ≡ true → c ≡ d
same_columns c d h = grind (arith, and-right, eqb-true, and-left)

abbrev pays_or_same : List Column → ℕ → Bool
pays_or_same cs i = pays (kind_at (kinds_of stream) i) || is_same (column_at cs i) (column_at sent i)

same_at : (cs : List Column) (n i : ℕ) → passes_below n (pays_or_same cs) ≡ true → i < n → (IsPayload (kind_at (kinds_of stream) i) → ⊥) → column_at cs i ≡ column_at sent i
same_at cs n i test lt h = same_columns _ _ (or_second _ _ (passes_at n (pays_or_same cs) i test lt) (pays_not (kind_at (kinds_of stream) i) h))

-- With a damaged pixel and a damaged packet.

received_narrow : are_narrow received ≡ true
unfolding passes_below received values_of control_words terc_words video_guard island_guard
received_narrow = refl

received_two : one_of_two received ≡ true
unfolding passes_below unlike_words one_if sent received values_of control_words terc_words video_guard island_guard
received_two = refl

received_blue : two_in_eleven (blues sent) (blues received) ≡ true
unfolding passes_below unlike_words one_if sent received values_of control_words terc_words video_guard island_guard
received_blue = refl

received_green : two_in_eleven (greens sent) (greens received) ≡ true
unfolding passes_below unlike_words one_if sent received values_of control_words terc_words video_guard island_guard
received_green = refl

received_red : two_in_eleven (reds sent) (reds received) ≡ true
unfolding passes_below unlike_words one_if sent received values_of control_words terc_words video_guard island_guard
received_red = refl

received_spares : passes_below 87 (pays_or_same received) ≡ true
unfolding passes_below stream kinds_of kinds_in sent received values_of control_words terc_words video_guard island_guard
received_spares = refl

pub reception : ReceivedOf stream sent received
reception = record {
  conforming = conforming;
  spelled = spelled;
  sparse = sparse received long_received received_narrow received_two received_blue received_green received_red;
}

pub alone : IsSparseInPayload stream sent received
alone = record {
  sparse = reception.sparse;
  spares = λ f i le h. each (λ i. (IsPayload (kind_at (kinds_of stream) i) → ⊥) → column_at received i ≡ column_at sent i)
      (λ i lt h. same_at received 87 i received_spares lt h)
      (λ i le h. no_more received long_received i le ∙ sym (no_more sent long_sent i le)) i h;
}

-- With damaged control and guard words besides.

damaged_narrow : are_narrow damaged ≡ true
unfolding passes_below damaged values_of control_words terc_words video_guard island_guard
damaged_narrow = refl

damaged_two : one_of_two damaged ≡ true
unfolding passes_below unlike_words one_if sent damaged values_of control_words terc_words video_guard island_guard
damaged_two = refl

damaged_blue : two_in_eleven (blues sent) (blues damaged) ≡ true
unfolding passes_below unlike_words one_if sent damaged values_of control_words terc_words video_guard island_guard
damaged_blue = refl

damaged_green : two_in_eleven (greens sent) (greens damaged) ≡ true
unfolding passes_below unlike_words one_if sent damaged values_of control_words terc_words video_guard island_guard
damaged_green = refl

damaged_red : two_in_eleven (reds sent) (reds damaged) ≡ true
unfolding passes_below unlike_words one_if sent damaged values_of control_words terc_words video_guard island_guard
damaged_red = refl

damaged_spares : passes_below 25 (pays_or_same damaged) ≡ true
unfolding passes_below stream kinds_of kinds_in sent damaged values_of control_words terc_words video_guard island_guard
damaged_spares = refl

pub received_damaged : ReceivedOf stream sent damaged
received_damaged = record {
  conforming = conforming;
  spelled = spelled;
  sparse = sparse damaged long_damaged damaged_narrow damaged_two damaged_blue damaged_green damaged_red;
}

pub damaged_spared : SparesUntil stream sent damaged 24
damaged_spared i le h = same_at damaged 25 i damaged_spares (omega arith) h

pub after_first : IsAfterControl (kinds_of stream) 24
unfolding stream kinds_of kinds_in values_of
after_first = record { before = (23, refl, refl); opens = refl }

-- The damaged columns.

unlike_column : (cs : List Column) (i : ℕ) → is_same (column_at cs i) (column_at sent i) ≡ false → column_at cs i ≡ column_at sent i → ⊥
unlike_column cs i test e = grind (arith, clash, eq-eqb)

pixel_kind : kind_at (kinds_of stream) 26 ≡ pixel_column
unfolding stream kinds_of kinds_in values_of
pixel_kind = refl

packet_kind : kind_at (kinds_of stream) 46 ≡ packet_column
unfolding stream kinds_of kinds_in values_of
packet_kind = refl

word_kind : kind_at (kinds_of stream) 30 ≡ control_kind
unfolding stream kinds_of kinds_in values_of
word_kind = refl

first_kind : kind_at (kinds_of stream) 39 ≡ first_guard
unfolding stream kinds_of kinds_in values_of
first_kind = refl

second_kind : kind_at (kinds_of stream) 74 ≡ second_guard
unfolding stream kinds_of kinds_in values_of
second_kind = refl

received_pixel : is_same (column_at received 26) (column_at sent 26) ≡ false
unfolding received sent values_of control_words terc_words video_guard island_guard
received_pixel = refl

received_packet : is_same (column_at received 46) (column_at sent 46) ≡ false
unfolding received sent values_of control_words terc_words video_guard island_guard
received_packet = refl

damaged_pixel : is_same (column_at damaged 26) (column_at sent 26) ≡ false
unfolding damaged sent values_of control_words terc_words video_guard island_guard
damaged_pixel = refl

damaged_packet : is_same (column_at damaged 46) (column_at sent 46) ≡ false
unfolding damaged sent values_of control_words terc_words video_guard island_guard
damaged_packet = refl

damaged_word : is_same (column_at damaged 30) (column_at sent 30) ≡ false
unfolding damaged sent values_of control_words terc_words video_guard island_guard
damaged_word = refl

damaged_first : is_same (column_at damaged 39) (column_at sent 39) ≡ false
unfolding damaged sent values_of control_words terc_words video_guard island_guard
damaged_first = refl

damaged_second : is_same (column_at damaged 74) (column_at sent 74) ≡ false
unfolding damaged sent values_of control_words terc_words video_guard island_guard
damaged_second = refl

pub payload_example : IsPayloadExample stream sent received
payload_example = record {
  reception = reception;
  alone = alone;
  pixel = (26, pixel_kind, unlike_column received 26 received_pixel);
  packet = (46, packet_kind, unlike_column received 46 received_packet);
}

pub damaged_example : (counts : List ℕ) → AlignsUntil stream sent damaged 7 (0 ∷ 70 ∷ 35 ∷ []) counts 24 → IsExample stream sent damaged counts 24
damaged_example counts aligns = record {
  reception = received_damaged;
  aligns = aligns;
  pixel = (26, pixel_kind, unlike_column damaged 26 damaged_pixel);
  packet = (46, packet_kind, unlike_column damaged 46 damaged_packet);
  word = (30, word_kind, unlike_column damaged 30 damaged_word);
  first = (39, first_kind, unlike_column damaged 39 damaged_first);
  second = (74, second_kind, unlike_column damaged 74 damaged_second);
}
