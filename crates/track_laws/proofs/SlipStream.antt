-- A short stream of two lines received with two damaged pixels of the first: the first of them, and the last of them as
-- a control word.
use Rattle.std.proofs.Common.{◌≡◌, ℕ, suc, zero, ◌+◌, ◌<◌, ◌≤◌, Bool, true, false, ◌&&◌, ◌||◌, ◌==◌, List, [], ◌∷◌, ◌++◌, map, length, take, drop, get_or, replicate, refl, ap₂, sym, ◌∙◌, arith, inl, inr, nat_le, nat_lt}
use Rattle.std.specs.Prelude.{ℤ, pos, ◌+ℤ◌}
use Rattle.std.proofs.lemmas.Bool.{cases_lt, cases_Bool, eqb-true, eq-eqb, leb-true, ltb-true}
use Rattle.std.proofs.lemmas.List.{length-map, length-replicate, get_or_past, get_or-replicate}
use Rattle.tmds_word.specs.Bits.{bits_of, word_bits, number, ones, zeros, balance}
use Rattle.tmds_word.specs.Column.{Column, column_of, blues, greens, reds}
use Rattle.tmds_word.proofs.Below.{and-left, and-right, passes_below, passes_at}
use Rattle.link_laws.proofs.Stream.{pays, pays_not, is_same, same_columns}
use Rattle.tmds_code.specs.Coding.{null, takes_xnor, minimised, balanced, coded_bits, coded_at}
use Rattle.tmds_code.specs.Lanes.{IsLane, disparity_of}
use Rattle.terc4.specs.Tables.{control_words, video_guard}
use Rattle.terc4.specs.Columns.{one_if}
use Rattle.link_laws.proofs.Computed.{or_second, clash}
use Rattle.island_pack.specs.Periods.{ControlRun, Period, control, video, values_of, has_preamble, pixels_of}
use Rattle.island_pack.specs.Conforming.{IsConforming, conforms, is_control_period, is_video_period}
use Rattle.island_pack.specs.Spelling.{control_column, SpellsPixels, column_words, SpellsPeriod, Spells}
use Rattle.island_pack.specs.Kinds.{Kind, control_column as control_kind, first_guard, second_guard, pixel_column, packet_column, kinds_in, kinds_of, kind_at, IsPayload, IsAfterControl}
use Rattle.island_pack.specs.Sparse.{unlike_words, AreFew, no_column, column_at, IsNarrow, unlike_at, IsSparse, IsSparseInPayload}
use Rattle.link_laws.specs.Laws.{ReceivedOf, HasUnlike}

-- The periods.

abbrev times : ℕ → ℕ → ControlRun
times value count = record { value = value; count = count }

-- columns, and the preamble of a video data period
abbrev first_runs : List ControlRun
first_runs = times 0 16 ∷ (times 4 8 ∷ [])

abbrev second_runs : List ControlRun
second_runs = times 0 12 ∷ (times 4 8 ∷ [])

abbrev last_runs : List ControlRun
last_runs = times 0 12 ∷ []

-- thirty pixels, and one
abbrev long_line : List ℕ
long_line = replicate 90 16

abbrev short_line : List ℕ
short_line = replicate 3 16

abbrev last_period : List Period
last_period = control last_runs ∷ []

abbrev from_short : List Period
from_short = video short_line ∷ last_period

abbrev from_second : List Period
from_second = control second_runs ∷ from_short

abbrev from_long : List Period
from_long = video long_line ∷ from_second

unfoldable pub stream : List Period
stream = control first_runs ∷ from_long

conforming : IsConforming stream
unfolding stream conforms is_control_period values_of has_preamble is_video_period
conforming = refl

-- The columns.

abbrev triple : ℕ → ℕ → ℕ → Column
triple b g r = record { blue = b; green = g; red = r }

abbrev grey : Column
grey = triple 0x1f0 0x1f0 0x1f0

-- another word was received in the first pixel's place, and a control word in the last one's
abbrev line_received : List Column
line_received = triple 0x1f0 0x100 0x1f0 ∷ (replicate 28 grey ++ (triple 0x354 0x1f0 0x1f0 ∷ []))

abbrev control_columns : List ControlRun → List Column
control_columns runs = map control_column (values_of runs)

abbrev video_columns : List Column → List Column
video_columns pixels = column_of video_guard ∷ (column_of video_guard ∷ pixels)

abbrev last_columns : List Column
last_columns = control_columns last_runs ++ []

abbrev short_on : List Column
short_on = video_columns (grey ∷ []) ++ last_columns

abbrev second_on : List Column
second_on = control_columns second_runs ++ short_on

abbrev long_on : List Column → List Column
long_on pixels = video_columns pixels ++ second_on

abbrev columns : List Column → List Column
columns pixels = control_columns first_runs ++ long_on pixels

unfoldable pub sent : List Column
sent = columns (replicate 30 grey)

unfoldable pub received : List Column
received = columns line_received

-- How they are spelled: each pixel's word has as many ones as zeros.

coded_test : coded_at null 16 ≡ 0x1f0
unfolding coded_at coded_bits takes_xnor minimised balanced bits_of number ones zeros balance
coded_test = refl

level_test : balance (word_bits 0x1f0) ≡ pos 0
unfolding word_bits balance bits_of zeros ones
level_test = refl

level : (n j : ℕ) → disparity_of (take j (replicate n 0x1f0)) ≡ pos 0
unfolding disparity_of
level n zero = refl
level zero (suc j) = refl
level (suc n) (suc j) = ap₂ (λ (x y : ℤ). x +ℤ y) level_test (level n j)

lane : (n : ℕ) → IsLane (replicate n 16) (replicate n 0x1f0)
lane n = grind (arith, length-replicate, get_or-replicate, coded_test, level)

spells_long : SpellsPixels (pixels_of long_line) (replicate 30 grey)
unfolding pixels_of
spells_long = record { blue = lane 30; green = lane 30; red = lane 30 }

spells_short : SpellsPixels (pixels_of short_line) (grey ∷ [])
unfolding pixels_of
spells_short = record { blue = lane 1; green = lane 1; red = lane 1 }

spells_more : (p : Period) (ps : List Period) (own rest : List Column) → SpellsPeriod p own → Spells ps rest → Spells (p ∷ ps) (own ++ rest)
spells_more p ps own rest h g = (own, rest, refl, h, g)

spelled : Spells stream sent
unfolding stream sent
spelled =
    spells_more (control first_runs) from_long (control_columns first_runs) (long_on (replicate 30 grey)) refl
    (spells_more (video long_line) from_second (video_columns (replicate 30 grey)) second_on (replicate 30 grey, refl, spells_long)
    (spells_more (control second_runs) from_short (control_columns second_runs) short_on refl
    (spells_more (video short_line) last_period (video_columns (grey ∷ [])) last_columns (grey ∷ [], refl, spells_short)
    (spells_more (control last_runs) [] (control_columns last_runs) [] refl refl))))

-- How they were received.

long_sent : length sent ≡ 91
unfolding sent values_of video_guard
long_sent = refl

pub long_received : length received ≡ 91
unfolding received values_of video_guard
long_received = refl

-- of 91 columns, one at each place
each : (P : ℕ → Type 0) → ((i : ℕ) → i < 91 → P i) → ((i : ℕ) → 91 ≤ i → P i) → (i : ℕ) → P i
each P within past i = elim (cases_lt i 91) [
  | inl lt ↦ within i lt
  | inr le ↦ past i le
]

no_more : (cs : List Column) → length cs ≡ 91 → (i : ℕ) → 91 ≤ i → column_at cs i ≡ no_column
no_more cs long i le = get_or_past cs i no_column (omega arith)

none_unlike : unlike_words (column_words no_column) (column_words no_column) ≡ 0
unfolding unlike_words one_if
none_unlike = refl

unlike_past : (i : ℕ) → 91 ≤ i → unlike_at sent received i ≡ 0
unlike_past i le = grind (arith, long_sent, long_received, no_more, none_unlike)

abbrev is_narrow : Column → Bool
is_narrow c = nat_lt c.blue 1024 && (nat_lt c.green 1024 && nat_lt c.red 1024)

narrow_column : (c : Column) → is_narrow c ≡ true → IsNarrow c
narrow_column c h =
    let r = and-right (nat_lt c.blue 1024) _ h in
    record { blue = ltb-true _ _ (and-left _ _ h); green = ltb-true _ _ (and-left _ _ r); red = ltb-true _ _ (and-right (nat_lt c.green 1024) _ r) }

narrow_test : passes_below 91 (λ i. is_narrow (column_at received i)) ≡ true
unfolding passes_below received values_of control_words video_guard
narrow_test = refl

-- of two columns in a row at most one word is unlike
two_test : passes_below 91 (λ i. nat_le (unlike_at sent received i + unlike_at sent received (i + 1)) 1) ≡ true
unfolding passes_below unlike_words one_if sent received values_of control_words video_guard
two_test = refl

abbrev two_in_eleven : List ℕ → List ℕ → Bool
two_in_eleven xs ys = passes_below 81 (λ i. nat_le (unlike_words (take 11 (drop i xs)) (take 11 (drop i ys))) 2)

few : (xs ys : List ℕ) → length xs ≡ 91 → two_in_eleven xs ys ≡ true → AreFew xs ys
few xs ys long test i within = leb-true _ _ (passes_at 81 (λ i. nat_le (unlike_words (take 11 (drop i xs)) (take 11 (drop i ys))) 2) i test (omega arith))

blue_test : two_in_eleven (blues sent) (blues received) ≡ true
unfolding passes_below unlike_words one_if sent received values_of control_words video_guard
blue_test = refl

green_test : two_in_eleven (greens sent) (greens received) ≡ true
unfolding passes_below unlike_words one_if sent received values_of control_words video_guard
green_test = refl

red_test : two_in_eleven (reds sent) (reds received) ≡ true
unfolding passes_below unlike_words one_if sent received values_of control_words video_guard
red_test = refl

sparse : IsSparse stream sent received
sparse =
    let s = long_sent in
    let r = long_received in
    let pair : (i : ℕ) → unlike_at sent received i + unlike_at sent received (i + 1) ≤ 1 = each (λ i. unlike_at sent received i + unlike_at sent received (i + 1) ≤ 1)
    (λ i lt. leb-true _ _ (passes_at 91 (λ i. nat_le (unlike_at sent received i + unlike_at sent received (i + 1)) 1) i two_test lt))
    (λ i le. let a = unlike_past i le in let b = unlike_past (i + 1) (omega arith) in omega arith) in
    record {
      same_length = omega arith;
      characters = λ i lt. narrow_column _ (passes_at 91 (λ i. is_narrow (column_at received i)) i narrow_test (omega arith));
      one_a_column = λ i. let both = pair i in omega arith;
      one_a_pair = λ i e. pair i;
      few_blue = few (blues sent) (blues received) (length-map sent (λ c. c.blue) ∙ s) blue_test;
      few_green = few (greens sent) (greens received) (length-map sent (λ c. c.green) ∙ s) green_test;
      few_red = few (reds sent) (reds received) (length-map sent (λ c. c.red) ∙ s) red_test;
    }

pub reception : ReceivedOf stream sent received
reception = record { conforming = conforming; spelled = spelled; sparse = sparse }

-- where damage is spared

abbrev pays_or_same : ℕ → Bool
pays_or_same i = pays (kind_at (kinds_of stream) i) || is_same (column_at received i) (column_at sent i)

spares_test : passes_below 91 pays_or_same ≡ true
unfolding passes_below stream kinds_of kinds_in sent received values_of control_words video_guard
spares_test = refl

pub alone : IsSparseInPayload stream sent received
alone = record {
  sparse = sparse;
  spares = λ f i le h. each (λ i. (IsPayload (kind_at (kinds_of stream) i) → ⊥) → column_at received i ≡ column_at sent i)
      (λ i lt h. same_columns _ _ (or_second _ _ (passes_at 91 pays_or_same i spares_test lt) (pays_not (kind_at (kinds_of stream) i) h)))
      (λ i le h. no_more received long_received i le ∙ sym (no_more sent long_sent i le)) i h;
}

pub after_first : IsAfterControl (kinds_of stream) 24
unfolding stream kinds_of kinds_in values_of
after_first = record { before = (23, refl, refl); opens = refl }

pub after_second : IsAfterControl (kinds_of stream) 76
unfolding stream kinds_of kinds_in values_of
after_second = record { before = (75, refl, refl); opens = refl }

-- The first line: columns 26 to 55 are its pixels.

abbrev is_pixel : Kind → Bool
is_pixel pixel_column = true
is_pixel control_kind = false
is_pixel first_guard = false
is_pixel second_guard = false
is_pixel packet_column = false

pixel_of : (k : Kind) → is_pixel k ≡ true → k ≡ pixel_column
pixel_of k h = grind arith

pixels_test : passes_below 56 (λ i. nat_lt i 26 || is_pixel (kind_at (kinds_of stream) i)) ≡ true
unfolding passes_below stream kinds_of kinds_in values_of
pixels_test = refl

not_less : (i n : ℕ) → n ≤ i → nat_lt i n ≡ false
not_less i n le = grind (arith, cases_Bool, ltb-true)

pub pixels : (i : ℕ) → 26 ≤ i → i < 56 → kind_at (kinds_of stream) i ≡ pixel_column
pixels i from to = pixel_of _ (or_second _ _ (passes_at 56 (λ i. nat_lt i 26 || is_pixel (kind_at (kinds_of stream) i)) i pixels_test to) (not_less i 26 from))

pub then_control : kind_at (kinds_of stream) 56 ≡ control_kind
unfolding stream kinds_of kinds_in values_of
then_control = refl

-- those in the midst of it were received as they were sent
middle_test : passes_below 55 (λ i. nat_lt i 27 || (get_or (blues received) i 0 == get_or (blues sent) i 0)) ≡ true
unfolding passes_below sent received values_of control_words video_guard
middle_test = refl

pub middle : (i : ℕ) → 27 ≤ i → i < 55 → get_or (blues received) i 0 ≡ get_or (blues sent) i 0
middle i from to = eqb-true _ _ (or_second _ _ (passes_at 55 (λ i. nat_lt i 27 || (get_or (blues received) i 0 == get_or (blues sent) i 0)) i middle_test to) (not_less i 27 from))

unlike_column : (i : ℕ) → is_same (column_at received i) (column_at sent i) ≡ false → column_at received i ≡ column_at sent i → ⊥
unlike_column i test e = grind (arith, clash, eq-eqb)

first_damaged : is_same (column_at received 26) (column_at sent 26) ≡ false
unfolding received sent values_of control_words video_guard
first_damaged = refl

pub damaged : HasUnlike pixel_column stream sent received
damaged = (26, pixels 26 (omega arith) (omega arith), unlike_column 26 first_damaged)
