-- A short stream without guard bands received with two damaged pixels, and a tap of it: the premises of the laws can be
-- met.
use Rattle.std.proofs.Common.{◌≡◌, ℕ, ◌+◌, ◌<◌, ◌≤◌, Bool, true, false, not, ◌&&◌, ◌||◌, ◌==◌, List, [], ◌∷◌, ◌++◌, map, length, take, drop, get_or, replicate, refl, ap, sym, ◌∙◌, arith, inl, inr, nat_le, nat_lt, Some}
use Rattle.std.proofs.lemmas.Bool.{cases_lt, eqb-true, eq-eqb, leb-true, ltb-true}
use Rattle.std.proofs.lemmas.List.{length-map, get_or_past}
use Rattle.tmds_word.specs.Bits.{bits_of, word_bits, row_bits, number, window, ones, zeros, balance}
use Rattle.tmds_word.specs.Column.{Column, blues, greens, reds}
use Rattle.tmds_word.specs.Taps.{part_of, IsPart, IsTap, HasSmallSkew}
use Rattle.tmds_word.proofs.Below.{and-left, and-right, passes_below, passes_at}
use Rattle.tmds_code.specs.Coding.{Coded, null, takes_xnor, minimised, balanced, coded_bits, coded_at}
use Rattle.tmds_code.specs.Lanes.{IsLane, disparity_of}
use Rattle.terc4.specs.Tables.{control_words, is_in, is_control}
use Rattle.terc4.specs.Columns.{one_if}
use Rattle.lane_align.specs.Lanes.{IsEdge}
use Rattle.lane_deskew.specs.Triples.{IsFirst}
use Rattle.link_laws.proofs.Computed.{or_second, not_true, clash, has, runs_at, none_before, is_edge}
use Rattle.island_pack.specs.Periods.{ControlRun, Period, control, video, values_of, pixels_of}
use Rattle.island_pack.specs.Conforming.{is_control_period, is_video_period}
use Rattle.island_pack.specs.Spelling.{control_column, SpellsPixels, column_words}
use Rattle.island_pack.specs.Kinds.{Kind, control_column as control_kind, first_guard, pixel_column, kind_at, EndsAt}
use Rattle.island_pack.specs.Sparse.{unlike_words, AreFew, no_column, column_at, IsNarrow, unlike_at}
use Rattle.source_end.specs.DviPeriods.{dvi_conforms, IsDviConforming, DviSpells, dvi_kinds, dvi_kinds_in, HasNoControl, IsDviSparse, HasThree}
use Rattle.dvi_laws.specs.DviLaws.{HasDviExample}
use Rattle.dvi_laws.proofs.Lanes.{edges_end}

-- The periods: 24 control columns, three pixels, twelve control columns.

abbrev pub times : ℕ → ℕ → ControlRun
times value count = record { value = value; count = count }

abbrev pub first_runs : List ControlRun
first_runs = times 0 24 ∷ []

abbrev pub last_runs : List ControlRun
last_runs = times 0 12 ∷ []

abbrev pub grey : List ℕ
grey = replicate 9 16

unfoldable stream : List Period
stream = control first_runs ∷ (video grey ∷ (control last_runs ∷ []))

conforming : IsDviConforming stream
unfolding stream dvi_conforms is_control_period values_of is_video_period
conforming = refl

three : HasThree stream
unfolding stream HasThree
three = (omega arith, tt)

-- The columns.

abbrev pub triple : ℕ → ℕ → ℕ → Column
triple b g r = record { blue = b; green = g; red = r }

abbrev pub pixels_sent : List Column
pixels_sent = replicate 3 (triple 0x1f0 0x1f0 0x1f0)

-- another word was received in the first pixel's place, and a control word in the second one's
abbrev pixels_received : List Column
pixels_received = triple 0x1f0 0x100 0x1f0 ∷ (triple 0x354 0x1f0 0x1f0 ∷ (triple 0x1f0 0x1f0 0x1f0 ∷ []))

abbrev pub control_columns : List ControlRun → List Column
control_columns runs = map control_column (values_of runs)

abbrev pub last_columns : List Column
last_columns = control_columns last_runs ++ []

abbrev columns : List Column → List Column
columns pixels = control_columns first_runs ++ (pixels ++ last_columns)

unfoldable sent : List Column
sent = columns pixels_sent

unfoldable received : List Column
received = columns pixels_received

-- How they are spelled.

coded_test : coded_at null 16 ≡ 0x1f0
unfolding coded_at coded_bits takes_xnor minimised balanced bits_of number ones zeros balance
coded_test = refl

-- each pixel's word has as many ones as zeros
level : (j : ℕ) → j < 3 → Coded (disparity_of (take j (replicate 3 0x1f0))) (get_or (replicate 3 16) j 0) (get_or (replicate 3 0x1f0) j 0)
unfolding disparity_of word_bits balance bits_of zeros ones
level j h = grind (arith, coded_test)

lane : IsLane (replicate 3 16) (replicate 3 0x1f0)
lane = record { same_length = refl; coded = level }

pub spells_pixels : SpellsPixels (pixels_of grey) pixels_sent
unfolding pixels_of
spells_pixels = record { blue = lane; green = lane; red = lane }

spelled : DviSpells stream sent
unfolding stream sent
spelled = (
  control_columns first_runs,
  pixels_sent ++ last_columns,
  refl,
  refl,
  (pixels_sent, last_columns, refl, spells_pixels, (control_columns last_runs, [], refl, refl, refl)),
)

-- How they were received.

long_sent : length sent ≡ 39
unfolding sent values_of
long_sent = refl

long_received : length received ≡ 39
unfolding received values_of
long_received = refl

-- of 39 columns, one at each place
each : (P : ℕ → Type 0) → ((i : ℕ) → i < 39 → P i) → ((i : ℕ) → 39 ≤ i → P i) → (i : ℕ) → P i
each P within past i = elim (cases_lt i 39) [
  | inl lt ↦ within i lt
  | inr le ↦ past i le
]

no_more : (cs : List Column) → length cs ≡ 39 → (i : ℕ) → 39 ≤ i → column_at cs i ≡ no_column
no_more cs long i le = get_or_past cs i no_column (omega arith)

none_unlike : unlike_words (column_words no_column) (column_words no_column) ≡ 0
unfolding unlike_words one_if
none_unlike = refl

unlike_past : (i : ℕ) → 39 ≤ i → unlike_at sent received i ≡ 0
unfolding unlike_words one_if
unlike_past i le = grind (arith, long_sent, long_received, no_more)

abbrev pub is_narrow : Column → Bool
is_narrow c = nat_lt c.blue 1024 && (nat_lt c.green 1024 && nat_lt c.red 1024)

pub narrow_column : (c : Column) → is_narrow c ≡ true → IsNarrow c
narrow_column c h =
    let r = and-right (nat_lt c.blue 1024) _ h in
    record { blue = ltb-true _ _ (and-left _ _ h); green = ltb-true _ _ (and-left _ _ r); red = ltb-true _ _ (and-right (nat_lt c.green 1024) _ r) }

narrow_test : passes_below 39 (λ i. is_narrow (column_at received i)) ≡ true
unfolding passes_below received values_of control_words
narrow_test = refl

one_test : passes_below 39 (λ i. nat_le (unlike_at sent received i) 1) ≡ true
unfolding passes_below unlike_words one_if sent received values_of control_words
one_test = refl

abbrev two_in_eleven : List ℕ → List ℕ → Bool
two_in_eleven xs ys = passes_below 29 (λ i. nat_le (unlike_words (take 11 (drop i xs)) (take 11 (drop i ys))) 2)

few : (xs ys : List ℕ) → length xs ≡ 39 → two_in_eleven xs ys ≡ true → AreFew xs ys
few xs ys long test i within = leb-true _ _ (passes_at 29 (λ i. nat_le (unlike_words (take 11 (drop i xs)) (take 11 (drop i ys))) 2) i test (omega arith))

blue_test : two_in_eleven (blues sent) (blues received) ≡ true
unfolding passes_below unlike_words one_if sent received values_of control_words
blue_test = refl

green_test : two_in_eleven (greens sent) (greens received) ≡ true
unfolding passes_below unlike_words one_if sent received values_of control_words
green_test = refl

red_test : two_in_eleven (reds sent) (reds received) ≡ true
unfolding passes_below unlike_words one_if sent received values_of control_words
red_test = refl

abbrev pub is_kind : Kind → Kind → Bool
is_kind control_kind control_kind = true
is_kind first_guard first_guard = true
is_kind _ _ = false

abbrev is_same : Column → Column → Bool
is_same c d = (c.blue == d.blue) && ((c.green == d.green) && (c.red == d.red))

same_columns : (c d : Column) → is_same c d ≡ true → c ≡ d
same_columns c d h = grind (arith, and-right, eqb-true, and-left)

unlike_column : (i : ℕ) → is_same (column_at received i) (column_at sent i) ≡ false → column_at received i ≡ column_at sent i → ⊥
unlike_column i test e = grind (arith, clash, eq-eqb)

-- a test where a kind stands, and what it says there
abbrev pub where_kind : List Kind → Kind → (ℕ → Bool) → ℕ → Bool
where_kind kinds kind test i = not (is_kind kind (kind_at kinds i)) || test i

pub at_kind : (kinds : List Kind) (n : ℕ) (kind : Kind) (test : ℕ → Bool) → is_kind kind kind ≡ true → passes_below n (where_kind kinds kind test) ≡ true → (i : ℕ) → i < n → kind_at kinds i ≡ kind → test i ≡ true
at_kind kinds n kind test same all i lt e =
    or_second _ _ (passes_at n (where_kind kinds kind test) i all lt) (ap (λ k. not (is_kind kind k)) e ∙ ap not same)

spares_test : passes_below 39 (where_kind (dvi_kinds stream) control_kind (λ i. is_same (column_at received i) (column_at sent i))) ≡ true
unfolding passes_below stream dvi_kinds dvi_kinds_in sent received values_of control_words
spares_test = refl

abbrev pub spares_control : Column → Bool
spares_control c = not (is_control c.blue) && (not (is_control c.green) && not (is_control c.red))

pub no_control : (c : Column) → spares_control c ≡ true → HasNoControl c
no_control c h =
    let r = and-right (not (is_control c.blue)) _ h in
    record { blue = not_true _ (and-left _ _ h); green = not_true _ (and-left _ _ r); red = not_true _ (and-right (not (is_control c.green)) _ r) }

first_test : passes_below 39 (where_kind (dvi_kinds stream) first_guard (λ i. spares_control (column_at received i))) ≡ true
unfolding passes_below stream dvi_kinds dvi_kinds_in received values_of control_words is_control is_in
first_test = refl

sparse : IsDviSparse stream sent received
sparse =
    let s = long_sent in
    let r = long_received in
    record {
      same_length = omega arith;
      characters = λ i lt. narrow_column _ (passes_at 39 (λ i. is_narrow (column_at received i)) i narrow_test (omega arith));
      one_a_column = each (λ i. unlike_at sent received i ≤ 1)
          (λ i lt. leb-true _ _ (passes_at 39 (λ i. nat_le (unlike_at sent received i) 1) i one_test lt))
          (λ i le. let none = unlike_past i le in omega arith);
      spares = each (λ i. kind_at (dvi_kinds stream) i ≡ control_kind → column_at received i ≡ column_at sent i)
          (λ i lt e. same_columns _ _ (at_kind (dvi_kinds stream) 39 control_kind (λ i. is_same (column_at received i) (column_at sent i)) refl spares_test i lt e))
          (λ i le e. no_more received r i le ∙ sym (no_more sent s i le));
      first = λ i lt e. no_control _ (at_kind (dvi_kinds stream) 39 first_guard (λ i. spares_control (column_at received i)) refl first_test i (omega arith) e);
      few_blue = few (blues sent) (blues received) (length-map sent (λ c. c.blue) ∙ s) blue_test;
      few_green = few (greens sent) (greens received) (length-map sent (λ c. c.green) ∙ s) green_test;
      few_red = few (reds sent) (reds received) (length-map sent (λ c. c.red) ∙ s) red_test;
    }

first_kind : kind_at (dvi_kinds stream) 24 ≡ first_guard
unfolding stream dvi_kinds dvi_kinds_in values_of
first_kind = refl

pixel_kind : kind_at (dvi_kinds stream) 25 ≡ pixel_column
unfolding stream dvi_kinds dvi_kinds_in values_of
pixel_kind = refl

first_damaged : is_same (column_at received 24) (column_at sent 24) ≡ false
unfolding received sent values_of control_words
first_damaged = refl

pixel_damaged : is_same (column_at received 25) (column_at sent 25) ≡ false
unfolding received sent values_of control_words
pixel_damaged = refl

-- The tap, as many bits as each lane has from there on.

abbrev pub skews : List ℕ
skews = 0 ∷ (70 ∷ (35 ∷ []))

abbrev counts : List ℕ
counts = 383 ∷ (313 ∷ (348 ∷ []))

part : (words : List ℕ) (from many : ℕ) → length words ≡ 39 → from + many ≤ 390 → IsPart words from many (part_of words from many)
part words from many long le = record { within = omega arith; bits_are = refl }

tapped : IsTap received 7 skews counts (part_of (blues received) 7 383) (part_of (greens received) 77 313) (part_of (reds received) 42 348)
tapped =
    let long = long_received in
    record {
      blue_part = part (blues received) 7 383 (length-map received (λ c. c.blue) ∙ long) (omega arith);
      green_part = part (greens received) 77 313 (length-map received (λ c. c.green) ∙ long) (omega arith);
      red_part = part (reds received) 42 348 (length-map received (λ c. c.red) ∙ long) (omega arith);
    }

pub small : HasSmallSkew skews
small = record { blue_green = (omega arith, omega arith); green_red = (omega arith, omega arith); blue_red = (omega arith, omega arith) }

-- The edges.

unfoldable blue : List Bool
blue = part_of (blues received) 7 383

unfoldable green : List Bool
green = part_of (greens received) 77 313

unfoldable red : List Bool
red = part_of (reds received) 42 348

blue_run : runs_at blue 3 ≡ true
unfolding passes_below blue received values_of control_words has window row_bits word_bits bits_of number is_control is_in
blue_run = refl

blue_none : none_before blue 3 ≡ true
unfolding passes_below blue received values_of control_words has window row_bits word_bits bits_of number is_control is_in
blue_none = refl

blue_before : runs_at blue 113 ≡ true
unfolding passes_below blue received values_of control_words has window row_bits word_bits bits_of number is_control is_in
blue_before = refl

blue_word : window blue 233 ≡ Some 0x1f0
unfolding blue received values_of control_words window row_bits word_bits bits_of number
blue_word = refl

green_run : runs_at green 3 ≡ true
unfolding passes_below green received values_of control_words has window row_bits word_bits bits_of number is_control is_in
green_run = refl

green_none : none_before green 3 ≡ true
unfolding passes_below green received values_of control_words has window row_bits word_bits bits_of number is_control is_in
green_none = refl

green_before : runs_at green 43 ≡ true
unfolding passes_below green received values_of control_words has window row_bits word_bits bits_of number is_control is_in
green_before = refl

green_word : window green 163 ≡ Some 0x100
unfolding green received values_of control_words window row_bits word_bits bits_of number
green_word = refl

red_run : runs_at red 8 ≡ true
unfolding passes_below red received values_of control_words has window row_bits word_bits bits_of number is_control is_in
red_run = refl

red_none : none_before red 8 ≡ true
unfolding passes_below red received values_of control_words has window row_bits word_bits bits_of number is_control is_in
red_none = refl

red_before : runs_at red 78 ≡ true
unfolding passes_below red received values_of control_words has window row_bits word_bits bits_of number is_control is_in
red_before = refl

red_word : window red 198 ≡ Some 0x1f0
unfolding red received values_of control_words window row_bits word_bits bits_of number
red_word = refl

pixel_test : is_control 0x1f0 ≡ false
unfolding is_control is_in control_words
pixel_test = refl

other_test : is_control 0x100 ≡ false
unfolding is_control is_in control_words
other_test = refl

-- The first full alignment: no period ends before.

abbrev is_control_kind : Kind → Bool
is_control_kind k = is_kind control_kind k

control_of : (k : Kind) → is_control_kind k ≡ true → k ≡ control_kind
control_of k h = grind arith

going_on : passes_below 23 (λ i. is_control_kind (kind_at (dvi_kinds stream) (i + 1))) ≡ true
unfolding passes_below stream dvi_kinds dvi_kinds_in values_of
going_on = refl

ends_late : (i : ℕ) → EndsAt (dvi_kinds stream) i → 23 ≤ i
ends_late i h = elim (cases_lt i 23) [
  | inl lt ↦ absurd (h.then (control_of _ (passes_at 23 (λ i. is_control_kind (kind_at (dvi_kinds stream) (i + 1))) i going_on lt)))
  | inr le ↦ le
]

edge_late : (e : ℕ) → IsEdge blue e → 233 ≤ e
unfolding blue
edge_late e h =
    let end = (edges_end stream sent received conforming three spelled sparse).0.edges 7 383 e h in
    grind (arith, ends_late)

first : IsFirst blue green red 233 163 198
first = record {
  triple = record {
    blue = is_edge blue 3 233 0x1f0 blue_run blue_none blue_before blue_word pixel_test (omega arith) refl;
    green = is_edge green 3 163 0x100 green_run green_none green_before green_word other_test (omega arith) refl;
    red = is_edge red 8 198 0x1f0 red_run red_none red_before red_word pixel_test (omega arith) refl;
    blue_green = (omega arith, omega arith);
    green_red = (omega arith, omega arith);
    blue_red = (omega arith, omega arith);
  };
  least = λ p q r t. let late = edge_late p t.blue in omega arith;
}

pub example : HasDviExample
unfolding blue green red
example = (
  stream,
  sent,
  received,
  counts,
  _,
  _,
  _,
  233,
  163,
  198,
  record {
    conforming = conforming;
    three = three;
    spelled = spelled;
    sparse = sparse;
    first_pixel = (24, first_kind, unlike_column 24 first_damaged);
    pixel = (25, pixel_kind, unlike_column 25 pixel_damaged);
    tapped = tapped;
    small = small;
    first = first;
  },
)
