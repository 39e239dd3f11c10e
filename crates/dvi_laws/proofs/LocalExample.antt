-- A short stream without guard bands with a pixel of which no word was received as it was sent: the line after it stands alone.
use Rattle.std.proofs.Common.{◌≡◌, ℕ, suc, zero, ◌+◌, ◌-◌, ◌*◌, ◌<◌, ◌≤◌, Bool, true, not, List, [], ◌∷◌, ◌++◌, length, map, take, drop, refl, ap, ap₂, sym, ◌∙◌, subst, arith}
use Rattle.std.specs.Prelude.{slice_index}
use Rattle.std.specs.List.{list_all}
use Rattle.std.proofs.lemmas.Bool.{eq-eqb}
use Rattle.std.proofs.lemmas.List.{length-map, take-append-drop}
use Rattle.tmds_word.specs.Column.{Column, blues, greens, reds}
use Rattle.tmds_word.specs.Taps.{part_of, IsTap}
use Rattle.tmds_word.proofs.Below.{passes_below, passes_at}
use Rattle.terc4.specs.Tables.{control_words, is_control, is_in}
use Rattle.terc4.specs.Columns.{one_if, is_control_column}
use Rattle.lane_align.specs.Words.{words_from}
use Rattle.lane_align.proofs.Words.{length-words_from}
use Rattle.lane_deskew.specs.Aligned.{aligned_columns}
use Rattle.island_pack.specs.Conforming.{is_control_period, is_video_period}
use Rattle.island_pack.specs.Kinds.{first_guard}
use Rattle.island_pack.specs.Periods.{Period, control, video, values_of}
use Rattle.island_pack.specs.Sparse.{unlike_words, unlike_at, column_at, IsNarrow}
use Rattle.source_end.specs.DviPeriods.{dvi_conforms, IsDviConforming, dvi_columns, dvi_columns_of, DviSpells, dvi_kinds, dvi_kinds_in, IsDviSparse, HasThree}
use Rattle.link_laws.specs.Laws.{BeginColumn, HoldsEnd}
use Rattle.link_laws.specs.Local.{twelve_before}
use Rattle.link_laws.proofs.Freely.{spared}
use Rattle.link_laws.proofs.LocalExample.{many_columns, length-part}
use Rattle.dvi_laws.specs.DviLocal.{line_part, DviStandsAlone, DviReceivedUntil, DviHoldsUntil, HasDviLocalExample}
use Rattle.dvi_laws.proofs.Example.{first_runs, last_runs, grey, triple, pixels_sent, control_columns, last_columns, spells_pixels, is_narrow, narrow_column, where_kind, at_kind, spares_control, no_control, skews, small}
use Rattle.dvi_laws.proofs.FirstUntil.{dvi_first_until}

-- The periods: 24 control columns, three pixels, twelve control columns, and three pixels and twelve control columns again.

abbrev front : List Period
front = control first_runs ∷ (video grey ∷ (control last_runs ∷ []))

abbrev last_period : List Period
last_period = control last_runs ∷ []

unfoldable stream : List Period
stream = front ++ (video grey ∷ last_period)

whole : stream ≡ front ++ (video grey ∷ last_period)
unfolding stream
whole = refl

conforming : IsDviConforming stream
unfolding stream dvi_conforms is_control_period values_of is_video_period
conforming = refl

three : HasThree stream
unfolding stream HasThree
three = (omega arith, (omega arith, tt))

-- The columns; no word of the second pixel was received as it was sent.

abbrev pixels_received : List Column
pixels_received = triple 0x1f0 0x1f0 0x1f0 ∷ (triple 0x354 0x3ff 0x2cc ∷ (triple 0x1f0 0x1f0 0x1f0 ∷ []))

abbrev line_on : List Column
line_on = pixels_sent ++ last_columns

abbrev between_on : List Column
between_on = control_columns last_runs ++ line_on

abbrev columns : List Column → List Column
columns pixels = control_columns first_runs ++ (pixels ++ between_on)

unfoldable sent : List Column
sent = columns pixels_sent

unfoldable received : List Column
received = columns pixels_received

spelled : DviSpells stream sent
unfolding stream sent
spelled = (
  control_columns first_runs,
  pixels_sent ++ between_on,
  refl,
  refl,
  (
    pixels_sent,
    between_on,
    refl,
    spells_pixels,
    (control_columns last_runs, line_on, refl, refl, (pixels_sent, last_columns, refl, spells_pixels, (control_columns last_runs, [], refl, refl, refl))),
  ),
)

long_sent : length sent ≡ 54
unfolding sent values_of
long_sent = refl

long : length received ≡ 54
unfolding received values_of
long = refl

before_it : dvi_columns_of front ≡ 39
unfolding dvi_columns_of dvi_columns values_of
before_it = refl

size : dvi_columns (video grey) ≡ 3
unfolding dvi_columns
size = refl

lost : unlike_at sent received 25 ≡ 3
unfolding unlike_words one_if sent received values_of control_words
lost = refl

abbrev are_narrow : List Column → Bool
are_narrow cs = passes_below 54 (λ i. is_narrow (column_at cs i))

narrow_received : are_narrow received ≡ true
unfolding passes_below received values_of control_words
narrow_received = refl

narrow_sent : are_narrow sent ≡ true
unfolding passes_below sent values_of control_words
narrow_sent = refl

are_characters : (cs : List Column) → are_narrow cs ≡ true → (i : ℕ) → i < 54 → IsNarrow (column_at cs i)
are_characters cs narrow i lt = narrow_column _ (passes_at 54 (λ i. is_narrow (column_at cs i)) i narrow lt)

-- To the column until which the tap is aligned the columns were received as they were sent.

same_front : take 25 received ≡ take 25 sent
unfolding sent received values_of control_words
same_front = refl

spliced : take 25 received ++ drop 25 sent ≡ sent
spliced = ap (λ cs. cs ++ drop 25 sent) same_front ∙ take-append-drop 25 sent

first_test : passes_below 54 (where_kind (dvi_kinds stream) first_guard (λ i. spares_control (column_at sent i))) ≡ true
unfolding passes_below stream dvi_kinds dvi_kinds_in sent values_of control_words is_control is_in
first_test = refl

as_sent : IsDviSparse stream sent sent
as_sent =
    let l = long_sent in
    let h = spared [] sent (λ i lt. are_characters sent narrow_sent i (omega arith)) in
    record {
      same_length = refl;
      characters = h.characters;
      one_a_column = h.one_a_column;
      spares = λ i k. refl;
      first = λ i lt k. no_control _ (at_kind (dvi_kinds stream) 54 first_guard (λ i. spares_control (column_at sent i)) refl first_test i (omega arith) k);
      few_blue = h.few_blue;
      few_green = h.few_green;
      few_red = h.few_red;
    }

reception : DviReceivedUntil stream sent received 24
reception =
    let l = long in
    record {
      conforming = conforming;
      three = three;
      spelled = spelled;
      same_length = long ∙ sym long_sent;
      sparse = subst (IsDviSparse stream sent) (sym spliced) as_sent;
      characters = λ i lt. are_characters received narrow_received i (omega arith);
    }

-- The tap, as many bits as each lane has from there on.

abbrev counts : List ℕ
counts = 533 ∷ (463 ∷ (498 ∷ []))

long_lane : (g : Column → ℕ) → length (map g received) ≡ 54
long_lane g = length-map received g ∙ long

abbrev blue : List Bool
blue = part_of (blues received) 7 533

abbrev green : List Bool
green = part_of (greens received) 77 463

abbrev red : List Bool
red = part_of (reds received) 42 498

tapped : IsTap received 7 skews counts blue green red
tapped =
    let l1 = long_lane (λ c. c.blue) in
    let l2 = long_lane (λ c. c.green) in
    let l3 = long_lane (λ c. c.red) in
    record {
      blue_part = record { within = omega arith; bits_are = refl };
      green_part = record { within = omega arith; bits_are = refl };
      red_part = record { within = omega arith; bits_are = refl };
    }

each_lane : (P : ℕ → Type 0) → P 0 → P 1 → P 2 → (lane : ℕ) → lane < 3 → P lane
each_lane P p q r zero lt = p
each_lane P p q r (suc zero) lt = q
each_lane P p q r (suc (suc zero)) lt = r
each_lane P p q r (suc (suc (suc lane))) lt = absurd (omega arith)

holds : HoldsEnd 7 skews counts 24
holds = record {
  begins = each_lane (λ lane. 7 + slice_index skews lane + 120 ≤ 10 * 24) (omega arith) (omega arith) (omega arith);
  reaches = each_lane (λ lane. 10 * 24 + 10 ≤ 7 + slice_index skews lane + slice_index counts lane) (omega arith) (omega arith) (omega arith);
}

until : DviHoldsUntil stream 7 skews counts 24
unfolding stream dvi_kinds dvi_kinds_in values_of
until = record { after = record { before = (23, refl, refl); opens = refl }; holds = holds }

-- The line.

same_line : line_part 39 grey received ≡ line_part 39 grey sent
unfolding sent received dvi_columns values_of control_words
same_line = refl

none_unlike : (ws : List ℕ) → unlike_words ws ws ≡ 0
unfolding unlike_words one_if
none_unlike [] = refl
none_unlike (w ∷ ws) = ap₂ (λ (b : Bool) (n : ℕ). one_if (not b) + n) (eq-eqb w w refl) (none_unlike ws)

one_a_column : (i : ℕ) → unlike_at (line_part 39 grey sent) (line_part 39 grey received) i ≤ 1
one_a_column i = let none = ap (λ cs. unlike_at (line_part 39 grey sent) cs i) same_line ∙ none_unlike _ in omega arith

twelve : list_all is_control_column (twelve_before 39 received) ≡ true
unfolding received values_of control_words is_control_column is_control is_in one_if
twelve = refl

many : length (twelve_before 39 received) ≡ 12
unfolding received values_of
many = refl

next : is_control_column (column_at received 42) ≡ true
unfolding received values_of control_words is_control_column is_control is_in one_if
next = refl

line : is_video_period grey ≡ true
unfolding is_video_period
line = refl

stands : DviStandsAlone received grey sent 39
stands =
    let m = many in
    record {
      one_a_column = one_a_column;
      before = record { long = omega arith; all = twelve };
      next = ap (λ k. is_control_column (column_at received (39 + k))) size ∙ next;
    }

-- The columns of the tap go on past it.

within : (a d e f : ℕ) → BeginColumn 7 skews (a + 12) d e f → 42 < a + length (aligned_columns blue green red d e f)
unfolding aligned_columns
within a d e f at =
    let l1 = long_lane (λ c. c.blue) in
    let l2 = long_lane (λ c. c.green) in
    let l3 = long_lane (λ c. c.red) in
    let lx = length-part (blues received) 7 533 (omega arith) in
    let ly = length-part (greens received) 77 463 (omega arith) in
    let lz = length-part (reds received) 42 498 (omega arith) in
    let wx = length-words_from blue (d - 120) in
    let wy = length-words_from green (e - 120) in
    let wz = length-words_from red (f - 120) in
    let p = at.blue in
    let q = at.green in
    let r = at.red in
    let n = many_columns (43 - a) (words_from blue (d - 120)) (words_from green (e - 120)) (words_from red (f - 120)) (omega arith) (omega arith) (omega arith) in
    omega arith

pub local_example : HasDviLocalExample
local_example =
    let b = before_it in
    let s = size in (
      front,
      grey,
      last_period,
      sent,
      received,
      counts,
      24,
      blue,
      green,
      red,
      record {
        reception = subst (λ ps. DviReceivedUntil ps sent received 24) whole reception;
        tapped = tapped;
        small = small;
        holds = subst (λ ps. DviHoldsUntil ps 7 skews counts 24) whole until;
        aligns = dvi_first_until stream sent received 24 reception 7 skews counts blue green red tapped small until;
        damaged = (25, omega arith, omega arith, lost);
        line = line;
        alone = subst (DviStandsAlone received grey sent) (sym before_it) stands;
        later = omega arith;
        within = λ a d e f at. let w = within a d e f at in omega arith;
      },
    )
