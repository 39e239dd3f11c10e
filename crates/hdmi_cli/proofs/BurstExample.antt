-- The short stream with ten pixels of its first line of which no character was received as it was sent: no lane has a stray, none of
-- these characters is a control or guard character, and the second line stands alone.
use Rattle.std.proofs.Common.{◌≡◌, ◌⊎◌, ℕ, ◌+◌, ◌-◌, ◌*◌, ◌%◌, ◌<◌, ◌≤◌, Bool, true, false, not, ◌&&◌, ◌||◌, ◌==◌, List, [], ◌∷◌, ◌++◌, length, map, take, drop, replicate, refl, ap, ap₂, ◌∙◌, sym, subst, arith, inl, inr, zero, suc, eqb-true, length-drop, length-take-le}
use Rattle.std.specs.Prelude.{slice_index}
use Rattle.std.specs.List.{list_all}
use Rattle.std.proofs.lemmas.Bool.{cases_lt}
use Rattle.std.proofs.lemmas.List.{length-map, get_or_past, get_or-take, get_or-drop, take-append-drop}
use Rattle.tmds_word.specs.Bits.{bits_of, word_bits, row_bits, number, window}
use Rattle.tmds_word.specs.Column.{Column, blues, greens, reds}
use Rattle.tmds_word.specs.Taps.{part_of, IsPart, IsTap, HasSmallSkew}
use Rattle.tmds_word.proofs.Below.{and-left, and-right, passes_below, passes_at}
use Rattle.terc4.specs.Columns.{one_if, is_control_column, is_twelve_or_more}
use Rattle.terc4.specs.Tables.{control_words, terc_words, video_guard, island_guard, is_control, is_guard, is_in, value_in}
use Rattle.capture_file.specs.Captures.{layout}
use Rattle.island_pack.specs.Conforming.{is_video_period}
use Rattle.island_pack.specs.Periods.{Period, control, video, values_of, period_columns, columns_of}
use Rattle.island_pack.specs.Sparse.{no_column, column_at, unlike_words, unlike_at, IsNarrow, IsSparse, SparesUntil}
use Rattle.lane_align.specs.Words.{words_from}
use Rattle.lane_align.proofs.Controls.{one_lock, window_is}
use Rattle.lane_align.proofs.Words.{length-words_from}
use Rattle.lane_deskew.specs.Aligned.{aligned_columns}
use Rattle.lane_track.specs.Strays.{HasNoStray}
use Rattle.link_laws.specs.Laws.{BeginColumn, HoldsEnd, AlignsUntil}
use Rattle.link_laws.specs.Local.{ReceivedUntil, StandsAlone, is_between, part_at, twelve_before}
use Rattle.link_laws.proofs.Computed.{has, to_has, runs_at, none_before, is_lock, not_true, clash}
use Rattle.link_laws.proofs.Freely.{free_spelled, spared}
use Rattle.link_laws.proofs.LocalExample.{many_columns, length-part}
use Rattle.link_laws.proofs.Stream.{is_narrow, narrow_column}
use Rattle.link_sink.specs.Sinks.{Fed}
use Rattle.track_laws.proofs.SlipStream.{stream, sent, reception, after_first}
use Rattle.track_sink.specs.Epochs.{lane_of}
use Rattle.relock_laws.specs.Doubted.{is_guard_word, IsUnmistaken, IsUnmistakenColumn, HasClearEnds}
use Rattle.hdmi_cli.specs.Headline.{TappedStream}
use Rattle.hdmi_cli.specs.RelockLocal.{HasBurst}
use Rattle.hdmi_cli.proofs.TrackExamples.{captured}

-- The columns.

unfoldable received : List Column
received = take 30 sent ++ (replicate 10 (record { blue = 0x3ff; green = 0x3ff; red = 0x3ff }) ++ drop 40 sent)

long_sent : length sent ≡ 91
unfolding sent values_of video_guard
long_sent = refl

long : length received ≡ 91
unfolding received sent values_of video_guard
long = refl

narrow_sent : passes_below 91 (λ i. is_narrow (column_at sent i)) ≡ true
unfolding passes_below sent values_of control_words video_guard
narrow_sent = refl

narrow_received : passes_below 91 (λ i. is_narrow (column_at received i)) ≡ true
unfolding passes_below received sent values_of control_words video_guard
narrow_received = refl

are_characters : (cs : List Column) → passes_below 91 (λ i. is_narrow (column_at cs i)) ≡ true → (i : ℕ) → i < 91 → IsNarrow (column_at cs i)
are_characters cs narrow i lt = narrow_column _ (passes_at 91 (λ i. is_narrow (column_at cs i)) i narrow lt)

same_front : take 25 received ≡ take 25 sent
unfolding received sent values_of control_words video_guard
same_front = refl

spliced : take 25 received ++ drop 25 sent ≡ sent
spliced = ap (λ cs. cs ++ drop 25 sent) same_front ∙ take-append-drop 25 sent

spares : SparesUntil stream sent received 24
spares i le h = sym (get_or-take 25 received i _ (omega arith)) ∙ ap (λ cs. column_at cs i) same_front ∙ get_or-take 25 sent i _ (omega arith)

received_until : ReceivedUntil stream sent received 24
received_until =
    let l = long in
    let s = long_sent in
    record {
      conforming = reception.conforming;
      spelled = free_spelled stream sent reception.spelled;
      same_length = long ∙ sym long_sent;
      sparse = subst (IsSparse stream sent) (sym spliced) (spared stream sent (λ i lt. are_characters sent narrow_sent i (omega arith)));
      characters = λ i lt. are_characters received narrow_received i (omega arith);
    }

lost : unlike_at sent received 30 ≡ 3
unfolding unlike_words one_if received sent values_of control_words video_guard
lost = refl

next_same : unlike_at sent received 25 ≡ 0
unfolding unlike_words one_if received sent values_of control_words video_guard
next_same = refl

-- No character was received as a control or guard character that it was not.

abbrev is_clear : ℕ → ℕ → Bool
is_clear s r = (is_control s || not (is_control r)) && (not (is_control s) || not (is_guard_word r))

abbrev is_clear_column : Column → Column → Bool
is_clear_column s r = is_clear s.blue r.blue && (is_clear s.green r.green && is_clear s.red r.red)

unmistaken : (s r : ℕ) → is_clear s r ≡ true → IsUnmistaken s r
unmistaken s r h =
    by (is_control s) (is_control r) (is_guard_word r) refl refl refl (and-left (is_control s || not (is_control r)) (not (is_control s) || not (is_guard_word r)) h)
    (and-right (is_control s || not (is_control r)) (not (is_control s) || not (is_guard_word r)) h)
  where
    by : (a b c : Bool) → is_control s ≡ a → is_control r ≡ b → is_guard_word r ≡ c → (is_control s || not (is_control r)) ≡ true → (not (is_control s) || not (is_guard_word r)) ≡ true → IsUnmistaken s r
    by a b c x y z f g = record { control = λ e. grind arith; guard = λ e k. grind arith }

unmistaken_column : (s r : Column) → is_clear_column s r ≡ true → IsUnmistakenColumn s r
unmistaken_column s r h =
    let more = and-right (is_clear s.blue r.blue) (is_clear s.green r.green && is_clear s.red r.red) h in
    record {
      blue = unmistaken s.blue r.blue (and-left (is_clear s.blue r.blue) (is_clear s.green r.green && is_clear s.red r.red) h);
      green = unmistaken s.green r.green (and-left (is_clear s.green r.green) (is_clear s.red r.red) more);
      red = unmistaken s.red r.red (and-right (is_clear s.green r.green) (is_clear s.red r.red) more);
    }

clear_test : passes_below 91 (λ k. is_clear_column (column_at sent k) (column_at received k)) ≡ true
unfolding passes_below received sent values_of control_words terc_words video_guard island_guard is_control is_guard is_in value_in is_twelve_or_more
clear_test = refl

clear_past : is_clear_column no_column no_column ≡ true
unfolding control_words terc_words video_guard island_guard is_control is_guard is_in value_in is_twelve_or_more
clear_past = refl

no_more : (cs : List Column) → length cs ≡ 91 → (i : ℕ) → 91 ≤ i → column_at cs i ≡ no_column
no_more cs long i le = get_or_past cs i no_column (omega arith)

clear_ends : HasClearEnds sent received
clear_ends i k is_last is_ended low high = unmistaken_column (column_at sent k) (column_at received k) (elim (cases_lt k 91) [
  | inl lt ↦ passes_at 91 (λ k. is_clear_column (column_at sent k) (column_at received k)) k clear_test lt
  | inr le ↦ ap₂ is_clear_column (no_more sent long_sent k le) (no_more received long k le) ∙ clear_past
])

-- The tap.

abbrev skews : List ℕ
skews = 0 ∷ (10 ∷ (20 ∷ []))

abbrev counts : List ℕ
counts = 900 ∷ (890 ∷ (880 ∷ []))

abbrev blue : List Bool
blue = part_of (blues received) 0 900

abbrev green : List Bool
green = part_of (greens received) 10 890

abbrev red : List Bool
red = part_of (reds received) 20 880

abbrev x : Fed
x = record { blue = blue; green = green; red = red }

part : (words : List ℕ) (from many : ℕ) → length words ≡ 91 → from + many ≤ 910 → IsPart words from many (part_of words from many)
part words from many long le = record { within = omega arith; bits_are = refl }

long_lane : (g : Column → ℕ) → length (map g received) ≡ 91
long_lane g = length-map received g ∙ long

is_tap : IsTap received 0 skews counts blue green red
is_tap = record {
  blue_part = part (blues received) 0 900 (long_lane (λ c. c.blue)) (omega arith);
  green_part = part (greens received) 10 890 (long_lane (λ c. c.green)) (omega arith);
  red_part = part (reds received) 20 880 (long_lane (λ c. c.red)) (omega arith);
}

small : HasSmallSkew skews
small = record { blue_green = (omega arith, omega arith); green_red = (omega arith, omega arith); blue_red = (omega arith, omega arith) }

each_lane : (P : ℕ → Type 0) → P 0 → P 1 → P 2 → (lane : ℕ) → lane < 3 → P lane
each_lane P b g r zero lt = b
each_lane P b g r (suc zero) lt = g
each_lane P b g r (suc (suc zero)) lt = r
each_lane P b g r (suc (suc (suc lane))) lt = absurd (omega arith)

holds : HoldsEnd 0 skews counts 24
holds = record {
  begins = each_lane (λ lane. 0 + slice_index skews lane + 120 ≤ 10 * 24) (omega arith) (omega arith) (omega arith);
  reaches = each_lane (λ lane. 10 * 24 + 10 ≤ 0 + slice_index skews lane + slice_index counts lane) (omega arith) (omega arith) (omega arith);
}

aligns : AlignsUntil stream sent received 0 skews counts 24
aligns = record { after = after_first; spares = spares; holds = holds }

blue_long : length blue ≡ 900
blue_long = let l = long_lane (λ c. c.blue) in length-part (blues received) 0 900 (omega arith)

green_long : length green ≡ 890
green_long = let l = long_lane (λ c. c.green) in length-part (greens received) 10 890 (omega arith)

red_long : length red ≡ 880
red_long = let l = long_lane (λ c. c.red) in length-part (reds received) 20 880 (omega arith)

-- Its lanes have no strays.

-- the tests of a lane whose characters begin with it: no control character lies in another phase
record HasTests (xs : List Bool) : Type 0 where
  short : length xs ≤ 900
  run : runs_at xs 0 ≡ true
  none : none_before xs 0 ≡ true
  apart : passes_below 900 (λ p. (p % 10 == 0) || not (has (window xs p))) ≡ true

either_so : (a b : Bool) → (a || b) ≡ true → (a ≡ true) ⊎ (b ≡ true)
either_so true b h = inl refl
either_so false b h = inr h

no_stray : (xs : List Bool) → HasTests xs → HasNoStray xs
no_stray xs t p stray =
    let same = one_lock xs stray.lock 0 stray.is_lock (is_lock xs 0 t.run t.none) in
    let short = t.short in
    let here = stray.run 0 (omega arith) in
    let at : p + 10 * 0 ≡ p = omega arith in
    let inside = (window_is xs (p + 10 * 0) here.word here.here).0 in
    let control : has (window xs p) ≡ true = ap (λ q. has (window xs q)) (sym at) ∙ to_has xs (p + 10 * 0) here in
    elim (either_so (p % 10 == 0) (not (has (window xs p))) (passes_at 900 (λ p. (p % 10 == 0) || not (has (window xs p))) p t.apart (omega arith))) [
      | inl phase ↦ let is = eqb-true (p % 10) 0 phase in absurd (stray.apart (omega arith))
      | inr none ↦ absurd (clash (has (window xs p)) control (not_true (has (window xs p)) none))
    ]

blue_tests : HasTests blue
unfolding passes_below received sent values_of control_words video_guard has window row_bits word_bits bits_of number is_control is_in
blue_tests = let l = blue_long in record { short = omega arith; run = refl; none = refl; apart = refl }

green_tests : HasTests green
unfolding passes_below received sent values_of control_words video_guard has window row_bits word_bits bits_of number is_control is_in
green_tests = let l = green_long in record { short = omega arith; run = refl; none = refl; apart = refl }

red_tests : HasTests red
unfolding passes_below received sent values_of control_words video_guard has window row_bits word_bits bits_of number is_control is_in
red_tests = let l = red_long in record { short = omega arith; run = refl; none = refl; apart = refl }

-- The second line stands alone.

abbrev front : List Period
front = control (record { value = 0; count = 16 } ∷ (record { value = 4; count = 8 } ∷ [])) ∷ (video (replicate 90 16) ∷ (control (record { value = 0; count = 12 } ∷ (record { value = 4; count = 8 } ∷ [])) ∷ []))

abbrev alone : Period
alone = video (replicate 3 16)

abbrev back : List Period
back = control (record { value = 0; count = 12 } ∷ []) ∷ []

whole : stream ≡ front ++ (alone ∷ back)
unfolding stream
whole = refl

before_it : columns_of front ≡ 76
unfolding columns_of period_columns values_of
before_it = refl

size : period_columns alone ≡ 3
unfolding period_columns
size = refl

same_line : part_at 76 alone received ≡ part_at 76 alone sent
unfolding received sent period_columns values_of control_words video_guard
same_line = refl

twelve : list_all is_control_column (twelve_before 76 received) ≡ true
unfolding received sent values_of control_words video_guard is_control_column is_control is_in one_if
twelve = refl

many : length (twelve_before 76 received) ≡ 12
unfolding received sent values_of video_guard
many = refl

next : is_control_column (column_at received 79) ≡ true
unfolding received sent values_of control_words video_guard is_control_column is_control is_in one_if
next = refl

own_narrow : (i : ℕ) → i < length (part_at 76 alone sent) → IsNarrow (column_at (part_at 76 alone sent) i)
own_narrow i lt =
    let l = long_sent in
    let n = size in
    let d = length-drop 76 sent in
    let t = length-take-le (period_columns alone) (drop 76 sent) (omega arith) in
    subst IsNarrow (sym (get_or-take (period_columns alone) (drop 76 sent) i _ (omega arith) ∙ get_or-drop 76 sent i _)) (are_characters sent narrow_sent (76 + i) (omega arith))

stands : StandsAlone received alone sent 76
stands =
    let m = many in
    let n = size in
    record {
      sparse = subst (IsSparse (alone ∷ []) (part_at 76 alone sent)) (sym same_line) (spared (alone ∷ []) (part_at 76 alone sent) own_narrow);
      before = record { long = omega arith; all = twelve };
      next = ap (λ k. is_control_column (column_at received (76 + k))) size ∙ next;
    }

is_line : is_between alone ≡ true
unfolding is_video_period
is_line = refl

past_it : (a d e f : ℕ) → BeginColumn 0 skews (a + 12) d e f → 79 < a + length (aligned_columns blue green red d e f)
unfolding aligned_columns
past_it a d e f at =
    let lx = blue_long in
    let ly = green_long in
    let lz = red_long in
    let wx = length-words_from blue (d - 120) in
    let wy = length-words_from green (e - 120) in
    let wz = length-words_from red (f - 120) in
    let p = at.blue in
    let q = at.green in
    let r = at.red in
    let n = many_columns (80 - a) (words_from blue (d - 120)) (words_from green (e - 120)) (words_from red (f - 120)) (omega arith) (omega arith) (omega arith) in
    omega arith

abbrev tapped : TappedStream
tapped = record {
  periods = stream;
  sent = sent;
  received = received;
  offset = 0;
  skews = skews;
  counts = counts;
  blue = blue;
  green = green;
  red = red;
  bytes = layout 2 blue green red;
}

pub burst : HasBurst
burst =
    let b = blue_long in
    let g = green_long in
    let r = red_long in
    let j = before_it in
    let s = size in
    let n = next_same in (
      tapped,
      24,
      front,
      alone,
      back,
      record {
        are = whole;
        bytes_are = refl;
        tapped = record { reception = received_until; tap = is_tap; small = small; captured = captured blue green red (omega arith) (omega arith) (omega arith) };
        aligns = aligns;
        clear = record {
          next = omega arith;
          no_stray = each_lane (λ l. HasNoStray (lane_of x l)) (no_stray blue blue_tests) (no_stray green green_tests) (no_stray red red_tests);
          clear_ends = clear_ends;
        };
        burst = (30, omega arith, omega arith, lost);
        between = is_line;
        alone = subst (StandsAlone received alone sent) (sym before_it) stands;
        later = omega arith;
        within = λ a d e f at. let w = past_it a d e f at in omega arith;
      },
    )
