-- The short stream after three other bits, with ten columns before its control period and five after its long line of which no character was
-- received as it was sent: the control period comes whole, and the long line stands alone.
use Rattle.std.proofs.Common.{◌≡◌, ◌⊎◌, ℕ, ◌+◌, ◌-◌, ◌*◌, ◌%◌, ◌<◌, ◌≤◌, Bool, true, false, not, ◌&&◌, ◌||◌, ◌==◌, List, [], ◌∷◌, ◌++◌, length, map, take, drop, replicate, refl, ap, ap₂, ◌∙◌, sym, subst, arith, inl, inr, eqb-true, length-drop, length-take-le}
use Rattle.std.specs.List.{list_all}
use Rattle.std.proofs.lemmas.Bool.{cases_lt}
use Rattle.std.proofs.lemmas.List.{length-map, get_or_past, get_or-take, get_or-drop}
use Rattle.tmds_word.specs.Bits.{bits_of, word_bits, row_bits, number, window}
use Rattle.tmds_word.specs.Column.{Column, blues, greens, reds}
use Rattle.tmds_word.specs.Taps.{part_of, IsPart, IsTap}
use Rattle.tmds_word.proofs.Below.{and-left, and-right, passes_below, passes_at}
use Rattle.terc4.specs.Columns.{one_if, is_control_column, is_twelve_or_more}
use Rattle.terc4.specs.Tables.{control_words, terc_words, video_guard, island_guard, is_control, is_guard, is_in, value_in}
use Rattle.island_pack.specs.Conforming.{is_video_period}
use Rattle.island_pack.specs.Periods.{ControlRun, Period, control, video, values_of, period_columns, columns_of}
use Rattle.island_pack.specs.Sparse.{no_column, column_at, unlike_words, unlike_at, IsNarrow, IsSparse}
use Rattle.lane_align.specs.Lanes.{IsRun}
use Rattle.lane_align.proofs.Controls.{window_is}
use Rattle.lane_track.proofs.Around.{length-part}
use Rattle.link_laws.specs.Local.{StandsAlone, is_between, part_at, twelve_before}
use Rattle.link_laws.proofs.Computed.{has, to_has, not_true, clash}
use Rattle.link_laws.proofs.Freely.{free_spelled, spared}
use Rattle.link_laws.proofs.Stream.{is_narrow, narrow_column}
use Rattle.link_sink.specs.Sinks.{Fed}
use Rattle.relock_laws.specs.Doubted.{is_guard_word, IsUnmistaken, IsUnmistakenColumn}
use Rattle.relock_laws.specs.WholeAmid.{HasClearEndsFrom, HasNoStrayFrom, ReceivedAnyhow, ComesWholeAmid, IsAmidExample, HasAmidExample}
use Rattle.relock_laws.proofs.ShortStream.{stream, sent, conforming, spelled, long_sent, whole, first_runs, second_runs, last_runs}

-- The columns.

abbrev other : Column
other = record { blue = 0x3ff; green = 0x3ff; red = 0x3ff }

unfoldable pub received : List Column
received = replicate 10 other ++ (take 70 (drop 10 sent) ++ (replicate 5 other ++ drop 85 sent))

long : length received ≡ 91
unfolding received sent values_of video_guard
long = refl

narrow_sent : passes_below 91 (λ i. is_narrow (column_at sent i)) ≡ true
unfolding passes_below sent values_of control_words video_guard
narrow_sent = refl

narrow_received : passes_below 91 (λ i. is_narrow (column_at received i)) ≡ true
unfolding passes_below received sent values_of control_words video_guard
narrow_received = refl

are_characters : (cs : List Column) → passes_below 91 (λ i. is_narrow (column_at cs i)) ≡ true → (i : ℕ) → i < 91 → IsNarrow (column_at cs i)
are_characters cs narrow i lt = narrow_column _ (passes_at 91 (λ i. is_narrow (column_at cs i)) i narrow lt)

reception : ReceivedAnyhow stream sent received
reception =
    let l = long in
    let s = long_sent in
    record {
      conforming = conforming;
      spelled = free_spelled stream sent spelled;
      same_length = long ∙ sym long_sent;
      characters = λ i lt. are_characters received narrow_received i (omega arith);
    }

same_test : passes_below 38 (λ n. unlike_at sent received (24 + n) == 0) ≡ true
unfolding passes_below unlike_words one_if received sent values_of control_words video_guard
same_test = refl

as_sent : (k : ℕ) → 24 ≤ k → k < 62 → unlike_at sent received k ≡ 0
as_sent k low high =
    let at : 24 + (k - 24) ≡ k = omega arith in
    subst (λ n. unlike_at sent received n ≡ 0) at (eqb-true (unlike_at sent received (24 + (k - 24))) 0 (passes_at 38 (λ n. unlike_at sent received (24 + n) == 0) (k - 24) same_test (omega arith)))

lost_before : unlike_at sent received 9 ≡ 3
unfolding unlike_words one_if received sent values_of control_words video_guard
lost_before = refl

lost_after : unlike_at sent received 80 ≡ 3
unfolding unlike_words one_if received sent values_of control_words video_guard
lost_after = refl

-- No character was received as a control or guard character that it was not.

abbrev is_clear : ℕ → ℕ → Bool
is_clear s r = (is_control s || not (is_control r)) && (not (is_control s) || not (is_guard_word r))

abbrev is_clear_column : Column → Column → Bool
is_clear_column s r = is_clear s.blue r.blue && (is_clear s.green r.green && is_clear s.red r.red)

unmistaken : (s r : ℕ) → is_clear s r ≡ true → IsUnmistaken s r
unmistaken s r h =
    by (is_control s) (is_control r) (is_guard_word r) refl refl refl (and-left (is_control s || not (is_control r)) (not (is_control s) || not (is_guard_word r)) h)
    (and-right (is_control s || not (is_control r)) (not (is_control s) || not (is_guard_word r)) h)
  where
    by : (a b c : Bool) → is_control s ≡ a → is_control r ≡ b → is_guard_word r ≡ c → (is_control s || not (is_control r)) ≡ true → (not (is_control s) || not (is_guard_word r)) ≡ true → IsUnmistaken s r
    by a b c x y z f g = record { control = λ e. grind arith; guard = λ e k. grind arith }

pub unmistaken_column : (s r : Column) → is_clear_column s r ≡ true → IsUnmistakenColumn s r
unmistaken_column s r h =
    let more = and-right (is_clear s.blue r.blue) (is_clear s.green r.green && is_clear s.red r.red) h in
    record {
      blue = unmistaken s.blue r.blue (and-left (is_clear s.blue r.blue) (is_clear s.green r.green && is_clear s.red r.red) h);
      green = unmistaken s.green r.green (and-left (is_clear s.green r.green) (is_clear s.red r.red) more);
      red = unmistaken s.red r.red (and-right (is_clear s.green r.green) (is_clear s.red r.red) more);
    }

clear_test : passes_below 91 (λ k. is_clear_column (column_at sent k) (column_at received k)) ≡ true
unfolding passes_below received sent values_of control_words terc_words video_guard island_guard is_control is_guard is_in value_in is_twelve_or_more
clear_test = refl

clear_past : is_clear_column no_column no_column ≡ true
unfolding control_words terc_words video_guard island_guard is_control is_guard is_in value_in is_twelve_or_more
clear_past = refl

no_more : (cs : List Column) → length cs ≡ 91 → (i : ℕ) → 91 ≤ i → column_at cs i ≡ no_column
no_more cs long i le = get_or_past cs i no_column (omega arith)

clear_ends : HasClearEndsFrom sent received 47
clear_ends i k late is_last is_ended low high = unmistaken_column (column_at sent k) (column_at received k) (elim (cases_lt k 91) [
  | inl lt ↦ passes_at 91 (λ k. is_clear_column (column_at sent k) (column_at received k)) k clear_test lt
  | inr le ↦ ap₂ is_clear_column (no_more sent long_sent k le) (no_more received long k le) ∙ clear_past
])

-- The lanes, with three bits first: no control character lies in another phase.

abbrev ahead : List Bool → List Bool
ahead us = true ∷ (false ∷ (false ∷ us))

abbrev x : Fed
x = record { blue = part_of (blues received) 0 900; green = part_of (greens received) 10 890; red = part_of (reds received) 20 880 }

abbrev lanes : Fed
lanes = record { blue = ahead x.blue; green = ahead x.green; red = ahead x.red }

part : (words : List ℕ) (from many : ℕ) → length words ≡ 91 → from + many ≤ 910 → IsPart words from many (part_of words from many)
part words from many long le = record { within = omega arith; bits_are = refl }

long_lane : (g : Column → ℕ) → length (map g received) ≡ 91
long_lane g = length-map received g ∙ long

pub long_blue : length x.blue ≡ 900
long_blue = let l = long_lane (λ c. c.blue) in length-part (blues received) 0 900 (omega arith)

pub long_green : length x.green ≡ 890
long_green = let l = long_lane (λ c. c.green) in length-part (greens received) 10 890 (omega arith)

pub long_red : length x.red ≡ 880
long_red = let l = long_lane (λ c. c.red) in length-part (reds received) 20 880 (omega arith)

abbrev phases : List Bool → Bool
phases xs = passes_below 903 (λ p. (p % 10 == 3) || not (has (window xs p)))

blue_phases : phases lanes.blue ≡ true
unfolding passes_below received sent values_of control_words video_guard has window row_bits word_bits bits_of number is_control is_in
blue_phases = refl

green_phases : phases lanes.green ≡ true
unfolding passes_below received sent values_of control_words video_guard has window row_bits word_bits bits_of number is_control is_in
green_phases = refl

red_phases : phases lanes.red ≡ true
unfolding passes_below received sent values_of control_words video_guard has window row_bits word_bits bits_of number is_control is_in
red_phases = refl

either_so : (a b : Bool) → (a || b) ≡ true → (a ≡ true) ⊎ (b ≡ true)
either_so true b h = inl refl
either_so false b h = inr h

no_stray : (xs : List Bool) (e : ℕ) → length xs ≤ 903 → e % 10 ≡ 3 → phases xs ≡ true → HasNoStrayFrom xs e
no_stray xs e short phase apart p late run =
    let here = run 0 (omega arith) in
    let at : p + 10 * 0 ≡ p = omega arith in
    let inside = (window_is xs (p + 10 * 0) here.word here.here).0 in
    let control : has (window xs p) ≡ true = ap (λ q. has (window xs q)) (sym at) ∙ to_has xs (p + 10 * 0) here in
    elim (either_so (p % 10 == 3) (not (has (window xs p))) (passes_at 903 (λ p. (p % 10 == 3) || not (has (window xs p))) p apart (omega arith))) [
      | inl same ↦ let is = eqb-true (p % 10) 3 same in omega arith
      | inr none ↦ absurd (clash (has (window xs p)) control (not_true (has (window xs p)) none))
    ]

comes : ComesWholeAmid stream sent received 0 (0 ∷ (10 ∷ (20 ∷ []))) (900 ∷ (890 ∷ (880 ∷ []))) x lanes (3 ∷ (3 ∷ (3 ∷ []))) 27 35 473 463 453
comes =
    let lb = long_blue in
    let lg = long_green in
    let lr = long_red in
    record {
      reception = reception;
      tapped = record {
        blue_part = part (blues received) 0 900 (long_lane (λ c. c.blue)) (omega arith);
        green_part = part (greens received) 10 890 (long_lane (λ c. c.green)) (omega arith);
        red_part = part (reds received) 20 880 (long_lane (λ c. c.red)) (omega arith);
      };
      blue_after = refl;
      green_after = refl;
      red_after = refl;
      whole = whole received as_sent;
      blue = record { at = omega arith; from = omega arith; upto = omega arith };
      green = record { at = omega arith; from = omega arith; upto = omega arith };
      red = record { at = omega arith; from = omega arith; upto = omega arith };
      blue_green = (omega arith, omega arith);
      green_red = (omega arith, omega arith);
      blue_red = (omega arith, omega arith);
      clear_ends = clear_ends;
      blue_stays = no_stray lanes.blue 473 (omega arith) (omega arith) blue_phases;
      green_stays = no_stray lanes.green 463 (omega arith) (omega arith) green_phases;
      red_stays = no_stray lanes.red 453 (omega arith) (omega arith) red_phases;
    }

-- The long line stands alone.

abbrev front : List Period
front = control first_runs ∷ (video (replicate 3 16) ∷ (control second_runs ∷ []))

abbrev alone : Period
alone = video (replicate 90 16)

abbrev back : List Period
back = control last_runs ∷ []

are : stream ≡ front ++ (alone ∷ back)
unfolding stream
are = refl

before_it : columns_of front ≡ 47
unfolding columns_of period_columns values_of
before_it = refl

size : period_columns alone ≡ 32
unfolding period_columns
size = refl

same_line : part_at 47 alone received ≡ part_at 47 alone sent
unfolding received sent period_columns values_of control_words video_guard
same_line = refl

twelve : list_all is_control_column (twelve_before 47 received) ≡ true
unfolding received sent values_of control_words video_guard is_control_column is_control is_in one_if
twelve = refl

many : length (twelve_before 47 received) ≡ 12
unfolding received sent values_of video_guard
many = refl

next : is_control_column (column_at received 79) ≡ true
unfolding received sent values_of control_words video_guard is_control_column is_control is_in one_if
next = refl

own_narrow : (i : ℕ) → i < length (part_at 47 alone sent) → IsNarrow (column_at (part_at 47 alone sent) i)
own_narrow i lt =
    let l = long_sent in
    let n = size in
    let d = length-drop 47 sent in
    let t = length-take-le (period_columns alone) (drop 47 sent) (omega arith) in
    subst IsNarrow (sym (get_or-take (period_columns alone) (drop 47 sent) i _ (omega arith) ∙ get_or-drop 47 sent i _)) (are_characters sent narrow_sent (47 + i) (omega arith))

stands : StandsAlone received alone sent 47
stands =
    let m = many in
    let n = size in
    record {
      sparse = subst (IsSparse (alone ∷ []) (part_at 47 alone sent)) (sym same_line) (spared (alone ∷ []) (part_at 47 alone sent) own_narrow);
      before = record { long = omega arith; all = twelve };
      next = ap (λ k. is_control_column (column_at received (47 + k))) size ∙ next;
    }

is_line : is_between alone ≡ true
unfolding is_video_period
is_line = refl

pub amid_example : HasAmidExample
amid_example =
    let b = before_it in
    let s = size in
    let lb = long_blue in
    let lg = long_green in
    let lr = long_red in (
      stream,
      sent,
      received,
      0,
      0 ∷ (10 ∷ (20 ∷ [])),
      900 ∷ (890 ∷ (880 ∷ [])),
      x,
      lanes,
      3 ∷ (3 ∷ (3 ∷ [])),
      27,
      35,
      473,
      463,
      453,
      record {
        comes = comes;
        front = front;
        alone = alone;
        back = back;
        are = are;
        between = is_line;
        stands = subst (StandsAlone received alone sent) (sym before_it) stands;
        late = omega arith;
        blue_within = omega arith;
        green_within = omega arith;
        red_within = omega arith;
        lost_before = (9, omega arith, lost_before);
        lost_after = (80, omega arith, lost_after);
        few = omega arith;
      },
    )
