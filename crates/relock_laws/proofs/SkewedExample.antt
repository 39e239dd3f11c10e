-- Lanes one of which has a character more after the first guard band, and a control period that is received whole after that.
use Rattle.std.proofs.Common.{◌≡◌, ℕ, ◌+◌, ◌-◌, ◌*◌, ◌≤◌, Bool, true, false, not, ◌&&◌, List, [], ◌∷◌, ◌++◌, replicate, refl, arith, Some}
use Rattle.tmds_word.specs.Bits.{bits_of, word_bits, row_bits, number, window}
use Rattle.tmds_word.specs.Column.{Column, column_of}
use Rattle.tmds_word.proofs.Below.{and-left, and-right, passes_below, passes_at}
use Rattle.terc4.specs.Tables.{control_words, is_in, is_control, video_guard}
use Rattle.lane_align.specs.Lanes.{IsEdge}
use Rattle.lane_deskew.specs.Aligned.{aligned_column}
use Rattle.link_laws.proofs.Computed.{has, to_has, runs_at, none_before, is_edge}
use Rattle.link_sink.specs.Sinks.{Fed}
use Rattle.relock_sink.specs.Rivals.{IsConfirmed}
use Rattle.relock_laws.specs.Settled.{IsGoodPeriod}
use Rattle.relock_laws.specs.Doubted.{IsWholeRun}
use Rattle.relock_laws.specs.RefutingSettled.{IsWholeGoodPeriod, HasSkewedExample}
use Rattle.relock_laws.proofs.AgainExample.{from_has, nineteen_at, nineteen, announced_test}
use Rattle.relock_laws.proofs.WholeExample.{other, others_at, goes_on, whole_test}

-- nineteen control characters, a guard band, and fourteen characters of a line
abbrev period : ℕ → List ℕ
period guard = replicate 19 0x354 ++ (guard ∷ (guard ∷ replicate 14 0x1f0))

-- twelve control characters, a guard band, three characters and some more, and such a period
abbrev words : ℕ → List ℕ → List ℕ
words guard more = replicate 12 0x354 ++ (guard ∷ (guard ∷ (replicate 3 0x1f0 ++ (more ++ period guard))))

unfoldable blue : List Bool
blue = row_bits (words 0x2cc [])

unfoldable green : List Bool
green = row_bits (words 0x133 [])

unfoldable red : List Bool
red = row_bits (words 0x2cc (0x1f0 ∷ []))

abbrev fed : Fed
fed = record { blue = blue; green = green; red = red }

-- One lane.

-- so many windows up to a place are control words, and the three before them are none
unfoldable pub run_at : List Bool → (e n : ℕ) → Bool
run_at xs e n = passes_below n (λ k. has (window xs (e - 10 - 10 * k))) && passes_below 3 (λ k. not (has (window xs (e - 10 * n - 10 - 10 * k))))

not_both : (b : Bool) → not b ≡ true → b ≡ true → ⊥
not_both true none is = cc
not_both false none is = cc

pub whole_run : (xs : List Bool) (e n : ℕ) → 10 * n + 30 ≤ e → run_at xs e n ≡ true → IsWholeRun xs e n
unfolding run_at
whole_run xs e n far test = record {
  begins = far;
  controls = λ k lt. from_has xs (e - 10 - 10 * k) (window xs (e - 10 - 10 * k)) refl (passes_at n (λ j. has (window xs (e - 10 - 10 * j))) k (and-left _ _ test) lt);
  others = λ k lt is. not_both (has (window xs (e - 10 * n - 10 - 10 * k)))
      (passes_at 3 (λ j. not (has (window xs (e - 10 * n - 10 - 10 * j)))) k (and-right _ _ test) lt) (to_has xs (e - 10 * n - 10 - 10 * k) is);
}

-- the tests of a lane whose second control period ends at a place
record HasTests (xs : List Bool) (d w : ℕ) : Type 0 where
  run : runs_at xs 0 ≡ true
  none : none_before xs 0 ≡ true
  other : window xs 120 ≡ Some w
  no_control : is_control w ≡ false
  second : nineteen_at xs d ≡ true
  second_on : others_at xs d ≡ true
  second_run : run_at xs d 19 ≡ true

blue_tests : HasTests blue 360 0x2cc
unfolding passes_below nineteen_at others_at run_at other blue has window row_bits word_bits bits_of number is_control is_in control_words
blue_tests = record { run = refl; none = refl; other = refl; no_control = refl; second = refl; second_on = refl; second_run = refl }

green_tests : HasTests green 360 0x133
unfolding passes_below nineteen_at others_at run_at other green has window row_bits word_bits bits_of number is_control is_in control_words
green_tests = record { run = refl; none = refl; other = refl; no_control = refl; second = refl; second_on = refl; second_run = refl }

red_tests : HasTests red 370 0x2cc
unfolding passes_below nineteen_at others_at run_at other red has window row_bits word_bits bits_of number is_control is_in control_words
red_tests = record { run = refl; none = refl; other = refl; no_control = refl; second = refl; second_on = refl; second_run = refl }

own_edge : (xs : List Bool) (d w : ℕ) → HasTests xs d w → IsEdge xs 120
own_edge xs d w t = is_edge xs 0 120 w t.run t.none t.run t.other t.no_control (omega arith) refl

-- Three lanes.

abbrev guards : Column
guards = column_of video_guard

own : IsConfirmed fed 120 120 120
unfolding aligned_column blue green red window row_bits word_bits bits_of number video_guard
own = record {
  first = record {
    triple = record {
      blue = own_edge blue 360 0x2cc blue_tests;
      green = own_edge green 360 0x133 green_tests;
      red = own_edge red 370 0x2cc red_tests;
      blue_green = (omega arith, omega arith);
      green_red = (omega arith, omega arith);
      blue_red = (omega arith, omega arith);
    };
    least = λ p q r t. let past = t.blue.past in let after = t.green.past in let beyond = t.red.past in omega arith;
  };
  columns = record { here = guards; next = guards; is_here = refl; is_next = refl; so = announced_test };
}

first_good : IsGoodPeriod fed 360 360 370
unfolding aligned_column blue green red window row_bits word_bits bits_of number video_guard
first_good = record {
  blue = nineteen blue 360 (omega arith) blue_tests.second;
  green = nineteen green 360 (omega arith) green_tests.second;
  red = nineteen red 370 (omega arith) red_tests.second;
  blue_green = (omega arith, omega arith);
  green_red = (omega arith, omega arith);
  blue_red = (omega arith, omega arith);
  opens = record { here = guards; next = guards; is_here = refl; is_next = refl; so = announced_test };
}

first : IsWholeGoodPeriod fed 360 360 370
unfolding aligned_column blue green red window row_bits word_bits bits_of number video_guard
first = record {
  good = first_good;
  band = record { here = guards; next = guards; is_here = refl; is_next = refl; so = whole_test };
  blue_on = goes_on blue 360 blue_tests.second_on;
  green_on = goes_on green 360 green_tests.second_on;
  red_on = goes_on red 370 red_tests.second_on;
}

pub skewed_example : HasSkewedExample
skewed_example = (
  fed,
  120,
  120,
  120,
  360,
  360,
  370,
  19,
  own,
  record {
    good = first;
    blue = whole_run blue 360 19 (omega arith) blue_tests.second_run;
    green = whole_run green 360 19 (omega arith) green_tests.second_run;
    red = whole_run red 370 19 (omega arith) red_tests.second_run;
  },
  omega arith,
  omega arith,
  omega arith,
  λ same. let apart = same.1 in omega arith,
)
