-- The short stream with a pixel of which no word was received as it was sent: no lane of its tap has a stray.
use Rattle.std.proofs.Common.{◌≡◌, ℕ, zero, suc, Bool, true, false, ◌||◌, List, length, map, take, drop, get_or, replicate, refl, ◌∙◌, arith, nat_le}
use Rattle.std.proofs.lemmas.Bool.{leb-true}
use Rattle.std.proofs.lemmas.List.{length-map}
use Rattle.tmds_word.specs.Bits.{turns, unlike, bits_of, word_bits}
use Rattle.tmds_word.specs.Column.{Column, blues, greens, reds}
use Rattle.tmds_word.specs.Taps.{part_of}
use Rattle.tmds_word.proofs.Below.{passes_below, passes_at}
use Rattle.terc4.specs.Tables.{control_words, video_guard, island_guard, terc_words, is_in, is_control}
use Rattle.terc4.specs.Columns.{one_if}
use Rattle.lane_align.specs.Laws.{marked, IsCalm}
use Rattle.lane_track.proofs.Strays.{calm_has_none}
use Rattle.island_pack.specs.Periods.{values_of}
use Rattle.link_sink.specs.Sinks.{Fed}
use Rattle.link_laws.proofs.Computed.{or_second}
use Rattle.link_laws.proofs.Stream.{last_period, sent}
use Rattle.link_laws.proofs.Example.{counts}
use Rattle.link_laws.proofs.LocalExample.{received, front, alone, long, is_local_example}
use Rattle.track_sink.specs.Epochs.{HasNoEnd}
use Rattle.track_laws.specs.Laws.{HasTrackLocalExample}

-- Each word is a control word or has at most five turns, those of the lost pixel too: no mark is needed.

abbrev is_plain : List ℕ → ℕ → Bool
is_plain words i = is_control (get_or words i 0) || nat_le (turns (word_bits (get_or words i 0))) 5

unfoldable marks : List Bool
marks = replicate 87 false

long_marks : length marks ≡ 87
unfolding marks
long_marks = refl

few_test : passes_below 77 (λ i. nat_le (marked (take 11 (drop i marks))) 2) ≡ true
unfolding passes_below marks marked one_if
few_test = refl

calm : (words : List ℕ) → length words ≡ 87 → passes_below 87 (is_plain words) ≡ true → IsCalm words marks
calm words size plain =
    let m = long_marks in
    record {
      same_length = omega arith;
      plain = λ i lt u c. leb-true _ _ (or_second _ _ (passes_at 87 (is_plain words) i plain (omega arith)) c);
      few = λ i within. leb-true _ _ (passes_at 77 (λ i. nat_le (marked (take 11 (drop i marks))) 2) i few_test (omega arith));
    }

blue_plain : passes_below 87 (is_plain (blues received)) ≡ true
unfolding passes_below received values_of turns unlike word_bits bits_of is_control is_in control_words terc_words video_guard island_guard
blue_plain = refl

green_plain : passes_below 87 (is_plain (greens received)) ≡ true
unfolding passes_below received values_of turns unlike word_bits bits_of is_control is_in control_words terc_words video_guard island_guard
green_plain = refl

red_plain : passes_below 87 (is_plain (reds received)) ≡ true
unfolding passes_below received values_of turns unlike word_bits bits_of is_control is_in control_words terc_words video_guard island_guard
red_plain = refl

long_lane : (g : Column → ℕ) → length (map g received) ≡ 87
long_lane g = length-map received g ∙ long

abbrev x : Fed
x = record { blue = part_of (blues received) 7 863; green = part_of (greens received) 77 793; red = part_of (reds received) 42 828 }

one_epoch : HasNoEnd x
one_epoch zero lt = calm_has_none (blues received) marks (calm (blues received) (long_lane (λ c. c.blue)) blue_plain) 7 863
one_epoch (suc zero) lt = calm_has_none (greens received) marks (calm (greens received) (long_lane (λ c. c.green)) green_plain) 77 793
one_epoch (suc (suc l)) lt = calm_has_none (reds received) marks (calm (reds received) (long_lane (λ c. c.red)) red_plain) 42 828

pub local_example : HasTrackLocalExample
local_example = (front, alone, last_period, sent, received, counts, 24, x, is_local_example, one_epoch)
