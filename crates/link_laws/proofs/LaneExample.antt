-- A short stream that meets the premises: 13 control columns, a video period of one pixel, 12 control columns.
use Rattle.std.proofs.Common.{◌≡◌, ℕ, ◌<◌, ◌≤◌, Bool, true, false, not, ◌||◌, List, [], ◌∷◌, ◌++◌, length, take, drop, get_or, replicate, refl, sym, subst, arith, nat_le, nat_lt, Some}
use Rattle.std.proofs.lemmas.Bool.{leb-true, ltb-true}
use Rattle.tmds_word.specs.Bits.{turns, unlike, bits_of, word_bits, row_bits, number, window}
use Rattle.tmds_word.proofs.Below.{passes_below, passes_at}
use Rattle.terc4.specs.Tables.{control_words, is_in, is_control}
use Rattle.terc4.specs.Columns.{one_if}
use Rattle.lane_align.specs.Lanes.{IsEdge}
use Rattle.lane_align.specs.Laws.{marked, IsCalm}
use Rattle.tmds_word.specs.Taps.{part_of, AreNear}
use Rattle.lane_align.proofs.Controls.{one_lock}
use Rattle.lane_deskew.specs.Triples.{IsFirst}
use Rattle.island_pack.specs.Periods.{ControlRun, Period, control, video, values_of, has_preamble}
use Rattle.island_pack.specs.Conforming.{is_control_period, is_video_period, conforms, IsConforming}
use Rattle.island_pack.specs.Kinds.{Kind, control_column, first_guard, second_guard, pixel_column, packet_column, IsPayload, kinds_in, kinds_of, kind_at}
use Rattle.link_laws.specs.LaneEnds.{IsGuard, IsReceived, HasLaneExample}
use Rattle.link_laws.proofs.Computed.{or_second, not_true, has, runs_at, none_before, is_lock, is_edge}

-- five control columns, and eight that announce a video data period
opening : List ControlRun
opening = record { value = 0; count = 5 } ∷ (record { value = 4; count = 8 } ∷ [])

closing : List ControlRun
closing = record { value = 0; count = 12 } ∷ []

periods : List Period
periods = control opening ∷ (video (16 ∷ (16 ∷ (16 ∷ []))) ∷ (control closing ∷ []))

unfoldable kinds : List Kind
kinds = replicate 13 control_column ++ (first_guard ∷ (second_guard ∷ (pixel_column ∷ replicate 12 control_column)))

unfoldable words : List ℕ
words = replicate 13 852 ++ (716 ∷ (716 ∷ (256 ∷ replicate 12 852)))

unfoldable marks : List Bool
marks = replicate 28 false

same_kinds : kinds_of periods ≡ kinds
unfolding periods opening closing kinds kinds_of kinds_in values_of
same_kinds = refl

conforming : IsConforming periods
unfolding periods opening closing conforms is_control_period is_video_period has_preamble values_of
conforming = refl

unfoldable fits : Kind → ℕ → Bool
fits control_column w = is_control w
fits first_guard w = not (is_control w)
fits second_guard w = not (is_control w)
fits pixel_column w = not (is_control w)
fits packet_column w = not (is_control w)

fits_test : passes_below 28 (λ i. fits (kind_at kinds i) (get_or words i 0)) ≡ true
unfolding passes_below kinds words fits is_control is_in control_words
fits_test = refl

calm_test : passes_below 28 (λ i. is_control (get_or words i 0) || nat_le (turns (word_bits (get_or words i 0))) 5) ≡ true
unfolding passes_below words turns unlike word_bits bits_of is_control is_in control_words
calm_test = refl

few_test : passes_below 18 (λ i. nat_le (marked (take 11 (drop i marks))) 2) ≡ true
unfolding passes_below marks marked one_if
few_test = refl

below_test : passes_below 28 (λ i. nat_lt (get_or words i 0) 1024) ≡ true
unfolding passes_below words
below_test = refl

long_words : length words ≡ 28
unfolding words
long_words = refl

long_marks : length marks ≡ 28
unfolding marks
long_marks = refl

fits_at : (i : ℕ) → i < length words → fits (kind_at kinds i) (get_or words i 0) ≡ true
fits_at i lt = let l = long_words in passes_at 28 (λ i. fits (kind_at kinds i) (get_or words i 0)) i fits_test (omega arith)

fits_control : (k : Kind) (w : ℕ) → fits k w ≡ true → k ≡ control_column → is_control w ≡ true
unfolding fits
fits_control k w h e = subst (λ j. fits j w ≡ true) e h

fits_guard : (k : Kind) (w : ℕ) → fits k w ≡ true → IsGuard k → is_control w ≡ false
unfolding fits
fits_guard k w h l = grind (arith, not_true)

fits_payload : (k : Kind) (w : ℕ) → fits k w ≡ true → IsPayload k → is_control w ≡ false
unfolding fits
fits_payload k w h l = grind (arith, not_true)

calm : IsCalm words marks
calm =
    let l = long_words in
    let m = long_marks in
    record {
      same_length = omega arith;
      plain = λ i lt u c. leb-true _ _ (or_second _ _ (passes_at 28 (λ i. is_control (get_or words i 0) || nat_le (turns (word_bits (get_or words i 0))) 5) i calm_test (omega arith)) c);
      few = λ i within. leb-true _ _ (passes_at 18 (λ i. nat_le (marked (take 11 (drop i marks))) 2) i few_test (omega arith));
    }

received : IsReceived kinds words marks
received =
    let l = long_words in
    record {
      calm = calm;
      below = λ i lt. ltb-true _ _ (passes_at 28 (λ i. nat_lt (get_or words i 0) 1024) i below_test (omega arith));
      controls = λ i lt k. fits_control (kind_at kinds i) (get_or words i 0) (fits_at i lt) k;
      guards = λ i lt k. fits_guard (kind_at kinds i) (get_or words i 0) (fits_at i lt) k;
      payloads = λ i lt k u. fits_payload (kind_at kinds i) (get_or words i 0) (fits_at i lt) k;
    }

bits : List Bool
bits = part_of words 3 270

run_test : runs_at bits 7 ≡ true
unfolding passes_below bits words has window row_bits word_bits bits_of number is_control is_in control_words
run_test = refl

none_test : none_before bits 7 ≡ true
unfolding passes_below bits words has window row_bits word_bits bits_of number is_control is_in control_words
none_test = refl

edge_test : window bits 127 ≡ Some 716
unfolding bits words window row_bits word_bits bits_of number
edge_test = refl

guard_test : is_control 716 ≡ false
unfolding is_control is_in control_words
guard_test = refl

edge : IsEdge bits 127
edge = is_edge bits 7 127 716 run_test none_test run_test edge_test guard_test (omega arith) refl

near : AreNear 127 127
near = (omega arith, omega arith)

past : (e : ℕ) → IsEdge bits e → 127 ≤ e
past e h = let same = one_lock bits h.lock 7 h.is_lock (is_lock bits 7 run_test none_test) in let p = h.past in omega arith

first : IsFirst bits bits bits 127 127 127
first = record {
  triple = record { blue = edge; green = edge; red = edge; blue_green = near; green_red = near; blue_red = near };
  least = λ p q r t. let a = past p t.blue in omega arith;
}

pub example : HasLaneExample
unfolding bits
example = (
  periods,
  words,
  marks,
  127,
  record {
    conforming = conforming;
    received = subst (λ k. IsReceived k words marks) (sym same_kinds) received;
    first = first;
  },
)
