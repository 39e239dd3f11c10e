-- Taps of the short stream, one lane of which loses three bits in its first line, with the bytes of their captures: one that is noticed, and two that are not.
use Rattle.std.proofs.Common.{◌≡◌, ℕ, suc, zero, ◌+◌, ◌*◌, ◌^◌, ◌<◌, ◌≤◌, Bool, true, not, ◌&&◌, List, [], ◌∷◌, length, take, drop, refl, ap, ap₂, ◌∙◌, subst, arith}
use Rattle.std.specs.Prelude.{slice_index}
use Rattle.std.proofs.lemmas.List.{length-map, take-take}
use Rattle.tmds_word.specs.Bits.{bits_of, word_bits, row_bits, number, window}
use Rattle.tmds_word.specs.Column.{blues, greens, reds}
use Rattle.tmds_word.specs.Taps.{part_of, IsPart, IsTap, HasSmallSkew}
use Rattle.tmds_word.proofs.Below.{passes_below, passes_at}
use Rattle.terc4.specs.Tables.{control_words, is_in, is_control, video_guard}
use Rattle.capture_file.specs.Captures.{IsCaptureOf, layout}
use Rattle.island_pack.specs.Kinds.{control_column, pixel_column}
use Rattle.island_pack.specs.Periods.{values_of}
use Rattle.lane_align.specs.Lanes.{HasControl, IsRun, IsLock, IsEdge}
use Rattle.lane_deskew.specs.Triples.{IsFirst}
use Rattle.link_laws.proofs.Freely.{free_received}
use Rattle.link_laws.proofs.Computed.{has, not_true, clash, runs_at, none_before, is_lock}
use Rattle.link_laws.specs.Laws.{HoldsEnd}
use Rattle.link_sink.specs.Sinks.{Fed}
use Rattle.link_laws.proofs.Aligning.{first_until}
use Rattle.lane_track.specs.Slips.{slipped}
use Rattle.lane_track.proofs.Around.{length-part}
use Rattle.lane_track.proofs.Cutting.{length_slipped}
use Rattle.track_sink.specs.Epochs.{lane_of}
use Rattle.track_laws.specs.Laws.{Received, Slipped, SlipsInVideo}
use Rattle.track_laws.proofs.First.{first_same}
use Rattle.hdmi_cli.proofs.Unnoticed.{lane_like, lane_edges, short_passes}
use Rattle.track_laws.proofs.SlipExample.{lock}
use Rattle.track_laws.proofs.SlipStream.{stream, sent, received, long_received, reception, alone, after_first, after_second, pixels, then_control, middle, damaged}
use Rattle.hdmi_cli.specs.Headline.{TappedStream}
use Rattle.hdmi_cli.specs.TrackSlip.{LineSlip, IsSlippedTap, IsNoticed}
use Rattle.hdmi_cli.specs.TrackPasses.{HasNoLockBefore, EndsBeforeTwelve}
use Rattle.hdmi_cli.specs.TrackExamples.{IsSlipCase, HasNoticedSlip, HasShortSlip, HasUnlockedSlip}

-- The stream tapped from an offset on, so many bits of each lane; lane 0 loses its bits 407 to 409 of the stream.

abbrev skews : List ℕ
skews = 0 ∷ (70 ∷ (35 ∷ []))

abbrev later : List ℕ
later = 3 ∷ (70 ∷ (35 ∷ []))

abbrev lanes : ℕ → ℕ → ℕ → ℕ → Fed
lanes offset b g r = record { blue = part_of (blues received) (offset + 0) b; green = part_of (greens received) (offset + 70) g; red = part_of (reds received) (offset + 35) r }

abbrev left : ℕ → Fed → Fed
left place x = record { blue = slipped x.blue place 3; green = x.green; red = x.red }

abbrev tapped : ℕ → ℕ → ℕ → ℕ → ℕ → TappedStream
tapped offset place b g r = record {
  periods = stream;
  sent = sent;
  received = received;
  offset = offset;
  skews = skews;
  counts = b ∷ (g ∷ (r ∷ []));
  blue = (lanes offset b g r).blue;
  green = (lanes offset b g r).green;
  red = (lanes offset b g r).red;
  bytes = layout 2 (left place (lanes offset b g r)).blue (left place (lanes offset b g r)).green (left place (lanes offset b g r)).red;
}

abbrev loses : ℕ → LineSlip
loses place = record { lane = 0; place = place; dropped = 3; first = 26; next = 56 }

-- what is asked of the numbers
record AreFit (offset place b g r : ℕ) : Type 0 where
  at : offset + place ≡ 407
  begins : 120 ≤ place
  ends : place + 123 ≤ b
  blue_within : offset + b ≤ 910
  green_within : offset + 70 + g ≤ 910
  red_within : offset + 35 + r ≤ 910

long_blue : length (blues received) ≡ 91
long_blue = length-map received (λ c. c.blue) ∙ long_received

long_green : length (greens received) ≡ 91
long_green = length-map received (λ c. c.green) ∙ long_received

long_red : length (reds received) ≡ 91
long_red = length-map received (λ c. c.red) ∙ long_received

part : (words : List ℕ) (from many : ℕ) → length words ≡ 91 → from + many ≤ 910 → IsPart words from many (part_of words from many)
part words from many long le = record { within = omega arith; bits_are = refl }

is_tap : (offset place b g r : ℕ) → AreFit offset place b g r → IsTap received offset skews (b ∷ (g ∷ (r ∷ []))) (lanes offset b g r).blue (lanes offset b g r).green (lanes offset b g r).red
is_tap offset place b g r fit = grind (arith, part, received, long_red, length-map, long_received)

others_same : (place : ℕ) (x : Fed) (l : ℕ) → l < 3 → (l ≡ 0 → ⊥) → lane_of (left place x) l ≡ lane_of x l
others_same place x l h k = grind arith

slips : (place : ℕ) (x : Fed) → Slipped x 0 place 3 (left place x)
slips place x = grind arith

after : HasSmallSkew later
after = record { blue_green = (omega arith, omega arith); green_red = (omega arith, omega arith); blue_red = (omega arith, omega arith) }

no_pixel : control_column ≡ pixel_column → ⊥
no_pixel e = cc

in_line : (offset place b g r : ℕ) → AreFit offset place b g r → SlipsInVideo stream sent received offset skews (b ∷ (g ∷ (r ∷ []))) 0 place 3 26 56
in_line offset place b g r fit = grind (arith, alone, after, pixels, then_control, middle)

-- The bytes are the capture of the lanes that are left.

each_count : (P : ℕ → Type 0) (a b c : ℕ) → P a → P b → P c → (i : ℕ) → i < 3 → P (slice_index (a ∷ (b ∷ (c ∷ []))) i)
each_count P a b c p q r zero lt = p
each_count P a b c p q r (suc zero) lt = q
each_count P a b c p q r (suc (suc zero)) lt = r
each_count P a b c p q r (suc (suc (suc i))) lt = absurd (omega arith)

pub captured : (x y z : List Bool) → length x < 2 ^ 32 → length y < 2 ^ 32 → length z < 2 ^ 32 → IsCaptureOf x y z (layout 2 x y z)
unfolding layout
captured x y z small_x small_y small_z = grind arith

slipped_tap : (offset place b g r : ℕ) → AreFit offset place b g r → IsSlippedTap (tapped offset place b g r) (loses place) (left place (lanes offset b g r))
slipped_tap offset place b g r fit =
    let x = lanes offset b g r in
    let t = is_tap offset place b g r fit in
    let ends = fit.ends in
    let within = fit.blue_within in
    let green_within = fit.green_within in
    let red_within = fit.red_within in
    let blue : length x.blue ≡ b = length-part (blues received) (offset + 0) b t.blue_part.within in
    let green : length x.green ≡ g = length-part (greens received) (offset + 70) g t.green_part.within in
    let red : length x.red ≡ r = length-part (reds received) (offset + 35) r t.red_part.within in
    let size = length_slipped x.blue place 3 (omega arith) in
    record {
      reception = reception;
      tap = t;
      slips = slips place x;
      in_line = in_line offset place b g r fit;
      captured = captured (slipped x.blue place 3) x.green x.red (omega arith) (omega arith) (omega arith);
    }

slip_case : (says : Type 0) (offset place b g r : ℕ) → AreFit offset place b g r → says → IsSlipCase says (tapped offset place b g r) (loses place) (left place (lanes offset b g r))
slip_case says offset place b g r fit holds = record { bytes_are = refl; slipped = slipped_tap offset place b g r fit; damaged = damaged; holds = holds }

each_lane : (P : ℕ → Type 0) → P 0 → P 1 → P 2 → (l : ℕ) → l < 3 → P l
each_lane P p q r zero lt = p
each_lane P p q r (suc zero) lt = q
each_lane P p q r (suc (suc zero)) lt = r
each_lane P p q r (suc (suc (suc l))) lt = absurd (omega arith)

-- One that is noticed.

noticed_fit : AreFit 7 400 903 833 868
noticed_fit = record { at = omega arith; begins = omega arith; ends = omega arith; blue_within = omega arith; green_within = omega arith; red_within = omega arith }

is_noticed : IsNoticed (tapped 7 400 903 833 868) (loses 400)
is_noticed = record { lock = 3; is_lock = lock; before = omega arith; early = 0; few = omega arith; control = λ k less. absurd (omega arith); whole = omega arith }

pub noticed : HasNoticedSlip
noticed = (tapped 7 400 903 833 868, loses 400, left 400 (lanes 7 903 833 868), slip_case _ 7 400 903 833 868 noticed_fit is_noticed)

-- One whose lane ends in the line, after the first full alignment.

short_fit : AreFit 7 400 600 833 868
short_fit = record { at = omega arith; begins = omega arith; ends = omega arith; blue_within = omega arith; green_within = omega arith; red_within = omega arith }

ends_before : EndsBeforeTwelve (tapped 7 400 600 833 868) (loses 400)
ends_before early few control = omega arith

unfoldable short_blue : List Bool
short_blue = part_of (blues received) 7 600

run_test : runs_at short_blue 3 ≡ true
unfolding passes_below short_blue received values_of control_words video_guard has window row_bits word_bits bits_of number is_control is_in
run_test = refl

before_test : none_before short_blue 3 ≡ true
unfolding passes_below short_blue received values_of control_words video_guard has window row_bits word_bits bits_of number is_control is_in
before_test = refl

short_lock : IsLock (lanes 7 600 833 868).blue 3
unfolding short_blue
short_lock = is_lock short_blue 3 run_test before_test

small : HasSmallSkew skews
small = record { blue_green = (omega arith, omega arith); green_red = (omega arith, omega arith); blue_red = (omega arith, omega arith) }

abbrev short_x : Fed
short_x = lanes 7 600 833 868

abbrev short_y : Fed
short_y = left 400 short_x

short_aligned : (d e f : ℕ) × IsFirst short_y.blue short_y.green short_y.red d e f
short_aligned =
    let t = is_tap 7 400 600 833 868 short_fit in
    let counts : List ℕ = 600 ∷ (833 ∷ (868 ∷ [])) in
    let ns : List ℕ = 400 ∷ (833 ∷ (868 ∷ [])) in
    let is : Received stream sent received 7 skews counts short_x = record { reception = reception; tapped = t } in
    let line = in_line 7 400 600 833 868 short_fit in
    let none = short_passes stream sent received 7 skews counts short_x short_y 0 400 3 26 56 is (slips 400 short_x) line ends_before in
    let edges = lane_edges stream sent received 7 skews counts short_x short_y 0 400 3 26 56 is (slips 400 short_x) line 3 short_lock (omega arith) none in
    let long = long_blue in
    let tap : IsTap received 7 skews ns (take 400 short_x.blue) short_x.green short_x.red = record {
      blue_part = record { within = omega arith; bits_are = take-take 400 600 (drop 7 (row_bits (blues received))) (omega arith) };
      green_part = t.green_part;
      red_part = t.red_part;
    } in
    let holds : HoldsEnd 7 skews ns 24 = record {
      begins = each_lane (λ l. 7 + slice_index skews l + 120 ≤ 10 * 24) (omega arith) (omega arith) (omega arith);
      reaches = each_lane (λ l. 10 * 24 + 10 ≤ 7 + slice_index skews l + slice_index ns l) (omega arith) (omega arith) (omega arith);
    } in
    let h = first_until stream sent received (free_received stream sent received reception) 7 skews ns _ _ _ tap small 24 (record { after = after_first; spares = alone.spares 24; holds = holds }) in (
      h.0,
      h.1,
      h.2,
      first_same (IsEdge (take 400 short_x.blue)) (IsEdge short_x.green) (IsEdge short_x.red) (IsEdge short_y.blue) (IsEdge short_y.green) (IsEdge short_y.red)
          (λ e. let b = edges e in (b.1, b.0)) (λ e. (λ g. g, λ g. g)) (λ e. (λ g. g, λ g. g)) h.0 h.1 h.2 h.3,
    )

pub short : HasShortSlip
short = (
  tapped 7 400 600 833 868,
  loses 400,
  short_y,
  slip_case _ 7 400 600 833 868 short_fit (ends_before, (3, (short_lock, omega arith)), short_aligned),
)

-- One whose lane begins with eleven control characters.

unlocked_fit : AreFit 127 280 783 713 748
unlocked_fit = record { at = omega arith; begins = omega arith; ends = omega arith; blue_within = omega arith; green_within = omega arith; red_within = omega arith }

unfoldable blue : List Bool
blue = part_of (blues received) 127 783

-- at none of the places before it the first and the last character of a run are both control words
abbrev is_no_run : List Bool → ℕ → Bool
is_no_run xs p = not (has (window xs p) && has (window xs (p + 110)))

none_test : passes_below 161 (is_no_run blue) ≡ true
unfolding passes_below blue received values_of control_words video_guard has window row_bits word_bits bits_of number is_control is_in
none_test = refl

is_control_at : (xs : List Bool) (p : ℕ) → HasControl xs p → has (window xs p) ≡ true
unfolding has
is_control_at xs p h = ap has h.here ∙ h.control

both : (a b : Bool) → a ≡ true → b ≡ true → (a && b) ≡ true
both a b p q = ap₂ (λ (u v : Bool). u && v) p q

no_run : (p : ℕ) → p < 161 → IsRun blue p → ⊥
no_run p lt run =
    let first : p + 10 * 0 ≡ p = omega arith in
    let last : p + 10 * 11 ≡ p + 110 = omega arith in
    let a = is_control_at blue p (subst (HasControl blue) first (run 0 (omega arith))) in
    let b = is_control_at blue (p + 110) (subst (HasControl blue) last (run 11 (omega arith))) in
    clash _ (both _ _ a b) (not_true _ (passes_at 161 (is_no_run blue) p none_test lt))

no_lock : HasNoLockBefore (tapped 127 280 783 713 748) (loses 280)
unfolding blue
no_lock lock is = let before = is.1 in no_run lock (omega arith) is.0.run

abbrev x : Fed
x = lanes 127 783 713 748

abbrev y : Fed
y = left 280 x

aligned : (d e f : ℕ) × IsFirst y.blue y.green y.red d e f
aligned =
    let t = is_tap 127 280 783 713 748 unlocked_fit in
    let like = lane_like stream sent received 127 skews (783 ∷ (713 ∷ (748 ∷ []))) x y 0 280 3 26 56 (record { reception = reception; tapped = t }) (slips 280 x)
    (in_line 127 280 783 713 748 unlocked_fit) (λ lock is before. no_lock lock (is, before)) in
    let ns : List ℕ = 780 ∷ (713 ∷ (748 ∷ [])) in
    let tap : IsTap received 127 later ns (drop 3 x.blue) x.green x.red = record { blue_part = like.part; green_part = t.green_part; red_part = t.red_part } in
    let holds : HoldsEnd 127 later ns 76 = record {
      begins = each_lane (λ l. 127 + slice_index later l + 120 ≤ 10 * 76) (omega arith) (omega arith) (omega arith);
      reaches = each_lane (λ l. 10 * 76 + 10 ≤ 127 + slice_index later l + slice_index ns l) (omega arith) (omega arith) (omega arith);
    } in
    let h = first_until stream sent received (free_received stream sent received reception) 127 later ns _ _ _ tap after 76 (record { after = after_second; spares = alone.spares 76; holds = holds }) in (
      h.0,
      h.1,
      h.2,
      first_same (IsEdge (drop 3 x.blue)) (IsEdge x.green) (IsEdge x.red) (IsEdge y.blue) (IsEdge y.green) (IsEdge y.red)
          (λ e. let b = like.edges e in (b.1, b.0)) (λ e. (λ g. g, λ g. g)) (λ e. (λ g. g, λ g. g)) h.0 h.1 h.2 h.3,
    )

pub unlocked : HasUnlockedSlip
unlocked = (tapped 127 280 783 713 748, loses 280, y, slip_case _ 127 280 783 713 748 unlocked_fit (no_lock, aligned))
