-- The bits that a tap takes of columns are a tap of them, and what is written of them is their capture.
use Rattle.std.proofs.Common.{◌≡◌, ◌≢◌, ℕ, ◌+◌, ◌-◌, ◌*◌, ◌^◌, ◌<◌, ◌≤◌, Bool, List, length, arith, length-drop, length-take-le}
use Rattle.std.specs.Prelude.{slice_index, ◌==◌}
use Rattle.std.proofs.lemmas.Bool.{cases_eq, ne_eqb}
use Rattle.std.proofs.lemmas.List.{length-map}
use Rattle.tmds_word.specs.Column.{Column}
use Rattle.tmds_word.specs.Taps.{IsTap}
use Rattle.tmds_word.proofs.Lists.{length-row_bits}
use Rattle.capture_file.specs.Captures.{IsCaptureOf, header_of, layout}
use Rattle.capture_file.specs.Taps.{greatest, tap_lag, tap_count, tap_counts, tap_of, tapped_capture}
use Rattle.capture_file.specs.declared.writing.Tap.{Tap}
use Rattle.capture_file.proofs.Heads.{header_if_one, header_if_two}
use Rattle.capture_file.proofs.Parts.{if_least, limited_le}

-- a lane of a tap lies within its columns
lane_within : (tap : Tap) (n c : ℕ) → slice_index tap.skews c ≤ greatest tap.skews → tap.offset + greatest tap.skews ≤ 10 * n
    → tap.offset + slice_index tap.skews c + tap_count tap n c ≤ 10 * n
lane_within tap n c most within =
    let lag : slice_index tap.skews c ≤ tap_lag tap c = if_least (tap.version == 2) (slice_index tap.skews c) (greatest tap.skews) most in
    omega (arith, limited_le tap.bits (10 * n - tap.offset - tap_lag tap c))

pub tap_is_tap : (columns : List Column) (tap : Tap) → tap.offset + greatest tap.skews ≤ 10 * length columns
    → IsTap columns tap.offset tap.skews (tap_counts tap columns) (tap_of columns tap).blue (tap_of columns tap).green (tap_of columns tap).red
tap_is_tap columns tap within = grind (arith, length-map, lane_within)

layout_one : (version : ℕ) (x y z : List Bool) → (version ≢ 2) → length x < 2 ^ 32 → length y ≡ length x → length z ≡ length x → IsCaptureOf x y z (layout version x y z)
unfolding layout header_of
layout_one version x y z not small green red = grind (arith, header_if_one)

-- the layout in the second version
layout_two : (version : ℕ) (x y z : List Bool) → version ≡ 2 → length x < 2 ^ 32 → length y < 2 ^ 32 → length z < 2 ^ 32 → IsCaptureOf x y z (layout version x y z)
unfolding layout
layout_two version x y z two small green red = grind (arith, header_if_two)

pub tap_is_captured : (columns : List Column) (tap : Tap) → tap.offset + greatest tap.skews ≤ 10 * length columns → 10 * length columns < 2 ^ 32
    → IsCaptureOf (tap_of columns tap).blue (tap_of columns tap).green (tap_of columns tap).red (tapped_capture columns tap)
unfolding tapped_capture
tap_is_captured columns tap within few = grind (arith, tap_is_tap, lane_within, cases_eq, ne_eqb, layout_one, layout_two, length-take-le, length-drop, length-row_bits)
