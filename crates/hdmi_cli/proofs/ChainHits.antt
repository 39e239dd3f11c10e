-- Hits of whole characters of a tap.
use Rattle.std.proofs.Common.{◌≡◌, ℕ, zero, suc, ◌+◌, ◌*◌, ◌<◌, ◌≤◌, Bool, List, [], ◌∷◌, ◌++◌, length, map, refl, ap, ◌∙◌, sym, subst, arith, ◌==◌, length-append}
use Rattle.std.specs.Prelude.{slice_index}
use Rattle.std.proofs.lemmas.List.{length-map, map-append}
use Rattle.tmds_word.specs.Column.{Column}
use Rattle.tmds_word.specs.Taps.{part_of, IsPart, IsTap}
use Rattle.capture_file.specs.Damage.{with_word, hit_by, damaged}
use Rattle.capture_file.specs.declared.damaging.Hit.{Hit}
use Rattle.hdmi_cli.specs.Chain.{HitTapIsTap, hit_column}
use Rattle.hdmi_cli.proofs.Swapped.{whole_hit}

-- a lane of columns, the character of one of which is another, or the same
hit_words : (us vs : List ℕ) (before : List ℕ) (v w : ℕ) (after : List ℕ) (from count place : ℕ) (bits : List Bool) → us ≡ before ++ (v ∷ after) → vs ≡ before ++ (w ∷ after) → length vs ≡ length us
    → IsPart us from count bits → place + from ≡ 10 * length before → place + 10 ≤ count → IsPart vs from count (with_word place w bits)
hit_words us vs before v w after from count place bits u k same is at le =
    let within = is.within in
    record {
      within = omega (arith, within, same);
      bits_are =
          subst (λ (r : List Bool). with_word place w r ≡ part_of vs from count) (sym is.bits_are)
          (subst (λ (ws : List ℕ). with_word place w (part_of us from count) ≡ part_of ws from count) (sym k)
          (subst (λ (ws : List ℕ). with_word place w (part_of ws from count) ≡ part_of (before ++ (w ∷ after)) from count) (sym u) (whole_hit before v w after from count place at le)));
    }

as_long : (g : Column → ℕ) (before : List Column) (c d : Column) (after : List Column) → length (map g (before ++ (d ∷ after))) ≡ length (map g (before ++ (c ∷ after)))
as_long g before c d after = grind (arith, length-map, length-append)

lane_hit : (g : Column → ℕ) (before : List Column) (c d : Column) (after : List Column) (from count place : ℕ) (bits : List Bool)
    → IsPart (map g (before ++ (c ∷ after))) from count bits → place + from ≡ 10 * length before → place + 10 ≤ count
    → IsPart (map g (before ++ (d ∷ after))) from count (with_word place (g d) bits)
lane_hit g before c d after from count place bits is at le =
    hit_words (map g (before ++ (c ∷ after))) (map g (before ++ (d ∷ after))) (map g before) (g c) (g d) (map g after) from count place bits
    (map-append g before (c ∷ after)) (map-append g before (d ∷ after)) (as_long g before c d after) is (omega (arith, length-map before g, at)) le

lane_same : (g : Column → ℕ) (before : List Column) (c d : Column) (after : List Column) (from count : ℕ) (bits : List Bool)
    → IsPart (map g (before ++ (c ∷ after))) from count bits → g c ≡ g d → IsPart (map g (before ++ (d ∷ after))) from count bits
lane_same g before c d after from count bits is same =
    subst (λ (ws : List ℕ). IsPart ws from count bits)
    (map-append g before (c ∷ after) ∙ ap (λ (w : ℕ). map g before ++ (w ∷ map g after)) same ∙ sym (map-append g before (d ∷ after))) is

one_hit : (offset : ℕ) (skews counts : List ℕ) (lane place value : ℕ) (before : List Column) (c : Column) (after : List Column) (blue green red : List Bool)
    → IsTap (before ++ (c ∷ after)) offset skews counts blue green red → lane < 3 → place + (offset + slice_index skews lane) ≡ 10 * length before → place + 10 ≤ slice_index counts lane
    → let h : Hit = record { lane = lane; place = place; value = value } in
    IsTap (before ++ (hit_column lane value c ∷ after)) offset skews counts (hit_by (lane == 0) h blue) (hit_by (lane == 1) h green) (hit_by (lane == 2) h red)
one_hit offset skews counts zero place value before c after blue green red tap lt at le = record {
  blue_part = lane_hit (λ x. x.blue) before c (hit_column 0 value c) after (offset + slice_index skews 0) (slice_index counts 0) place blue tap.blue_part at le;
  green_part = lane_same (λ x. x.green) before c (hit_column 0 value c) after (offset + slice_index skews 1) (slice_index counts 1) green tap.green_part refl;
  red_part = lane_same (λ x. x.red) before c (hit_column 0 value c) after (offset + slice_index skews 2) (slice_index counts 2) red tap.red_part refl;
}
one_hit offset skews counts (suc zero) place value before c after blue green red tap lt at le = record {
  blue_part = lane_same (λ x. x.blue) before c (hit_column 1 value c) after (offset + slice_index skews 0) (slice_index counts 0) blue tap.blue_part refl;
  green_part = lane_hit (λ x. x.green) before c (hit_column 1 value c) after (offset + slice_index skews 1) (slice_index counts 1) place green tap.green_part at le;
  red_part = lane_same (λ x. x.red) before c (hit_column 1 value c) after (offset + slice_index skews 2) (slice_index counts 2) red tap.red_part refl;
}
one_hit offset skews counts (suc (suc zero)) place value before c after blue green red tap lt at le = record {
  blue_part = lane_same (λ x. x.blue) before c (hit_column 2 value c) after (offset + slice_index skews 0) (slice_index counts 0) blue tap.blue_part refl;
  green_part = lane_same (λ x. x.green) before c (hit_column 2 value c) after (offset + slice_index skews 1) (slice_index counts 1) green tap.green_part refl;
  red_part = lane_hit (λ x. x.red) before c (hit_column 2 value c) after (offset + slice_index skews 2) (slice_index counts 2) place red tap.red_part at le;
}
one_hit offset skews counts (suc (suc (suc n))) place value before c after blue green red tap lt at le = absurd (omega arith)

pub hit_tap : HitTapIsTap
unfolding damaged
hit_tap offset skews counts [] columns received blue green red tap hit within = subst (λ (cs : List Column). IsTap cs offset skews counts blue green red) hit tap
hit_tap offset skews counts (h ∷ hits) columns received blue green red tap (before, c, after, are, lane, at, more) (fits, within) =
    let there = subst (λ (cs : List Column). IsTap cs offset skews counts blue green red) are tap in
    let one = one_hit offset skews counts h.lane h.place h.value before c after blue green red there lane at fits in
    hit_tap offset skews counts hits (before ++ (hit_column h.lane h.value c ∷ after)) received (hit_by (h.lane == 0) h blue) (hit_by (h.lane == 1) h green) (hit_by (h.lane == 2) h red) one more within
