use Rattle.std.proofs.Common.{arith, ◌≡◌, ◌∙◌, ℕ, ◌+◌, ◌-◌, ◌*◌, ◌%◌, ◌^◌, ◌<◌, Bool, List, [], ◌∷◌, length, take, drop, min, slice_index, ap, ap₂}
use Rattle.tmds_word.specs.Column.{Column}
use Rattle.capture_file.specs.declared.writing.Tap.{Tap}
use Rattle.capture_file.specs.Lanes.{Collected}
use Rattle.capture_file.specs.Captures.{layout}
use Rattle.capture_file.specs.Taps.{limited, tap_lag, tap_count, tap_of, tapped_capture, part_capture, HasBits}
use Rattle.capture_file.proofs.Columns.{seen}
use Rattle.capture_file.proofs.Parts.{lane_parts, lane_start, lane_same}
use Rattle.capture_file.proofs.writing.write_capture.Goals as goal

-- what is known of a tap of three rows, of the places where its lanes begin, and of how many bits it takes
record Known (blue green red : List Bool) (x y z p q r : ℕ) (columns : List Column) (tap : Tap) : Type 0 where
  has_blue : HasBits blue x p
  has_green : HasBits green y q
  has_red : HasBits red z r
  same : tapped_capture columns tap ≡ part_capture tap.version blue green red (x ∷ y ∷ z ∷ []) (p ∷ q ∷ r ∷ [])

counted : (tap : Tap) (n lag k lane : ℕ) → k ≡ limited tap.bits (10 * n - tap.offset - lag) → lag ≡ tap_lag tap lane → k ≡ tap_count tap n lane
counted tap n lag k lane is same = is ∙ ap (λ l. limited tap.bits (10 * n - tap.offset - l)) same

known : (blue green red : List Bool) (refusals x y z p q r : ℕ) (now : Collected) (tap : Tap) → seen blue green red refusals ≡ now
    → length blue % 10 ≡ 0 → length blue < 2 ^ 32 → length green ≡ length blue → length red ≡ length blue
    → p ≡ tap_count tap (length now.columns) 0 → q ≡ tap_count tap (length now.columns) 1 → r ≡ tap_count tap (length now.columns) 2
    → x ≡ min (tap.offset + slice_index tap.skews 0) 4294967295 → y ≡ min (tap.offset + slice_index tap.skews 1) 4294967295 → z ≡ min (tap.offset + slice_index tap.skews 2) 4294967295
    → Known blue green red x y z p q r now.columns tap
unfolding tapped_capture
known blue green red refusals x y z p q r now tap is whole short same_green same_red ep eq er ex ey ez =
    let l = lane_parts blue green red refusals p q r now tap is whole same_green same_red ep eq er in
    let short_green : length green < 2 ^ 32 = omega arith in
    let short_red : length red < 2 ^ 32 = omega arith in
    let t = tap_of now.columns tap in
    record {
      has_blue = lane_start blue (tap.offset + slice_index tap.skews 0) x p l.blue_in short ex;
      has_green = lane_start green (tap.offset + slice_index tap.skews 1) y q l.green_in short_green ey;
      has_red = lane_start red (tap.offset + slice_index tap.skews 2) z r l.red_in short_red ez;
      same =
          ap (λ xs. layout tap.version xs t.green t.red) (l.blue_is ∙ lane_same blue (tap.offset + slice_index tap.skews 0) x p l.blue_in short ex)
          ∙ ap₂ (λ ys zs. layout tap.version (take p (drop x blue)) ys zs)
          (l.green_is ∙ lane_same green (tap.offset + slice_index tap.skews 1) y q l.green_in short_green ey)
          (l.red_is ∙ lane_same red (tap.offset + slice_index tap.skews 2) z r l.red_in short_red ez);
    }

pub write_rows-requires : goal.write_rows-requires
write_rows-requires g c =
    let i = c.lanes.invariant in
    let s = c.lanes.inside in
    let t = c.args.tap.now in
    let n = length c.args.lanes.now.columns in
    let k =
    known s.blue s.green s.red s.refusals c.saturating_add.result c.saturating_add-2.result c.saturating_add-3.result c.length.result c.length-2.result c.length-3.result c.args.lanes.now t c.lanes.view_is i.whole i.short i.green i.red
    (counted t n _ c.length.result 0 c.length.ensures c.lags-lags.ensures.blue) (counted t n _ c.length-2.result 1 c.length-2.ensures c.lags-lags.ensures.green) (counted t n _ c.length-3.result 2 c.length-3.ensures c.lags-lags.ensures.red)
    c.saturating_add.ensures c.saturating_add-2.ensures c.saturating_add-3.ensures in
    record { blue = k.has_blue; green = k.has_green; red = k.has_red }

pub returns : goal.returns
returns g c =
    let i = c.lanes.invariant in
    let s = c.lanes.inside in
    let t = c.args.tap.now in
    let n = length c.args.lanes.now.columns in
    let k =
    known s.blue s.green s.red s.refusals c.saturating_add.result c.saturating_add-2.result c.saturating_add-3.result c.length.result c.length-2.result c.length-3.result c.args.lanes.now t c.lanes.view_is i.whole i.short i.green i.red
    (counted t n _ c.length.result 0 c.length.ensures c.lags-lags.ensures.blue) (counted t n _ c.length-2.result 1 c.length-2.ensures c.lags-lags.ensures.green) (counted t n _ c.length-3.result 2 c.length-3.ensures c.lags-lags.ensures.red)
    c.saturating_add.ensures c.saturating_add-2.ensures c.saturating_add-3.ensures in
    let e = c.write_rows.ensures in
    record { whole = rw k.same e.whole; part = rw k.same e.part; missing = rw k.same e.missing; cause = e.cause }
